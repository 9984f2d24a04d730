-- The call of a gate that has a rule. Definitions only. Assumes nothing.
use Rattle.std.specs.Prelude.{ℕ}
use Rattle.book.specs.Answers.{Buffers, Call}
use Rattle.book.specs.Kernels.{pair_call}
use Rattle.book.specs.declared.Controls.{Controls}
use Rattle.slow_rules.specs.Rules.{rule_of, most_of, own_of}
use Rattle.slow_rules.specs.declared.Rule.{Rule}

-- the call of such a gate
abbrev pub rule_call : Rule → ℕ → ℕ → Controls → Buffers → Call
rule_call rule n target controls b = pair_call (rule_of rule) (most_of rule) (own_of rule) n target controls b
