-- What a gate on pairs does, from its rule, its most controls and its own tests; and the rule of one that leaves s0. Definitions only. Assumes nothing.
use Rattle.std.specs.Prelude.{ℕ, List}
use Rattle.book.specs.Answers.{Test, Buffers, Outcome, outcome_of}
use Rattle.book.specs.Kernels.{size_tests, pair_call}
use Rattle.book.specs.State.{pair}
use Rattle.book.specs.declared.Amplitude.{Amplitude}
use Rattle.book.specs.declared.Controls.{Controls}
use Rattle.book.specs.declared.Pair.{Pair}

abbrev pub pair_gate : (Pair → Pair) → ℕ → List Test → ℕ → ℕ → Controls → Buffers → Outcome
pair_gate rule most own n t c b = outcome_of (size_tests n b) b (pair_call rule most own n t c b)

abbrev pub upper_rule : (Amplitude → Amplitude) → Pair → Pair
upper_rule upper p = pair p.s0 (upper p.s1)
