-- What follows a measurement that is to be set back. Definitions only. Assumes nothing.
use Rattle.std.specs.Prelude.{ℕ, cond, ◌&&◌, ◌≡◌, eqb}
use Rattle.book.specs.Answers.{Buffers}
use Rattle.book.specs.Gates.{x_rule}
use Rattle.book.specs.State.{uncontrolled, on_pairs}
use Rattle.book.specs.declared.Forced.{Forced}

-- if the outcome is 1 and reset is 1, X follows
abbrev pub Reset : ℕ → ℕ → Forced → Buffers → Buffers → Type 0
Reset n target forced b b' = b' ≡ cond (eqb forced.outcome 1 && eqb forced.reset 1) (on_pairs x_rule n target uncontrolled b) b
