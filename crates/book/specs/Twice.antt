-- X and SWAP applied twice restore every bit: the statements; proofs/Twice.antt proves them. A refused call changes nothing, so they hold for all inputs.
-- Definitions only. Assumes nothing.
use Rattle.std.specs.Prelude.{ℕ, ◌≡◌}
use Rattle.book.specs.Answers.{Buffers}
use Rattle.book.specs.Calls.{act}
use Rattle.book.specs.declared.Controls.{Controls}
use Rattle.book.specs.declared.Gate.{Gate}
use Rattle.book.specs.declared.Gate.TheVariants.{X, Swap}

-- a gate that undoes itself
abbrev pub Undoes : Gate → Type 0
Undoes g = (n : ℕ) (b : Buffers) → (act n g (act n g b).left).left ≡ b

abbrev pub XTwice : Type 0
XTwice = (target : ℕ) (controls : Controls) → Undoes (X target controls)

abbrev pub SwapTwice : Type 0
SwapTwice = (t0 t1 : ℕ) → Undoes (Swap t0 t1)
