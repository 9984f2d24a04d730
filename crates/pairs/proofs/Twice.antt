-- X and SWAP called twice restore every bit: of any two calls that their contracts allow, taken or refused, by what the book proves of the definitions.
-- Assumes nothing.
use Prim.Native.Nat.{ℕ}
use mathlib.Core.Path.{◌≡◌, ap, ◌∙◌}
use Rattle.book.proofs.Twice.{x_twice, swap_twice}
use Rattle.book.specs.Answers.{Answer, Buffers, Does}
use Rattle.book.specs.Calls.{act}
use Rattle.book.specs.Twice.{Undoes}
use Rattle.book.specs.declared.Controls.{Controls}
use Rattle.book.specs.declared.Gate.{Gate}
use Rattle.book.specs.declared.Gate.TheVariants.{X, Swap}

-- two calls of one gate, one after the other
twice : (g : Gate) → Undoes g → (n : ℕ) {r r' : Answer} {b b' b'' : Buffers} → Does (act n g b) r b' → Does (act n g b') r' b'' → b'' ≡ b
twice g undoes n {b = b} d e = e.leaves ∙ ap (λ (x : Buffers). (act n g x).left) d.leaves ∙ undoes n b

pub x_calls_twice : (n t : ℕ) (c : Controls) {r r' : Answer} {b b' b'' : Buffers}
    → Does (act n (X t c) b) r b' → Does (act n (X t c) b') r' b'' → b'' ≡ b
x_calls_twice n t c = twice (X t c) (x_twice t c) n

pub swap_calls_twice : (n t u : ℕ) {r r' : Answer} {b b' b'' : Buffers} → Does (act n (Swap t u) b) r b' → Does (act n (Swap t u) b') r' b'' → b'' ≡ b
swap_calls_twice n t u = twice (Swap t u) (swap_twice t u) n
