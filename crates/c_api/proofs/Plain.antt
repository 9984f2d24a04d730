-- What a call tells is what its outcome says: the answer between them is the one that both fix. So two results that it allows agree. Assumes nothing.
use Prim.Native.Nat.{ℕ}
use mathlib.Core.Path.{◌≡◌, sym, ap, ◌∙◌}
use Rattle.answers.specs.Told.{said_number}
use Rattle.book.specs.Answers.{Buffers, Outcome}
use Rattle.c_api.specs.Tells.{Tells, TellsPlainly}

pub tells_plainly : TellsPlainly
tells_plainly o code after t = (t.tells ∙ ap said_number t.does.answers, t.does.leaves)

pub tells_agree : {o : Outcome} {k k' : ℕ} {b b' : Buffers} → Tells o k b → Tells o k' b' → (k ≡ k') × (b ≡ b')
tells_agree {o} {k} {k'} {b} {b'} x y =
    let first = tells_plainly o k b x in
    let other = tells_plainly o k' b' y in
    (first.0 ∙ sym other.0, first.1 ∙ sym other.1)
