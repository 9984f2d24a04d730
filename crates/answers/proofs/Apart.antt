-- A number tells one answer: from each number the reply can be read off again. Assumes nothing.
use Prim.Native.Nat.{ℕ, ◌+◌, ◌-◌}
use native.Mathlib.Omega.{arith}
use mathlib.Core.Bool.{cond}
use mathlib.Core.Path.{◌≡◌, refl, sym, ap, ◌∙◌}
use lib.Dec.{ltb, eqb}
use borrow.Author.Tests.{lt-ltb, le-ltb}
use Rattle.std.specs.Prelude.{Some, None, Ok, Err}
use Rattle.book.proofs.Agree.{refusal_of, refusal_back}
use Rattle.book.specs.Answers.{number_of, replies}
use Rattle.book.specs.declared.Refusal.{Refusal}
use Rattle.book.specs.declared.Refusal.TheVariants.{Size, Length, Qubit, Same, Form, Number, Chance, Record, Session, Early, Full, Room}
use Rattle.book.specs.declared.Reply.{Reply}
use Rattle.book.specs.declared.Reply.TheVariants.{Again, Said}
use Rattle.answers.specs.Told.{replied_number, Byte, TellsApart}

-- below 512: 0, AGAIN or a refusal
abbrev short : ℕ → Reply
short k = cond (eqb k 0) (Said (Ok None)) (cond (eqb k 256) (Again None) (Said (Err (refusal_of k))))

abbrev reply : ℕ → Reply
reply k = cond (ltb k 512) (short k) (cond (ltb k 768) (Again (Some (k - 512))) (Said (Ok (Some (k - 768)))))

refusal : (r : Refusal) → reply (number_of r) ≡ Said (Err (refusal_of (number_of r)))
refusal Size = refl
refusal Length = refl
refusal Qubit = refl
refusal Same = refl
refusal Form = refl
refusal Number = refl
refusal Chance = refl
refusal Record = refl
refusal Session = refl
refusal Early = refl
refusal Full = refl
refusal Room = refl

back : (x : Reply) → Byte x → reply (replied_number (replies x)) ≡ x
back (Again None) w = refl
back (Again (Some v)) w =
    let e : 512 + v - 512 ≡ v = omega arith in
    rw (le-ltb (512 + v) 512 (omega arith), lt-ltb (512 + v) 768 (omega (arith, w))) (ap (λ (k : ℕ). Again (Some k)) e)
back (Said (Ok None)) w = refl
back (Said (Ok (Some v))) w =
    let e : 768 + v - 768 ≡ v = omega arith in
    rw (le-ltb (768 + v) 512 (omega arith), le-ltb (768 + v) 768 (omega arith)) (ap (λ (k : ℕ). Said (Ok (Some k))) e)
back (Said (Err r)) w = refusal r ∙ ap (λ (x : Refusal). Said (Err x)) (refusal_back r)

pub tells_apart : TellsApart
tells_apart x y v w e = sym (back x v) ∙ ap reply e ∙ back y w
