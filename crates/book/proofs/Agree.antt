-- Any two results that a contract allows agree: what an answer says gives the answer back, since no two cases say the same. Once for every call.
-- Assumes nothing.
use Prim.Native.Nat.{ℕ, ◌-◌}
use mathlib.Core.List.{[], ◌∷◌}
use mathlib.Core.Path.{◌≡◌, refl, sym, ap, ◌∙◌}
use lib.ListN.{get_or}
use Rattle.std.specs.Prelude.{Some, None, Result, Ok, Err}
use Rattle.book.specs.Answers.{number_of, Said, taken, value, refused, Answer, says, Gives, gives, denied, gives_of, Buffers, Outcome, Does}
use Rattle.book.specs.declared.Refusal.{Refusal}
use Rattle.book.specs.declared.Refusal.TheVariants.{Size, Length, Qubit, Same, Form, Number, Chance, Record, Session, Early, Full, Room}

-- What a definition tells of an answer gives the answer back: then two answers of which it tells the same are the same.
pub agree : {A B : Type 0} (tells : A → B) (back : B → A) → ((x : A) → back (tells x) ≡ x) → {a a' : A} {b : B} → tells a ≡ b → tells a' ≡ b → a ≡ a'
agree tells back is {a} {a'} p q = sym (is a) ∙ ap back (p ∙ sym q) ∙ is a'

-- the refusal of a number
abbrev pub refusal_of : ℕ → Refusal
refusal_of k =
    get_or (Size ∷ Length ∷ Qubit ∷ Same ∷ Form ∷ Number ∷ Chance ∷ Record ∷ Session ∷ Early ∷ Full ∷ Room ∷ []) (k - 1) Size

pub refusal_back : (r : Refusal) → refusal_of (number_of r) ≡ r
refusal_back Size = refl
refusal_back Length = refl
refusal_back Qubit = refl
refusal_back Same = refl
refusal_back Form = refl
refusal_back Number = refl
refusal_back Chance = refl
refusal_back Record = refl
refusal_back Session = refl
refusal_back Early = refl
refusal_back Full = refl
refusal_back Room = refl

abbrev pub answer_of : Said → Answer
answer_of taken = Ok None
answer_of (value v) = Ok (Some v)
answer_of (refused k) = Err (refusal_of k)

pub answer_back : (a : Answer) → answer_of (says a) ≡ a
answer_back (Ok None) = refl
answer_back (Ok (Some v)) = refl
answer_back (Err r) = ap Err (refusal_back r)

pub says_agree : {a a' : Answer} {s : Said} → says a ≡ s → says a' ≡ s → a ≡ a'
says_agree = agree says answer_of answer_back

-- a kernel, a measurement, a matrix call
pub does_agree : {o : Outcome} {a a' : Answer} {b b' : Buffers} → Does o a b → Does o a' b' → (a ≡ a') × (b ≡ b')
does_agree x y = (says_agree x.answers y.answers, x.leaves ∙ sym y.leaves)

-- a call that hands over a result
abbrev pub result_of : {A : Type 0} → Gives A → Result A Refusal
result_of (gives a) = Ok a
result_of (denied k) = Err (refusal_of k)

pub result_back : {A : Type 0} (r : Result A Refusal) → result_of (gives_of r) ≡ r
result_back (Ok a) = refl
result_back (Err r) = ap Err (refusal_back r)

pub gives_agree : {A : Type 0} {r r' : Result A Refusal} {g : Gives A} → gives_of r ≡ g → gives_of r' ≡ g → r ≡ r'
gives_agree = agree gives_of result_of result_back
