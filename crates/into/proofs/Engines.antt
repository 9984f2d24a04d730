-- The two engines agree: where the outputs have their length both are judged by the same tests, and both meet one call of the book. Assumes nothing.
use Prim.Native.Nat.{ℕ, zero, suc, ◌^◌}
use mathlib.Core.Bool.{Bool, true, false, cond, ◌||◌}
use mathlib.Core.List.{List, ◌++◌}
use Rattle.std.specs.Prelude.{Option, Some, None}
use mathlib.Core.Path.{◌≡◌, refl, sym, ap, ap₂, ◌∙◌}
use Rattle.book.proofs.Agree.{says_agree}
use Rattle.book.proofs.Calls.{refused_keeps}
use Rattle.book.specs.Answers.{Answer, Said, says, Test, first, Buffers, Call, Outcome, accepted, unless, accepts, Does}
use Rattle.book.specs.Calls.{call_of, act}
use Rattle.book.specs.Kernels.{bad_length, size_tests}
use Rattle.book.specs.declared.Gate.{Gate}
use Rattle.into.specs.Into.{into_tests, into, EnginesAgree}

or_false : (x y : Bool) → y ≡ false → (x || y) ≡ x
or_false true y e = refl
or_false false y e = e

-- outputs that add no refusal 2 add no test
same_tests : (n : ℕ) (b out : Buffers) → (bad_length (2 ^ n) b || bad_length (2 ^ n) out) ≡ bad_length (2 ^ n) b → into_tests n b out ≡ size_tests n b
unfolding into_tests size_tests
same_tests n b out e = rw e

-- one call, from what is before it in two ways
module _ (c : Call) (b out : Buffers) where
  same_says : (k : ℕ) → (unless k out c).says ≡ (unless k b c).says
  same_says zero = refl
  same_says (suc k) = refl

  same_left : (k : ℕ) → (unless k out c).left ≡ cond (accepts (unless k b c).says) (unless k b c).left out
  same_left zero = by c.answer
    where
      by : (v : Option ℕ) → c.left ≡ cond (accepts (accepted v)) c.left out
      by None = refl
      by (Some v) = refl
  same_left (suc k) = refl

module _ (n : ℕ) (g : Gate) (b out : Buffers) (e : (bad_length (2 ^ n) b || bad_length (2 ^ n) out) ≡ bad_length (2 ^ n) b) where
  abbrev c : Call
  c = call_of n g b

  abbrev refusal : ℕ
  refusal = first (size_tests n b ++ c.tests)

  is : into n g b out ≡ unless refusal out c
  is = ap (λ (ts : List Test). unless (first (ts ++ c.tests)) out c) (same_tests n b out e)

  into_says : (into n g b out).says ≡ (act n g b).says
  into_says = ap (λ (o : Outcome). o.says) is ∙ same_says c b out refusal

  into_left : (into n g b out).left ≡ cond (accepts (act n g b).says) (act n g b).left out
  into_left = ap (λ (o : Outcome). o.left) is ∙ same_left c b out refusal

  module _ {slow : Answer} {out' : Buffers} (d : Does (into n g b out) slow out') where
    pub same_answer : says slow ≡ (act n g b).says
    same_answer = d.answers ∙ into_says

    pub same_places : out' ≡ cond (accepts (says slow)) (act n g b).left out
    same_places = d.leaves ∙ into_left ∙ ap (λ (x : Said). cond (accepts x) (act n g b).left out) (sym same_answer)

    -- what was taken, written over what was there, is what the kernel leaves; what was refused leaves it
    pub written_over : accepts (says slow) ≡ true → Does (act n g b) slow out'
    written_over h = record { answers = same_answer; leaves = same_places ∙ ap (λ (x : Bool). cond x (act n g b).left out) h }

    pub left_alone : accepts (says slow) ≡ false → Does (act n g b) slow b
    left_alone h = record { answers = same_answer; leaves = sym (refused_keeps b c (size_tests n b) (ap accepts (sym same_answer) ∙ h)) }

pub engines_agree : EnginesAgree
engines_agree n g b out b' out' kernel slow e k s =
    let no_more = or_false (bad_length (2 ^ n) b) (bad_length (2 ^ n) out) e in
    let one = says_agree (same_answer n g b out no_more s) k.answers in (
      one,
      same_places n g b out no_more s ∙ ap₂ (λ (x : Answer) (y : Buffers). cond (accepts (says x)) y out) one (sym k.leaves),
    )
