-- A call that is refused, and one that does its work, meet the contract `Does`; and what holds of any call, whatever its tests. Assumes nothing.
use Prim.Native.Nat.{ℕ, zero, suc}
use mathlib.Core.Bool.{false}
use mathlib.Core.List.{List, [], ◌++◌}
use Rattle.std.specs.Prelude.{Option, Some, None, Err}
use mathlib.Core.Path.{◌≡◌, refl, sym, ap, subst}
use native.Mathlib.Omega.{arith}
use lib.Dec.{T}
use Rattle.book.specs.Answers.{number_of, refused, Answer, says, Test, first, Buffers, Call, accepted, unless, outcome_of, accepts, Does}
use Rattle.book.specs.declared.Refusal.{Refusal}
use Rattle.book.specs.declared.Refusal.TheVariants.{Size, Length, Qubit, Same, Form, Number, Chance, Record, Session, Early, Full, Room}
use Rattle.book.proofs.Refusals.{numbered, first_clear, first_stays}

refusal : (r : Refusal) (b : Buffers) (work : Call) → Does (unless (number_of r) b work) (Err r) b
refusal Size b work = record { answers = refl; leaves = refl }
refusal Length b work = record { answers = refl; leaves = refl }
refusal Qubit b work = record { answers = refl; leaves = refl }
refusal Same b work = record { answers = refl; leaves = refl }
refusal Form b work = record { answers = refl; leaves = refl }
refusal Number b work = record { answers = refl; leaves = refl }
refusal Chance b work = record { answers = refl; leaves = refl }
refusal Record b work = record { answers = refl; leaves = refl }
refusal Session b work = record { answers = refl; leaves = refl }
refusal Early b work = record { answers = refl; leaves = refl }
refusal Full b work = record { answers = refl; leaves = refl }
refusal Room b work = record { answers = refl; leaves = refl }

-- a refusal returns its number, and nothing changed
pub refuses : (r : Refusal) {k : ℕ} (b : Buffers) (work : Call) → k ≡ number_of r → Does (unless k b work) (Err r) b
refuses r b work e = subst (λ (j : ℕ). Does (unless j b work) (Err r) b) (sym e) (refusal r b work)

-- with no refusal the call does its work
pub takes : {k : ℕ} {answer : Answer} {after : Buffers} (b : Buffers) (work : Call) → k ≡ 0 → says answer ≡ accepted work.answer → after ≡ work.left
    → Does (unless k b work) answer after
takes {answer = answer} {after = after} b work e p q =
    subst (λ (j : ℕ). Does (unless j b work) answer after) (sym e) (record { answers = p; leaves = q })

-- ---- any call, whatever its tests

module _ (b : Buffers) (c : Call) where
  unless_refused : (k : ℕ) → accepts (unless k b c).says ≡ false → (unless k b c).left ≡ b
  unless_refused zero h = by c.answer h
    where
      by : (v : Option ℕ) → accepts (accepted v) ≡ false → c.left ≡ b
      by None e = absurd (let z : ◌≡◌ {A = ℕ} 0 1 = cc e in omega arith)
      by (Some v) e = absurd (let z : ◌≡◌ {A = ℕ} 0 1 = cc e in omega arith)
  unless_refused (suc k) h = refl

  -- a call that is refused leaves the buffers as they were
  pub refused_keeps : (sizes : List Test) → accepts (outcome_of sizes b c).says ≡ false → (outcome_of sizes b c).left ≡ b
  refused_keeps sizes = unless_refused (first (sizes ++ c.tests))

  -- once the size is right, the call's own tests decide
  pub sized_right : (sizes : List Test) → T (numbered sizes) → first sizes ≡ 0 → outcome_of sizes b c ≡ outcome_of [] b c
  sized_right sizes w e = ap (λ (k : ℕ). unless k b c) (first_clear sizes c.tests w e)

  -- and a wrong size refuses it
  pub sized_wrong : (sizes : List Test) {k : ℕ} → first sizes ≡ suc k → outcome_of sizes b c ≡ record { says = refused (suc k); left = b }
  sized_wrong sizes e = ap (λ (k : ℕ). unless k b c) (first_stays sizes c.tests e)
