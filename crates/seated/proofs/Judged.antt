-- A call after its judge: one that passed does its work, and another keeps what was there; and one list of tests judged behind another. Assumes nothing.
use Prim.Native.Nat.{ℕ, zero, suc, ◌<◌}
use mathlib.Core.List.{List, [], ◌++◌, append_assoc}
use mathlib.Core.Path.{◌≡◌, refl, sym, ◌∙◌, subst}
use native.Mathlib.Omega.{arith}
use lib.Dec.{T}
use Rattle.std.specs.Prelude.{Ok, Err}
use Rattle.book.proofs.Calls.{refuses, takes}
use Rattle.book.proofs.Refusals.{numbered, first_clear, first_stays}
use Rattle.book.specs.Answers.{number_of, Answer, says, Test, first, Buffers, Call, accepted, outcome_of, Does}
use Rattle.book.specs.declared.Refusal.{Refusal}
use Rattle.book.specs.declared.Refusal.TheVariants.{Size, Length, Qubit, Same, Form, Number, Chance, Record, Session, Early, Full, Room}
use Rattle.seated.specs.Judging.{Ruling, Judges}

-- no refusal has the number 0
some_number : (r : Refusal) → 0 < number_of r
some_number Size = omega arith
some_number Length = omega arith
some_number Qubit = omega arith
some_number Same = omega arith
some_number Form = omega arith
some_number Number = omega arith
some_number Chance = omega arith
some_number Record = omega arith
some_number Session = omega arith
some_number Early = omega arith
some_number Full = omega arith
some_number Room = omega arith

-- a list of tests that let a call pass
pub passed : {ts : List Test} {u : Unit} → Judges ts (Ok u) → first ts ≡ 0
passed j = sym j.is

-- no test
pub none_judged : Judges [] (Ok tt)
unfolding first
none_judged = record { is = refl }

-- ---- one list of tests behind another

module _ (ts us : List Test) (w : T (numbered ts)) where
  pub judged_behind : {u : Unit} {r : Ruling} → Judges ts (Ok u) → Judges us r → Judges (ts ++ us) r
  judged_behind j j' = record { is = j'.is ∙ sym (first_clear ts us w (passed j)) }

  -- what is refused stays so, whatever follows
  pub judged_stays : {r : Refusal} → Judges ts (Err r) → Judges (ts ++ us) (Err r)
  judged_stays {r} j = by (first ts) refl
    where
      by : (k : ℕ) → first ts ≡ k → Judges (ts ++ us) (Err r)
      by zero e = absurd (omega (arith, some_number r, j.is))
      by (suc k) e = record { is = j.is ∙ e ∙ sym (first_stays ts us e) }

-- a call's seat is judged, and then its own tests
module _ (sizes seat own : List Test) (w : T (numbered (sizes ++ seat))) where
  regroup : {r : Ruling} → Judges ((sizes ++ seat) ++ own) r → Judges (sizes ++ (seat ++ own)) r
  regroup {r} = subst (λ (ts : List Test). Judges ts r) (append_assoc sizes seat own)

  pub seat_refused : {r : Refusal} → Judges (sizes ++ seat) (Err r) → Judges (sizes ++ (seat ++ own)) (Err r)
  seat_refused j = regroup (judged_stays (sizes ++ seat) own w j)

  pub own_decides : {u : Unit} {r : Ruling} → Judges (sizes ++ seat) (Ok u) → Judges own r → Judges (sizes ++ (seat ++ own)) r
  own_decides j k = regroup (judged_behind (sizes ++ seat) own w j k)

-- ---- the call that was judged

module _ (sizes : List Test) (b : Buffers) (c : Call) where
  -- none applied: the work is done
  pub works : {u : Unit} → Judges (sizes ++ c.tests) (Ok u) → {r : Answer} {b' : Buffers} → says r ≡ accepted c.answer → b' ≡ c.left
      → Does (outcome_of sizes b c) r b'
  works j = takes b c (passed j)

  -- one did: its number, and what was there
  pub keeps : {r : Refusal} → Judges (sizes ++ c.tests) (Err r) → Does (outcome_of sizes b c) (Err r) b
  keeps {r} j = refuses r b c (sym j.is)
