-- A call from one state into another, judged: 1 and 2 of the outputs, then 1 and 2 of the inputs with the seat, then the gate's own tests. What each refuses,
-- and what is known once all are passed. Assumes nothing.
use Prim.Native.Nat.{ℕ, ◌^◌, ◌≤◌}
use mathlib.Core.Bool.{Bool, true, false, cond, ◌||◌}
use mathlib.Core.List.{List, [], ◌++◌}
use mathlib.Core.Path.{◌≡◌, refl, ◌∙◌}
use borrow.Author.Tests.{ltb-false}
use lib.Dec.{T, ltb}
use lib.ListN.{length}
use Rattle.std.specs.Prelude.{Option, Ok, Err}
use Rattle.std.specs.Result.{result_and}
use Rattle.book.proofs.Refusals.{numbered, clear_start, neither, right_lengths, sizes_numbered}
use Rattle.book.specs.Answers.{Answer, says, Test, first, Buffers, Call, call, Outcome, outcome_of, accepted, Does}
use Rattle.book.specs.Kernels.{bad_size, bad_length, most_qubits, size_tests}
use Rattle.book.specs.declared.Refusal.{Refusal}
use Rattle.seated.proofs.Judged.{passed, judged_behind, judged_stays, seat_refused, own_decides, works, keeps}
use Rattle.seated.specs.Judging.{Ruling, Judges}
use Rattle.into.specs.Into.{into_tests}

fold : (x y z : Bool) (k : ℕ) → cond x 1 (cond y 2 (cond x 1 (cond z 2 k))) ≡ cond x 1 (cond (z || y) 2 k)
fold true y z k = refl
fold false true true k = refl
fold false true false k = refl
fold false false true k = refl
fold false false false k = refl

-- the outputs' size before the inputs': the tests of both
first_both : (n : ℕ) (b out : Buffers) (us : List Test) → first (size_tests n out ++ (size_tests n b ++ us)) ≡ first (into_tests n b out ++ us)
unfolding first size_tests into_tests
first_both n b out us = fold (bad_size most_qubits n) (bad_length (2 ^ n) out) (bad_length (2 ^ n) b) (first us)

-- n is in its range, and the lengths are right
pub right_sizes : (n : ℕ) (b : Buffers) {u : Unit} → Judges (size_tests n b) (Ok u) → (n ≤ 24) × (length b.reals ≡ 2 ^ n) × (length b.imags ≡ 2 ^ n)
unfolding size_tests
right_sizes n b j =
    let ((size, (long, _)), _) = clear_start (size_tests n b) [] tt (passed j) in
    let (r, i) = right_lengths (2 ^ n) b long in
    (ltb-false 24 n (neither (ltb n 1) (ltb 24 n) size).1, r, i)

-- one judge after the other
pub outputs_refused : (n : ℕ) (b out : Buffers) (us : List Test) {r : Refusal} → Judges (size_tests n out) (Err r) → Judges (into_tests n b out ++ us) (Err r)
outputs_refused n b out us j =
    record { is = (judged_stays (size_tests n out) (size_tests n b ++ us) (sizes_numbered n out) j).is ∙ first_both n b out us }

pub then_inputs : (n : ℕ) (b out : Buffers) (us : List Test) {u : Unit} {r : Ruling} → Judges (size_tests n out) (Ok u) → Judges (size_tests n b ++ us) r
    → Judges (into_tests n b out ++ us) r
then_inputs n b out us j k =
    record { is = (judged_behind (size_tests n out) (size_tests n b ++ us) (sizes_numbered n out) j k).is ∙ first_both n b out us }

-- both judged, and the first refusal told
pub both_judged : (n : ℕ) (b out : Buffers) (us : List Test) (r : Ruling) {s : Ruling} → Judges (size_tests n out) r → Judges (size_tests n b ++ us) s
    → Judges (into_tests n b out ++ us) (result_and r s)
both_judged n b out us (Ok u) j k = then_inputs n b out us j k
both_judged n b out us (Err e) j k = outputs_refused n b out us j

-- what holds of both states once 1 and 2 are passed
pub record Passed (n : ℕ) (b out : Buffers) : Type 0 where
  pub fits : n ≤ 24
  pub ins : (length b.reals ≡ 2 ^ n) × (length b.imags ≡ 2 ^ n)
  pub outs : (length out.reals ≡ 2 ^ n) × (length out.imags ≡ 2 ^ n)

pub passed_both : (n : ℕ) (b out : Buffers) (us : List Test) {u : Unit} → Judges (into_tests n b out ++ us) (Ok u) → Passed n b out × (first us ≡ 0)
unfolding into_tests
passed_both n b out us j =
    let ((size, (long, _)), behind) = clear_start (into_tests n b out) us tt (passed j) in
    let (x, y) = neither (bad_length (2 ^ n) b) (bad_length (2 ^ n) out) long in (
      record {
        fits = ltb-false 24 n (neither (ltb n 1) (ltb 24 n) size).1;
        ins = right_lengths (2 ^ n) b x;
        outs = right_lengths (2 ^ n) out y;
      },
      behind,
    )

-- ---- a call with the tests of a seat, and its own behind them

module _ (n : ℕ) (b out : Buffers) (seat own : List Test) (w : T (numbered (size_tests n b ++ seat))) (v : Option ℕ) (left : Buffers) where
  abbrev c : Call
  c = call (seat ++ own) v left

  abbrev outcome : Outcome
  outcome = outcome_of (into_tests n b out) out c

  pub size_refuses : {r : Refusal} → Judges (size_tests n out) (Err r) → Does outcome (Err r) out
  size_refuses j = keeps (into_tests n b out) out c (outputs_refused n b out c.tests j)

  module _ {u : Unit} (j : Judges (size_tests n out) (Ok u)) where
    pub seat_refuses : {r : Refusal} → Judges (size_tests n b ++ seat) (Err r) → Does outcome (Err r) out
    seat_refuses k = keeps (into_tests n b out) out c (then_inputs n b out c.tests j (seat_refused (size_tests n b) seat own w k))

    module _ {u' : Unit} (k : Judges (size_tests n b ++ seat) (Ok u')) where
      pub own_refuses : {r : Refusal} → Judges own (Err r) → Does outcome (Err r) out
      own_refuses l = keeps (into_tests n b out) out c (then_inputs n b out c.tests j (own_decides (size_tests n b) seat own w k l))

      pub passes : {u'' : Unit} → Judges own (Ok u'') → {r : Answer} {b' : Buffers} → says r ≡ accepted v → b' ≡ left → Does outcome r b'
      passes l = works (into_tests n b out) out c (then_inputs n b out c.tests j (own_decides (size_tests n b) seat own w k l))
