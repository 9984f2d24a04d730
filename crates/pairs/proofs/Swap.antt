-- SWAP after its judge, in the code's terms: the higher of its qubits is judged for both, and their order does not matter. Assumes nothing.
use Prim.Native.Nat.{ℕ, ◌+◌, ◌^◌, ◌≤◌, ◌<◌}
use mathlib.Core.Bool.{Bool, true, false, ◌||◌}
use mathlib.Core.List.{[], ◌∷◌, ◌++◌}
use mathlib.Core.Path.{◌≡◌, refl, ap₂, subst}
use native.Mathlib.Omega.{arith}
use lib.Dec.{leb}
use Rattle.std.specs.Prelude.{None, Ok, Err}
use Rattle.book.specs.Answers.{Answer, ◌⇒◌, Buffers, Outcome, call, outcome_of, Does}
use Rattle.book.specs.Gates.{x_rule}
use Rattle.book.specs.Kernels.{size_tests, swapped, swap_call}
use Rattle.book.specs.State.{uncontrolled}
use Rattle.book.specs.declared.Refusal.{Refusal}
use Rattle.seated.proofs.Judged.{passed, works, keeps}
use Rattle.seated.proofs.Seats.{free_seated, higher}
use Rattle.seated.proofs.Shifts.{shl, shl_is, pow_le}
use Rattle.seated.specs.Judging.{Judges, Ruling, Seated, free_tests}
use Rattle.pairs.specs.Pairs.{Keyed, Swept}
use Rattle.pairs.proofs.Exchanged.{swap_keyed, swept_swap, swapped_itself, swapped_sym}

abbrev pub swap_of : ℕ → ℕ → ℕ → Buffers → Outcome
swap_of n t u b = outcome_of (size_tests n b) b (swap_call n t u b)

-- SWAP is judged by u, where t is not the higher
module _ (n t u : ℕ) (b : Buffers) (order : t ≤ u) where
  judged : {r : Ruling} → Judges (size_tests n b ++ free_tests n u) r → Judges (size_tests n b ++ (swap_call n t u b).tests) r
  judged {r} = subst (λ (x : Bool). Judges (size_tests n b ++ (x ⇒ 3 ∷ [])) r) (higher n t u order)

  pub swap_kept : {r : Refusal} → Judges (size_tests n b ++ free_tests n u) (Err r) → Does (swap_of n t u b) (Err r) b
  swap_kept j = keeps (size_tests n b) b (swap_call n t u b) (judged j)

  module _ {v : Unit} (j : Judges (size_tests n b ++ free_tests n u) (Ok v)) where
    pub swap_seated : Seated n u uncontrolled b
    swap_seated = free_seated n u b [] (passed j)

    pub swap_done : {b' : Buffers} → b' ≡ swapped n t u b → Does (swap_of n t u b) (Ok None) b'
    swap_done = works (size_tests n b) b (swap_call n t u b) (judged j) refl

    pub swap_itself : t ≡ u → Does (swap_of n t u b) (Ok None) b
    swap_itself h = swap_done (swapped_itself n t u b swap_seated.reals swap_seated.imags h)

-- ---- what a sweep asks and leaves

module _ {n u : ℕ} {b : Buffers} (ok : Seated n u uncontrolled b) (t : ℕ) (less : t < u) where
  low_is : shl t ≡ 2 ^ t
  low_is = shl_is t (omega (arith, ok.qubit, ok.fits))

  high_is : shl u ≡ 2 ^ u
  high_is = shl_is u (omega (arith, ok.qubit, ok.fits))

  pub swap_small : shl t + shl u < 2 ^ 26
  swap_small =
      omega (arith, low_is, high_is, pow_le t 24 (omega (arith, ok.qubit, ok.fits)), pow_le u 24 (omega (arith, ok.qubit, ok.fits)))

  pub swap_asks : Keyed n (shl t + shl u) (shl u) (shl t) b
  swap_asks = rw (low_is, high_is) (swap_keyed t u less ok.some ok.fits ok.reals ok.imags ok.qubit)

  pub swap_swept : {b' : Buffers} → Swept x_rule n (shl t + shl u) (shl u) (shl t) b b' → b' ≡ swapped n t u b
  swap_swept w = swept_swap t u less ok.some ok.fits ok.reals ok.imags ok.qubit (rw (low_is, high_is) at w)

-- ---- the order of the qubits

or_swap : (x y : Bool) → (x || y) ≡ (y || x)
or_swap true true = refl
or_swap true false = refl
or_swap false true = refl
or_swap false false = refl

pub swap_either : (n t u : ℕ) (b : Buffers) {r : Answer} {b' : Buffers} → Does (swap_of n t u b) r b' → Does (swap_of n u t b) r b'
swap_either n t u b {r} {b'} d =
    subst (λ (o : Outcome). Does o r b')
    (ap₂ (λ (x : Bool) (left : Buffers). outcome_of (size_tests n b) b (call (x ⇒ 3 ∷ []) None left)) (or_swap (leb n t) (leb n u)) (swapped_sym n t u b)) d
