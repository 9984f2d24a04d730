-- SWAP and the bit flip, judged: what each test refuses, what the engine asks, and what its closure worked out. Assumes nothing.
use Prim.Native.Nat.{ℕ, ◌+◌, ◌^◌, ◌≤◌, ◌<◌, max}
use native.Mathlib.Decide.{dec_le}
use mathlib.Core.Bool.{Bool, true, false, cond, ◌||◌}
use mathlib.Core.List.{[], ◌∷◌, ◌++◌}
use mathlib.Core.Path.{◌≡◌, refl, sym, ap, ◌∙◌, subst}
use native.Mathlib.Omega.{arith}
use borrow.Author.Tests.{leb-false}
use lib.Dec.{T, leb}
use lib.Ieee as Ieee
use Rattle.std.specs.Prelude.{Some, None, Ok, Err}
use Rattle.book.proofs.Refusals.{numbered, clear}
use Rattle.book.proofs.Tables.{held_only}
use Rattle.book.specs.Answers.{value, ◌⇒◌, Buffers, Does}
use Rattle.book.specs.Gates.{x_rule, noise_of, finite_tests}
use Rattle.book.specs.Kernels.{exchanged, swapped, swap_call, bit_flip_call}
use Rattle.book.specs.Lent.{SameSize}
use Rattle.book.specs.State.{at, uncontrolled, placed, on_pairs}
use Rattle.book.specs.declared.Gate.TheVariants.{Swap, BitFlip}
use Rattle.book.specs.declared.Noise.{Noise}
use Rattle.book.specs.declared.Refusal.{Refusal}
use Rattle.into.proofs.Judged.{passed_both}
use Rattle.into.specs.Into.{into_tests, into}
use Rattle.seated.proofs.Judged.{seat_refused, own_decides, works, keeps}
use Rattle.seated.proofs.Seats.{higher}
use Rattle.seated.specs.Judging.{Ruling, Judges, free_tests}
use Rattle.slow.specs.Slow.{Sized, Reaches}

-- ---- after the judge of both

module _ (n t : ℕ) (b out : Buffers) {u : Unit} (j : Judges (into_tests n b out ++ free_tests n t) (Ok u)) where
  pub outputs : Sized n out
  outputs = let p = (passed_both n b out (free_tests n t) j).0 in record { fits = p.fits; reals = p.outs.0; imags = p.outs.1 }

  pub inputs : Sized n b
  inputs = let p = (passed_both n b out (free_tests n t) j).0 in record { fits = p.fits; reals = p.ins.0; imags = p.ins.1 }

  qubit : t < n
  qubit = leb-false n t (clear (free_tests n t) tt (passed_both n b out (free_tests n t) j).1).0

  pub reaches : (x y : ℕ) → x < t + 1 → y < t + 1 → (i : ℕ) → i < 2 ^ n → Reaches x y b i
  reaches x y l m i h = record { n = n; sized = inputs; one = omega (arith, qubit); two = omega (arith, qubit); inside = h }

-- ---- SWAP: its two qubits are judged by the higher

or_comm : (x y : Bool) → (x || y) ≡ (y || x)
or_comm true true = refl
or_comm true false = refl
or_comm false true = refl
or_comm false false = refl

by_higher : (n t0 t1 : ℕ) → leb n (max t0 t1) ≡ (leb n t0 || leb n t1)
by_higher n t0 t1 = by (dec_le t0 t1)
  where
    by : Dec (t0 ≤ t1) → leb n (max t0 t1) ≡ (leb n t0 || leb n t1)
    by (yes l) = let is : max t0 t1 ≡ t1 = omega arith in rw is (higher n t0 t1 l)
    by (no l) = let is : max t0 t1 ≡ t0 = omega arith in rw is (higher n t1 t0 (let k : t1 ≤ t0 = omega arith in k) ∙ or_comm (leb n t1) (leb n t0))

module _ (n t0 t1 : ℕ) (b out : Buffers) where
  tests : {r : Ruling} → Judges (into_tests n b out ++ free_tests n (max t0 t1)) r → Judges (into_tests n b out ++ (swap_call n t0 t1 b).tests) r
  tests {r} j = subst (λ (x : Bool). Judges (into_tests n b out ++ (x ⇒ 3 ∷ [])) r) (by_higher n t0 t1) j

  pub swap_kept : {r : Refusal} → Judges (into_tests n b out ++ free_tests n (max t0 t1)) (Err r) → Does (into n (Swap t0 t1) b out) (Err r) out
  swap_kept j = keeps (into_tests n b out) out (swap_call n t0 t1 b) (tests j)

  module _ {u : Unit} (j : Judges (into_tests n b out ++ free_tests n (max t0 t1)) (Ok u)) where
    pub swap_reaches : (i : ℕ) → i < 2 ^ n → Reaches t0 t1 b i
    swap_reaches = reaches n (max t0 t1) b out j t0 t1 (omega arith) (omega arith)

    pub swap_done : {b' : Buffers} → SameSize out b' → ((i : ℕ) → i < 2 ^ n → at b' i ≡ at b (exchanged t0 t1 i))
        → Does (into n (Swap t0 t1) b out) (Ok None) b'
    unfolding swapped
    swap_done {b'} s h =
        let o = outputs n (max t0 t1) b out j in
        works (into_tests n b out) out (swap_call n t0 t1 b) (tests j) refl
        (held_only (2 ^ n) (λ i. at b (exchanged t0 t1 i)) b' (s.reals ∙ o.reals) (s.imags ∙ o.imags) h)

-- ---- bit flip: its seat, and then its two numbers

free_numbered : (n t : ℕ) (b out : Buffers) → T (numbered (into_tests n b out ++ free_tests n t))
unfolding into_tests
free_numbered n t b out = tt

module _ (n t : ℕ) (noise : Noise) (b out : Buffers) where
  pub flip_kept : {r : Refusal} → Judges (into_tests n b out ++ free_tests n t) (Err r) → Does (into n (BitFlip t noise) b out) (Err r) out
  flip_kept j =
      keeps (into_tests n b out) out (bit_flip_call n t noise b)
      (seat_refused (into_tests n b out) (free_tests n t) (finite_tests (noise_of noise)) (free_numbered n t b out) j)

  module _ {u : Unit} (j : Judges (into_tests n b out ++ free_tests n t) (Ok u)) where
    all : {r : Ruling} → Judges (finite_tests (noise_of noise)) r → Judges (into_tests n b out ++ (bit_flip_call n t noise b).tests) r
    all k = own_decides (into_tests n b out) (free_tests n t) (finite_tests (noise_of noise)) (free_numbered n t b out) j k

    pub flip_number : {r : Refusal} → Judges (finite_tests (noise_of noise)) (Err r) → Does (into n (BitFlip t noise) b out) (Err r) out
    flip_number k = keeps (into_tests n b out) out (bit_flip_call n t noise b) (all k)

    pub flip_reaches : (i : ℕ) → i < 2 ^ n → Reaches t t b i
    flip_reaches = reaches n t b out j t t (omega arith) (omega arith)

    -- ran or not
    flips : {v : Unit} → Judges (finite_tests (noise_of noise)) (Ok v) → (ran : Bool) → Ieee.le noise.draw noise.prob ≡ ran → {b' : Buffers}
        → b' ≡ cond ran (on_pairs x_rule n t uncontrolled b) b → Does (into n (BitFlip t noise) b out) (Ok (Some (cond ran 1 0))) b'
    flips k ran h {b'} q =
        works (into_tests n b out) out (bit_flip_call n t noise b) (all k) (ap (λ (x : Bool). value (cond x 1 0)) (sym h))
        (q ∙ ap (λ (x : Bool). cond x (on_pairs x_rule n t uncontrolled b) b) (sym h))

    pub flip_ran : {v : Unit} → Judges (finite_tests (noise_of noise)) (Ok v) → Ieee.le noise.draw noise.prob ≡ true → {b' : Buffers} → SameSize out b'
        → ((i : ℕ) → i < 2 ^ n → at b' i ≡ placed x_rule t uncontrolled (at b) i) → Does (into n (BitFlip t noise) b out) (Ok (Some 1)) b'
    unfolding on_pairs
    flip_ran k h {b'} s p =
        let o = outputs n t b out j in
        flips k true h (held_only (2 ^ n) (placed x_rule t uncontrolled (at b)) b' (s.reals ∙ o.reals) (s.imags ∙ o.imags) p)

    pub flip_not : {v : Unit} → Judges (finite_tests (noise_of noise)) (Ok v) → Ieee.le noise.draw noise.prob ≡ false
        → Does (into n (BitFlip t noise) b out) (Ok (Some 0)) b
    flip_not k h = flips k false h refl
