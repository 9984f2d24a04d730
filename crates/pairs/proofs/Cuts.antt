-- The fixed bits cut in two: the ones that they end in, below stride, and the rest, whose lowest bit gives the length of a run. Assumes nothing.
use Prim.Native.Nat.{ℕ, zero, suc, ◌+◌, ◌-◌, ◌*◌, ◌/◌, ◌%◌, ◌^◌, ◌≤◌, ◌<◌}
use mathlib.Core.Path.{◌≡◌, refl, sym, ap, ◌∙◌}
use native.Mathlib.Decide.{ℕ_discrete, dec_lt}
use native.Mathlib.Nat.{pow-suc, mul_assoc, mul_comm, add-mul, one-mul, le_of_mul-le-mul_right}
use native.Mathlib.Omega.{arith}
use lib.Count.{count_trailing_zeros, under}
use lib.Pow.{pow_pos, pow-add, pow_mono}
use Rattle.pairs.specs.Runs.{Cut}

-- ---- the power of 2 below a number's lowest bit divides it
trailing_divides : (k x : ℕ) → (z : ℕ) × (x ≡ z * 2 ^ count_trailing_zeros k x)
unfolding count_trailing_zeros
trailing_divides zero x = (x, omega arith)
trailing_divides (suc k) x = go (count_trailing_zeros k (x / 2)) (trailing_divides k (x / 2)) (x % 2) refl
  where
    go : (t : ℕ) → (z : ℕ) × (x / 2 ≡ z * 2 ^ t) → (d : ℕ) → x % 2 ≡ d → (z : ℕ) × (x ≡ z * 2 ^ under d t)
    go t q zero e =
        let m : q.0 * 2 ^ suc t ≡ q.0 * 2 ^ t * 2 = ap (λ (p : ℕ). q.0 * p) (pow-suc 2 t) ∙ sym (mul_assoc q.0 (2 ^ t) 2) in
        (q.0, omega (arith, q.1))
    go t q (suc d) e = (x, omega arith)

trailing_suc : (k x j : ℕ) → x % 2 ≡ 0 → j ≤ count_trailing_zeros k (x / 2) → suc j ≤ count_trailing_zeros (suc k) x
unfolding count_trailing_zeros
trailing_suc k x j e h = rw e (omega arith)

-- and no larger one does
trailing_most : (k x j z : ℕ) → j ≤ k → x ≡ z * 2 ^ j → j ≤ count_trailing_zeros k x
trailing_most k x zero z h e = omega arith
trailing_most zero x (suc j) z h e = absurd (omega arith)
trailing_most (suc k) x (suc j) z h e =
    let m : z * 2 ^ suc j ≡ z * 2 ^ j * 2 = ap (λ (p : ℕ). z * p) (pow-suc 2 j) ∙ sym (mul_assoc z (2 ^ j) 2) in
    let o : x % 2 ≡ 0 = omega arith in
    let d : x / 2 ≡ z * 2 ^ j = omega arith in
    trailing_suc k x j o (trailing_most k (x / 2) j z (omega arith) d)

pub pow_split : (r n : ℕ) → r ≤ n → 2 ^ n ≡ 2 ^ (n - r) * 2 ^ r
pow_split r n h = let e : n ≡ n - r + r = omega arith in ap (λ (x : ℕ). 2 ^ x) e ∙ pow-add 2 (n - r) r

-- a multiple's power is at most the number's size
power_le : (x n k z : ℕ) → 0 < x → x < 2 ^ suc n → x ≡ z * 2 ^ k → k ≤ n
power_le x n k zero p l e = absurd (omega arith)
power_le x n k (suc z) p l e =
    elim (dec_lt n k) [ yes h ↦ absurd (omega (arith, add-mul 1 z (2 ^ k), one-mul (2 ^ k), pow_mono {i = suc n} {j = k} h)) | no h ↦ omega arith ]

less_mul : (z q s : ℕ) → q ≤ z → (z - q) * s + q * s ≡ z * s
less_mul z q s h = let e : z - q + q ≡ z = omega arith in sym (add-mul (z - q) q s) ∙ ap (λ (x : ℕ). x * s) e

-- ---- the cut, where not every qubit is fixed
module _ (n fixed : ℕ) (fits : n ≤ 24) (free : fixed + 1 < 2 ^ n) where
  tail : ℕ
  tail = count_trailing_zeros 64 (fixed + 1)

  v : ℕ
  v = (trailing_divides 64 (fixed + 1)).0

  cut_tail : fixed + 1 ≡ v * 2 ^ tail
  unfolding tail v
  cut_tail = (trailing_divides 64 (fixed + 1)).1

  more : 2 ^ suc n ≡ 2 ^ n * 2
  more = pow-suc 2 n

  pub tail_lt : count_trailing_zeros 64 (fixed + 1) < n
  unfolding tail v
  tail_lt =
      elim (dec_lt (count_trailing_zeros 64 (fixed + 1)) n) [
        | yes h ↦ h
        | no h ↦ absurd (big v (pow_mono {i = n} {j = count_trailing_zeros 64 (fixed + 1)} (omega arith)) cut_tail)
      ]
    where
      big : (v : ℕ) → 2 ^ n ≤ 2 ^ count_trailing_zeros 64 (fixed + 1) → fixed + 1 ≡ v * 2 ^ count_trailing_zeros 64 (fixed + 1) → ⊥
      big zero a e = omega arith
      big (suc v) a e = omega (arith, add-mul 1 v (2 ^ count_trailing_zeros 64 (fixed + 1)), one-mul (2 ^ count_trailing_zeros 64 (fixed + 1)))

  -- v is odd
  odd : (w : ℕ) × (v ≡ w * 2 + 1)
  unfolding tail v
  odd =
      elim (ℕ_discrete (v % 2) 1) [
        | yes h ↦ (v / 2, omega arith)
        | no h ↦
            let w : ℕ = v / 2 in
            let e : v ≡ w * 2 = omega arith in
            let m : w * 2 ^ suc tail ≡ w * 2 * 2 ^ tail = ap (λ (p : ℕ). w * p) (pow-suc 2 tail ∙ mul_comm (2 ^ tail) 2) ∙ sym (mul_assoc w 2 (2 ^ tail)) in
            let x : fixed + 1 ≡ w * 2 ^ suc tail = cut_tail ∙ ap (λ (z : ℕ). z * 2 ^ tail) e ∙ sym m in
            let l : suc tail ≤ tail = trailing_most 64 (fixed + 1) (suc tail) w (omega (arith, tail_lt)) x in
            absurd (omega arith)
      ]

  module _ (stride : ℕ) (is : stride ≡ 2 ^ count_trailing_zeros 64 (fixed + 1)) where
    w : ℕ
    w = odd.0

    -- what is left of the fixed bits
    rest : w * 2 ^ suc tail + (stride - 1) ≡ fixed
    unfolding tail w
    rest =
        let m : w * 2 ^ suc tail ≡ w * 2 * 2 ^ tail = ap (λ (p : ℕ). w * p) (pow-suc 2 tail ∙ mul_comm (2 ^ tail) 2) ∙ sym (mul_assoc w 2 (2 ^ tail)) in
        let a : (w * 2 + 1) * 2 ^ tail ≡ w * 2 * 2 ^ tail + 1 * 2 ^ tail = add-mul (w * 2) 1 (2 ^ tail) in
        let b : fixed + 1 ≡ (w * 2 + 1) * 2 ^ tail = cut_tail ∙ ap (λ (z : ℕ). z * 2 ^ tail) odd.1 in
        omega (arith, pow_pos tail)

    pub low_le : stride - 1 ≤ fixed
    low_le = omega (arith, rest)

    pub wide_sum : fixed - (stride - 1) + (stride - 1) ≡ fixed
    wide_sum = omega (arith, low_le)

    abbrev all : ℕ
    all = fixed - (stride - 1) + 2 ^ n

    wide_small : all < 2 ^ suc n
    wide_small = omega (arith, more)

    pub run_le : count_trailing_zeros 64 (fixed - (stride - 1) + 2 ^ n) ≤ n
    run_le = power_le all n (count_trailing_zeros 64 all) (trailing_divides 64 all).0 (omega (arith, pow_pos n)) wide_small (trailing_divides 64 all).1

    pub cut : (run : ℕ) → run ≡ 2 ^ count_trailing_zeros 64 (fixed - (stride - 1) + 2 ^ n) → Cut n (fixed - (stride - 1)) run stride
    unfolding tail w
    cut run ir =
        let r : ℕ = count_trailing_zeros 64 all in
        let z : ℕ = (trailing_divides 64 all).0 in
        let div : all ≡ z * 2 ^ r = (trailing_divides 64 all).1 in
        let rn : r ≤ n = run_le in
        let q : ℕ = 2 ^ (n - r) in
        let whole : 2 ^ n ≡ q * 2 ^ r = pow_split r n rn in
        let qz : q ≤ z = le_of_mul-le-mul_right {m = q} {n = z} {k = 2 ^ r} (omega arith) (pow_pos r) in
        let kr : suc tail ≤ r =
        trailing_most 64 all (suc tail) (w + 2 ^ (n - suc tail)) (omega (arith, tail_lt))
        (omega (arith, rest, pow_split (suc tail) n tail_lt, add-mul w (2 ^ (n - suc tail)) (2 ^ suc tail))) in
        record {
          k = tail;
          r = r;
          y = z - q;
          stride_is = is;
          run_is = ir;
          below = kr;
          within = rn;
          wide_is = omega (arith, less_mul z q (2 ^ r) qz);
        }
