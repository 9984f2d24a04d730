-- Rounding to nearest among the numbers of p binary digits with zeros behind them, in whole numbers alone: none lies nearer to n / c than what is kept of
-- it, and where another lies as near, what is kept is even. Assumes nothing.
use mathlib.Core.Path.{◌≡◌, refl, sym, ap, ◌∙◌, subst}
use mathlib.Core.Logic.{◌⊎◌, inl, inr}
use Prim.Native.Nat.{ℕ, zero, suc, ◌+◌, ◌-◌, ◌*◌, ◌/◌, ◌%◌, ◌^◌, ◌≤◌, ◌<◌, compare, Ordering}
use native.Mathlib.Nat.{le_trans, le_of_eq, le_of_lt, lt_of_lt_of_le, lt_of_mul-lt-mul_right, le_of_mul-le-mul_right, mul_assoc, mul_comm, suc-mul, add-zero}
use native.Mathlib.Nat.{mul-pos, mul-le-mul_right, eq_of_mul-eq-mul_right, div-add-mod', mod-lt, div-div-eq-div-mul, le-div_iff_mul-le}
use native.Mathlib.Numerals.{add-one}
use native.Mathlib.Omega.{arith}
use mathlib.Core.Bool.{Bool, true, false, not}
use lib.Dec.{T, ltb, ltb→lt, nltb→le}
use lib.Pow.{pow-add, pow_pos, pow_mono, shl_lt}
use lib.Ieee.{size, nearest}
use lib.Ieee.Digits.{size-lt, size-le, size_reaches}
use lib.Ieee.Fits.{kept-lt}
use lib.Ieee.Order.{drop, kept}
use Rattle.numbers.proofs.Orders.{Cmp, cmp}

-- w is a number of p digits with zeros behind them
pub record Short (p w : ℕ) : Type 0 where
  pub head : ℕ
  pub zeros : ℕ
  pub is : w ≡ head * 2 ^ zeros
  pub few : head < 2 ^ p

pub zero_short : (p : ℕ) → Short p 0
zero_short p = record { head = 0; zeros = 0; is = refl; few = pow_pos p }

-- of such numbers none lies between j * 2 ^ k and the next multiple of 2 ^ k, where j has all its digits or k is 0
pub beside : (p w j k : ℕ) → 0 < p → Short p w → (0 < k → 2 ^ (p - 1) ≤ j) → (w ≤ j * 2 ^ k) ⊎ (suc j * 2 ^ k ≤ w)
beside p w j k P S full = go (ltb S.zeros k) (ltb→lt S.zeros k) (nltb→le S.zeros k)
  where
    short : S.zeros < k → w ≤ j * 2 ^ k
    short h =
        le_trans (le_of_lt (subst (λ (y : ℕ). y < 2 ^ (p + S.zeros)) (sym S.is) (shl_lt p S.zeros S.few)))
        (le_trans (pow_mono (room S.zeros h)) (le_trans (le_of_eq (pow-add 2 (p - 1) k)) (mul-le-mul_right (2 ^ k) (full (some S.zeros h)))))
      where
        room : (z : ℕ) → z < k → p + z ≤ p - 1 + k
        room z h = omega arith

        some : (z : ℕ) → z < k → 0 < k
        some z h = omega arith

    long : k ≤ S.zeros → (w ≤ j * 2 ^ k) ⊎ (suc j * 2 ^ k ≤ w)
    long h = pick (ltb j x) (ltb→lt j x) (nltb→le j x)
      where
        x : ℕ
        x = S.head * 2 ^ (S.zeros - k)

        multiple : w ≡ S.head * 2 ^ (S.zeros - k) * 2 ^ k
        multiple = S.is ∙ ap (λ (y : ℕ). S.head * y) (ap (λ (y : ℕ). 2 ^ y) (back S.zeros h) ∙ pow-add 2 (S.zeros - k) k)
            ∙ sym (mul_assoc S.head (2 ^ (S.zeros - k)) (2 ^ k))
          where
            back : (z : ℕ) → k ≤ z → z ≡ z - k + k
            back z h = omega arith

        pick : (t : Bool) → (T t → j < S.head * 2 ^ (S.zeros - k)) → (T (not t) → S.head * 2 ^ (S.zeros - k) ≤ j) → (w ≤ j * 2 ^ k) ⊎ (suc j * 2 ^ k ≤ w)
        pick true a b = inr (le_trans (mul-le-mul_right (2 ^ k) (a tt)) (le_of_eq (sym multiple)))
        pick false a b = inl (le_trans (le_of_eq multiple) (mul-le-mul_right (2 ^ k) (b tt)))

    go : (t : Bool) → (T t → S.zeros < k) → (T (not t) → k ≤ S.zeros) → (w ≤ j * 2 ^ k) ⊎ (suc j * 2 ^ k ≤ w)
    go true a b = inl (short (a tt))
    go false a b = long (b tt)

-- such a number with all its digits in front, or with no zeros behind
pub record Canonical (p w : ℕ) : Type 0 where
  pub head : ℕ
  pub zeros : ℕ
  pub is : w ≡ head * 2 ^ zeros
  pub few : head < 2 ^ p
  pub full : 0 < zeros → 2 ^ (p - 1) ≤ head

pub canonical : (p w : ℕ) → 0 < p → Short p w → Canonical p w
canonical p w P S =
    let z = S.zeros in
    let k = size w - p in
    let h = S.head * 2 ^ (z - k) in
    let K : k ≤ z = fewer (size w) (size-le w (p + z) (subst (λ (y : ℕ). y < 2 ^ (p + z)) (sym S.is) (shl_lt p z S.few))) in
    let e : w ≡ h * 2 ^ k = S.is ∙ ap (λ (y : ℕ). S.head * y) (ap (λ (y : ℕ). 2 ^ y) (back z k K) ∙ pow-add 2 (z - k) k)
    ∙ sym (mul_assoc S.head (2 ^ (z - k)) (2 ^ k)) in
    record {
      head = h;
      zeros = k;
      is = e;
      few = lt_of_mul-lt-mul_right (2 ^ k)
          (subst (λ (y : ℕ). y < 2 ^ p * 2 ^ k) e (lt_of_lt_of_le (size-lt w) (le_trans (pow_mono (cover (size w))) (le_of_eq (pow-add 2 p k)))));
      full = λ g. le_of_mul-le-mul_right
          (le_trans (le_of_eq (sym (pow-add 2 (p - 1) k))) (le_trans (size_reaches w (p - 1 + k) (in_use (size w) g)) (le_of_eq e))) (pow_pos k);
    }
  where
    fewer : (s : ℕ) → s ≤ p + S.zeros → s - p ≤ S.zeros
    fewer s h = omega arith

    back : (z k : ℕ) → k ≤ z → z ≡ z - k + k
    back z k h = omega arith

    cover : (s : ℕ) → s ≤ p + (s - p)
    cover s = omega arith

    in_use : (s : ℕ) → 0 < s - p → p - 1 + (s - p) < s
    in_use s h = omega arith

-- what is kept of a number's leading digits has all of them where some are dropped
pub full_head : (p n c : ℕ) → 0 < p → 0 < drop p n c → 2 ^ (p - 1) ≤ n / (c * 2 ^ drop p n c)
full_head p n c P K =
    let k = drop p n c in
    let a : 2 ^ (p - 1) * 2 ^ k ≤ n / c = le_trans (le_of_eq (sym (pow-add 2 (p - 1) k))) (size_reaches (n / c) (p - 1 + k) (in_use (size (n / c)) p P K)) in
    subst (λ (x : ℕ). 2 ^ (p - 1) ≤ x) (div-div-eq-div-mul n c (2 ^ k)) ((le-div_iff_mul-le (pow_pos k)).1 a)
  where
    in_use : (z p : ℕ) → 0 < p → 0 < z - p → p - 1 + (z - p) < z
    in_use z p P h = omega arith

pub few_head : (p n c : ℕ) → n / (c * 2 ^ drop p n c) < 2 ^ p
few_head p n c = subst (λ (x : ℕ). x < 2 ^ p) (div-div-eq-div-mul n c (2 ^ drop p n c)) (kept-lt p (n / c))

-- ---- how far a and b lie apart
abbrev pub dist : ℕ → ℕ → ℕ
dist a b = a - b + (b - a)

-- n is j units of u and a rest r, and x is a number that does not lie between j units and the next one: what n is rounded to is as near to n as x or nearer,
-- and where x is as near, it is x or even
record Side (n x q u : ℕ) : Type 0 where
  near : dist n (q * u) ≤ dist n x
  same_or_even : dist n x ≤ dist n (q * u) → (x ≡ q * u) ⊎ (q % 2 ≡ 0)

module _ (n j u r x : ℕ) (parts : j * u + r ≡ n) (rest : r < u) (out : (x ≤ j * u) ⊎ (j * u + u ≤ x)) where
  under : (l : ℕ) → l + r ≡ n → r * 2 < u → (x ≤ l) ⊎ (l + u ≤ x) → (dist n l ≤ dist n x) × (dist n x ≤ dist n l → x ≡ l)
  under l e h (inl a) = (omega arith, λ k. omega arith)
  under l e h (inr a) = (omega arith, λ k. omega arith)

  over : (l : ℕ) → l + r ≡ n → u < r * 2 → (x ≤ l) ⊎ (l + u ≤ x) → (dist n (l + u) ≤ dist n x) × (dist n x ≤ dist n (l + u) → x ≡ l + u)
  over l e h (inl a) = (omega arith, λ k. omega arith)
  over l e h (inr a) = (omega arith, λ k. omega arith)

  half : (l : ℕ) → l + r ≡ n → r * 2 ≡ u → (x ≤ l) ⊎ (l + u ≤ x) → (dist n l ≤ dist n x) × (dist n (l + u) ≤ dist n x)
  half l e h (inl a) = (omega arith, omega arith)
  half l e h (inr a) = (omega arith, omega arith)

  tie : (b : ℕ) → j % 2 ≡ b → (dist n (j * u) ≤ dist n x) × (dist n (j * u + u) ≤ dist n x) → dist n ((j + b) * u) ≤ dist n x
  tie zero e s = subst (λ (y : ℕ). dist n (y * u) ≤ dist n x) (sym (add-zero j)) s.0
  tie (suc zero) e s = subst (λ (y : ℕ). dist n y ≤ dist n x) (sym (ap (λ (y : ℕ). y * u) (add-one j) ∙ suc-mul j u)) s.1
  tie (suc (suc b)) e s = absurd (omega arith)

  side : (o : Ordering) → Cmp o (r * 2) u → Side n x (nearest j o) u
  side Ordering.lt h = let s = under (j * u) parts h out in record { near = s.0; same_or_even = λ k. inl (s.1 k) }
  side Ordering.eq h = record { near = tie (j % 2) refl (half (j * u) parts h out); same_or_even = λ k. inr (omega arith) }
  side Ordering.gt h =
      let s = subst (λ (y : ℕ). (dist n y ≤ dist n x) × (dist n x ≤ dist n y → x ≡ y)) (sym (suc-mul j u)) (over (j * u) parts h out) in
      record { near = s.0; same_or_even = λ k. inl (s.1 k) }

-- ---- what is kept of n / c
module _ (p n c : ℕ) (P : 0 < p) (C : 0 < c) where
  times : (x : ℕ) → x * 2 ^ drop p n c * c ≡ x * (c * 2 ^ drop p n c)
  times x = mul_assoc x (2 ^ drop p n c) c ∙ ap (λ (y : ℕ). x * y) (mul_comm (2 ^ drop p n c) c)

  found : (w : ℕ) → Short p w → Side n (w * c) (kept p n c) (c * 2 ^ drop p n c)
  found w S =
      let u = c * 2 ^ drop p n c in
      let j = n / u in
      side n j u (n % u) (w * c) (div-add-mod' n u) (mod-lt n (mul-pos C (pow_pos (drop p n c)))) (out j (beside p w j (drop p n c) P S (full_head p n c P)))
      (compare (n % u * 2) u) (cmp (n % u * 2) u)
    where
      out : (j : ℕ) → (w ≤ j * 2 ^ drop p n c) ⊎ (suc j * 2 ^ drop p n c ≤ w)
          → (w * c ≤ j * (c * 2 ^ drop p n c)) ⊎ (j * (c * 2 ^ drop p n c) + c * 2 ^ drop p n c ≤ w * c)
      out j (inl h) = inl (le_trans (mul-le-mul_right c h) (le_of_eq (times j)))
      out j (inr h) = inr (le_trans (le_of_eq (sym (times (suc j) ∙ suc-mul j (c * 2 ^ drop p n c)))) (mul-le-mul_right c h))

  pub kept_near : (w : ℕ) → Short p w → dist n (kept p n c * 2 ^ drop p n c * c) ≤ dist n (w * c)
  kept_near w S = subst (λ (y : ℕ). dist n y ≤ dist n (w * c)) (sym (times (kept p n c))) (found w S).near

  pub kept_even : (w : ℕ) → Short p w → dist n (w * c) ≤ dist n (kept p n c * 2 ^ drop p n c * c) → (w ≡ kept p n c * 2 ^ drop p n c) ⊎ (kept p n c % 2 ≡ 0)
  kept_even w S h = go ((found w S).same_or_even (subst (λ (y : ℕ). dist n (w * c) ≤ dist n y) (times (kept p n c)) h))
    where
      go : (w * c ≡ kept p n c * (c * 2 ^ drop p n c)) ⊎ (kept p n c % 2 ≡ 0) → (w ≡ kept p n c * 2 ^ drop p n c) ⊎ (kept p n c % 2 ≡ 0)
      go (inl e) = inl (eq_of_mul-eq-mul_right c C w (kept p n c * 2 ^ drop p n c) (e ∙ sym (times (kept p n c))))
      go (inr e) = inr e
