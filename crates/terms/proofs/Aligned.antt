-- The two terms of F, brought to one unit: the smaller one may be cut and rounded to odd, and nothing changes. Over any format, and over the number of
-- digits that the longer term is sure to have. Assumes nothing.
use mathlib.Core.Path.{◌≡◌, sym, ap, ◌∙◌, subst}
use mathlib.Core.Logic.{◌⊎◌, inl, inr}
use Prim.Native.Nat.{ℕ, suc, ◌+◌, ◌-◌, ◌*◌, ◌/◌, ◌%◌, ◌^◌, ◌≤◌, ◌<◌}
use native.Mathlib.Nat.{le_trans, le_of_eq, lt_of_lt_of_le, lt_of_le_of_lt, mul_assoc, mul_left_comm, mul-pos, mul-le-mul_right, pow-succ', zero-lt-suc, mod-lt, div-add-mod'}
use native.Mathlib.Omega.{arith}
use mathlib.Core.Bool.{Bool, true, false, not}
use lib.Dec.{T, ltb, ltb→lt, nltb→le}
use lib.Pow.{pow-add, pow_pos, pow_mono, shl_lt}
use lib.Ieee.{Format, prec, low, size, sum}
use lib.Ieee.Digits.{size-lt}
use Rattle.numbers.proofs.Sizes.{pow_lt_back}
use Rattle.numbers.proofs.Sums.{sum_swap}
use Rattle.rounding.specs.Odd.{to_odd, cut_to_odd}
use Rattle.rounding.specs.Working.{below, scale}
use Rattle.rounding.proofs.Alike.{Alike}
use Rattle.terms.proofs.AlikeLaws.{chain, coarser, scaled}
use Rattle.rounding.proofs.RoundToOdd.{odd_alike, cut_alike}
use Rattle.terms.proofs.AlikeSums.{sum_alike}

-- a result that is large, or a place that lies below the last one that counts
over : (r v p x : ℕ) → (2 ^ (v + p) ≤ r) ⊎ (v + 1 ≤ x) → v + 1 ≤ x + (size r - x - p)
over r v p x (inl h) = go (size r) (pow_lt_back (v + p) (size r) (lt_of_le_of_lt h (size-lt r)))
  where
    go : (z : ℕ) → v + p < z → v + 1 ≤ x + (z - x - p)
    go z l = omega arith
over r v p x (inr h) = omega arith

-- one term is at least twice some large q, the other below it; or the place v lies below the last one that counts
abbrev Apart : Format → ℕ → ℕ → ℕ → Type 0
Apart f v A n = ((q : ℕ) × (2 ^ (v + prec f) ≤ q) × (q + q ≤ A) × (n < q)) ⊎ (v + 1 ≤ below f)

replace : (f : Format) (s : Bool) (x : ℕ) (t : Bool) (n m v : ℕ) → Alike (2 ^ v) n m → Apart f v (x * 2 ^ v) n
    → sum f s (x * 2 ^ v) t n (scale f) ≡ sum f s (x * 2 ^ v) t m (scale f)
replace f s x t n m v k (inl (q, a, b, c)) =
    sum_alike f s x t n m (below f) v k
    (over (x * 2 ^ v + n) v (prec f) (below f) (inl (le_trans a (plus (x * 2 ^ v) b))))
    (λ h. over (x * 2 ^ v - n) v (prec f) (below f) (inl (le_trans a (minus (x * 2 ^ v) b))))
    (λ h. absurd (no (x * 2 ^ v) b h))
  where
    plus : (A : ℕ) → q + q ≤ A → q ≤ A + n
    plus A h = omega arith

    minus : (A : ℕ) → q + q ≤ A → q ≤ A - n
    minus A h = omega arith

    no : (A : ℕ) → q + q ≤ A → A < n → ⊥
    no A h l = omega arith
replace f s x t n m v k (inr h) =
    sum_alike f s x t n m (below f) v k (over (x * 2 ^ v + n) v (prec f) (below f) (inr h)) (λ _. over (x * 2 ^ v - n) v (prec f) (below f) (inr h))
    (λ _. over (n - x * 2 ^ v) v (prec f) (below f) (inr h))

halves : (w a : ℕ) → w % 2 ≡ 0 → w / 2 * 2 ^ suc a ≡ w * 2 ^ a
halves w a h = ap (λ (y : ℕ). w / 2 * y) (pow-succ' 2 a) ∙ sym (mul_assoc (w / 2) 2 (2 ^ a)) ∙ ap (λ (y : ℕ). y * 2 ^ a) (even w h)
  where
    even : (w : ℕ) → w % 2 ≡ 0 → w / 2 * 2 ≡ w
    even w h = omega arith

-- 2 ^ (B + a), twice, is what a term of B + 1 digits behind its leading one has at least
twice : (B a w : ℕ) → 2 ^ suc B ≤ w → 2 ^ (B + a) + 2 ^ (B + a) ≤ w * 2 ^ a
twice B a w h = le_trans (le_of_eq (dbl (2 ^ (B + a)) ∙ sym (pow-succ' 2 (B + a)) ∙ ap (λ (y : ℕ). 2 ^ y) (one B a) ∙ pow-add 2 (suc B) a))
    (mul-le-mul_right (2 ^ a) h)
  where
    dbl : (p : ℕ) → p + p ≡ 2 * p
    dbl p = omega arith

    one : (B a : ℕ) → suc (B + a) ≡ suc B + a
    one B a = omega arith

-- ---- m * 2 ^ b in units of 2 ^ a, where b is below a
pub finer : (f : Format) (B : ℕ) → prec f + 1 ≤ B → (s : Bool) (w a : ℕ) (t : Bool) (m b : ℕ) → b < a → w % 2 ≡ 0 → 2 ^ suc B ≤ w → m < 2 ^ suc B
    → sum f s (w * 2 ^ a) t (cut_to_odd m (a - b) * 2 ^ a) (scale f) ≡ sum f s (w * 2 ^ a) t (m * 2 ^ b) (scale f)
finer f B room s w a t m b l even W M =
    let c = cut_to_odd m (a - b) in
    let e : w / 2 * 2 ^ suc a ≡ w * 2 ^ a = halves w a even in
    let back : 2 ^ (a - b) * 2 ^ b ≡ 2 ^ a = sym (pow-add 2 (a - b) b) ∙ ap (λ (y : ℕ). 2 ^ y) (omega arith) in
    let up : 2 ^ suc (a - b) * 2 ^ b ≡ 2 ^ suc a = sym (pow-add 2 (suc (a - b)) b) ∙ ap (λ (y : ℕ). 2 ^ y) (omega arith) in
    let k : Alike (2 ^ suc a) (m * 2 ^ b) (c * 2 ^ a) =
    subst (λ (y : ℕ). Alike y (m * 2 ^ b) (c * 2 ^ a)) up
    (subst (λ (y : ℕ). Alike (2 ^ suc (a - b) * 2 ^ b) (m * 2 ^ b) y) (mul_assoc c (2 ^ (a - b)) (2 ^ b) ∙ ap (λ (y : ℕ). c * y) back)
    (scaled (2 ^ suc (a - b)) (2 ^ b) (pow_pos (suc (a - b))) (pow_pos b) (cut_alike m (a - b)))) in
    let N : m * 2 ^ b < 2 ^ (B + a) = lt_of_lt_of_le (shl_lt (suc B) b M) (pow_mono (omega arith)) in
    let r : sum f s (w / 2 * 2 ^ suc a) t (m * 2 ^ b) (scale f) ≡ sum f s (w / 2 * 2 ^ suc a) t (c * 2 ^ a) (scale f) =
    replace f s (w / 2) t (m * 2 ^ b) (c * 2 ^ a) (suc a) k
    (inl (2 ^ (B + a), pow_mono (high a B (prec f) room), subst (λ (y : ℕ). 2 ^ (B + a) + 2 ^ (B + a) ≤ y) (sym e) (twice B a w W), N)) in
    sym (subst (λ (y : ℕ). sum f s y t (m * 2 ^ b) (scale f) ≡ sum f s y t (c * 2 ^ a) (scale f)) e r)
  where
    high : (a B p : ℕ) → p + 1 ≤ B → suc a + p ≤ B + a
    high a B p h = omega arith

-- ---- two limbs times 2 ^ a in units of 2 ^ b, where b is above a by 64 or more
pub coarse : (f : Format) (B : ℕ) → prec f + 1 ≤ B → (s : Bool) (w a : ℕ) (t : Bool) (m b : ℕ) → 64 ≤ b - a → w < 2 ^ (64 + prec f)
    → m % 2 ≡ 0
    → (low f + 6 < b → 2 ^ suc B ≤ m)
    → sum f s (cut_to_odd (to_odd (w / 2 ^ 64) (w % 2 ^ 64)) (b - a - 64) * 2 ^ b) t (m * 2 ^ b) (scale f) ≡ sum f s (w * 2 ^ a) t (m * 2 ^ b) (scale f)
coarse f B room s w a t m b D W even M =
    let d = b - a - 64 in
    let o = to_odd (w / 2 ^ 64) (w % 2 ^ 64) in
    let c = cut_to_odd o d in
    let G = 2 ^ 64 * 2 ^ a in
    let two_pos : 0 < 2 = zero-lt-suc 1 in
    let G_pos : 0 < G = mul-pos (pow_pos 64) (pow_pos a) in
    let e : m / 2 * 2 ^ suc b ≡ m * 2 ^ b = halves m b even in
    let g : 2 ^ b ≡ 2 ^ d * G = ap (λ (y : ℕ). 2 ^ y) (parts a b D) ∙ pow-add 2 d (64 + a) ∙ ap (λ (y : ℕ). 2 ^ d * y) (pow-add 2 64 a) in
    let k1 : Alike (2 * G) (w * 2 ^ a) (o * G) =
    subst (λ (y : ℕ). Alike y (w * 2 ^ a) (o * G)) (mul_assoc 2 (2 ^ 64) (2 ^ a))
    (subst (λ (y : ℕ). Alike (2 * 2 ^ 64 * 2 ^ a) (w * 2 ^ a) y) (mul_assoc o (2 ^ 64) (2 ^ a))
    (scaled (2 * 2 ^ 64) (2 ^ a) (mul-pos two_pos (pow_pos 64)) (pow_pos a) (odd_alike (2 ^ 64) (w / 2 ^ 64) (w % 2 ^ 64) w (mod-lt w (pow_pos 64)) (sym (div-add-mod' w (2 ^ 64)))))) in
    let k2 : Alike (2 ^ suc b) (w * 2 ^ a) (o * G) =
    subst (λ (y : ℕ). Alike y (w * 2 ^ a) (o * G)) (mul_left_comm (2 ^ d) 2 G ∙ ap (λ (y : ℕ). 2 * y) (sym g) ∙ sym (pow-succ' 2 b))
    (coarser (2 * G) (2 ^ d) (mul-pos two_pos G_pos) (pow_pos d) k1) in
    let k3 : Alike (2 ^ suc b) (o * G) (c * 2 ^ b) =
    subst (λ (y : ℕ). Alike y (o * G) (c * 2 ^ b)) (ap (λ (y : ℕ). y * G) (pow-succ' 2 d) ∙ mul_assoc 2 (2 ^ d) G ∙ ap (λ (y : ℕ). 2 * y) (sym g)
    ∙ sym (pow-succ' 2 b))
    (subst (λ (y : ℕ). Alike (2 ^ suc d * G) (o * G) y) (mul_assoc c (2 ^ d) G ∙ ap (λ (y : ℕ). c * y) (sym g))
    (scaled (2 ^ suc d) G (pow_pos (suc d)) G_pos (cut_alike o d))) in
    let N : w * 2 ^ a < 2 ^ (B + b) = lt_of_lt_of_le (shl_lt (64 + prec f) a W) (pow_mono (down a b B (prec f) D room)) in
    let r : sum f t (m / 2 * 2 ^ suc b) s (w * 2 ^ a) (scale f) ≡ sum f t (m / 2 * 2 ^ suc b) s (c * 2 ^ b) (scale f) =
    replace f t (m / 2) s (w * 2 ^ a) (c * 2 ^ b) (suc b) (chain k2 k3)
    (subst (λ (y : ℕ). Apart f (suc b) y (w * 2 ^ a)) (sym e) (place (reach (low f) b) N)) in
    sum_swap f s (c * 2 ^ b) t (m * 2 ^ b) (scale f)
    ∙ sym (subst (λ (y : ℕ). sum f t y s (w * 2 ^ a) (scale f) ≡ sum f t y s (c * 2 ^ b) (scale f)) e r)
    ∙ sum_swap f t (m * 2 ^ b) s (w * 2 ^ a) (scale f)
  where
    parts : (a b : ℕ) → 64 ≤ b - a → b ≡ b - a - 64 + (64 + a)
    parts a b h = omega arith

    down : (a b B p : ℕ) → 64 ≤ b - a → p + 1 ≤ B → 64 + p + a ≤ B + b
    down a b B p h k = omega arith

    high : (b B p : ℕ) → p + 1 ≤ B → suc b + p ≤ B + b
    high b B p h = omega arith

    reach : (L b : ℕ) → (L + 6 < b) ⊎ (suc b + 1 ≤ L + 16)
    reach L b = pick (ltb (L + 6) b) (ltb→lt (L + 6) b) (nltb→le (L + 6) b)
      where
        pick : (x : Bool) → (T x → L + 6 < b) → (T (not x) → b ≤ L + 6) → (L + 6 < b) ⊎ (suc b + 1 ≤ L + 16)
        pick true f g = inl (f tt)
        pick false f g = let h : b ≤ L + 6 = g tt in inr (omega arith)

    place : (low f + 6 < b) ⊎ (suc b + 1 ≤ below f) → w * 2 ^ a < 2 ^ (B + b) → Apart f (suc b) (m * 2 ^ b) (w * 2 ^ a)
    place (inl z) N = inl (2 ^ (B + b), pow_mono (high b B (prec f) room), twice B b m (M z), N)
    place (inr z) N = inr z
