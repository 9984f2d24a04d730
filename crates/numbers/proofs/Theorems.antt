-- F and the root are IEEE 754's: the theorems of specs/Nearest.antt, gathered. Assumes nothing.
use mathlib.Core.Path.{◌≡◌, refl, sym, ap, ap₂, ◌∙◌, subst}
use mathlib.Core.Logic.{◌⊎◌, inl, inr}
use Prim.Native.Nat.{ℕ, zero, suc, ◌+◌, ◌-◌, ◌*◌, ◌^◌, ◌≤◌, ◌<◌, compare, Ordering}
use native.Mathlib.Nat.{le_of_eq, le_of_lt, le_trans, not-le_of_lt, lt_irrefl, mul-pos, mul-lt-mul_of_pos_right, zero-mul, zero-lt-suc}
use native.Mathlib.Omega.{arith}
use mathlib.Core.Bool.{Bool, true, false, ◌&&◌, beq, cond, true≢false}
use lib.IntN.{ℤ, pos, negsuc, nat_abs, ◌+ℤ◌, ◌*ℤ◌, +ℤ_comm}
use lib.Dec.{T, lt→ltb}
use lib.Pow.{pow_pos}
use lib.Ieee.{Float, nan, inf, fin, Format, low, up, down, unlike, round, sum}
use lib.Ieee.Fits.{up_pos, down_pos}
use lib.Ieee.Positive.{num}
use lib.Ieee.Scale.{finite}
use Rattle.numbers.specs.Fused.{fused, root}
use Rattle.numbers.specs.Nearest.{signed, Nearest, Near, NearRoot, exact, divisor, sign_of, exact_sign, limit, Answers}
use Rattle.numbers.proofs.Orders.{Cmp, cmp}
use Rattle.numbers.proofs.Signs.{same_sign, turned}
use Rattle.numbers.proofs.Sums.{sum_plus, sum_less, sum_more, sum_none}
use Rattle.numbers.proofs.Integers.{size_signed, product, plus, plus_same, plus_other, apart}
use Rattle.numbers.proofs.Grid.{dist}
use Rattle.numbers.proofs.Rounding.{round_nearest, round_over, near_in}
use Rattle.numbers.proofs.RootRounding.{square_lt}
use Rattle.numbers.proofs.RootNearest.{InCounts, root_in, root_is_nearest}
use Rattle.numbers.proofs.Only.{only}

-- ---- a sum is one rounding of the exact sum
record Rounded (f : Format) (s : Bool) (a : ℕ) (t : Bool) (b c : ℕ) : Type 0 where
  neg : Bool
  size : ℕ
  is : sum f s a t b c ≡ round f neg size c
  total : signed s a +ℤ signed t b ≡ signed neg size
  signs : sign_of (signed s a +ℤ signed t b) (s && t) ≡ neg

positive_sign : (u both : Bool) (n : ℕ) → 0 < n → sign_of (signed u n) both ≡ u
positive_sign u both zero h = absurd (lt_irrefl 0 h)
positive_sign false both (suc n) h = refl
positive_sign true both (suc n) h = refl

rounded : (f : Format) (s : Bool) (a : ℕ) (t : Bool) (b c : ℕ) → Rounded f s a t b c
rounded f s a t b c = go (beq s t) refl
  where
    own : (s : Bool) (n : ℕ) → sign_of (signed s n) (s && s) ≡ s
    own true zero = refl
    own true (suc n) = refl
    own false zero = refl
    own false (suc n) = refl

    mixed : (s t : Bool) → beq s t ≡ false → (s && t) ≡ false
    mixed true true e = absurd (true≢false e)
    mixed true false e = refl
    mixed false true e = refl
    mixed false false e = refl

    none : (s : Bool) → signed s 0 ≡ pos 0
    none true = refl
    none false = refl

    some : (a b : ℕ) → a < b → 0 < b - a
    some a b h = omega arith

    go : (x : Bool) → beq s t ≡ x → Rounded f s a t b c
    go true e =
        let k : signed s a +ℤ signed t b ≡ signed s (a + b) = ap (λ (u : Bool). signed s a +ℤ signed u b) (sym (same_sign s t e)) ∙ plus_same s a b in
        record {
          neg = s;
          size = a + b;
          is = sum_plus f s a t b c e;
          total = k;
          signs = ap₂ (λ (z : ℤ) (u : Bool). sign_of z (s && u)) k (sym (same_sign s t e)) ∙ own s (a + b);
        }
    go false e = by (compare a b) (cmp a b)
      where
        by : (o : Ordering) → Cmp o a b → Rounded f s a t b c
        by Ordering.lt h =
            let k : signed s a +ℤ signed t b ≡ signed t (b - a) = +ℤ_comm (signed s a) (signed t b) ∙ plus_other t s b a (turned s t ∙ e) (le_of_lt h) in
            record {
              neg = t;
              size = b - a;
              is = sum_less f s a t b c e h;
              total = k;
              signs = ap (λ (z : ℤ). sign_of z (s && t)) k
                  ∙ positive_sign t (s && t) (b - a) (some a b h);
            }
        by Ordering.gt h =
            let k : signed s a +ℤ signed t b ≡ signed s (a - b) = plus_other s t a b e (le_of_lt h) in
            record {
              neg = s;
              size = a - b;
              is = sum_more f s a t b c e h;
              total = k;
              signs = ap (λ (z : ℤ). sign_of z (s && t)) k
                  ∙ positive_sign s (s && t) (a - b) (some b a h);
            }
        by Ordering.eq h =
            let z : a - b ≡ 0 = omega arith in
            let k : signed s a +ℤ signed t b ≡ pos 0 = plus_other s t a b e (le_of_eq (sym h)) ∙ ap (signed s) z ∙ none s in
            record { neg = false; size = 0; is = sum_none f s a t b c e h; total = k; signs = ap (λ (z : ℤ). sign_of z (s && t)) k ∙ mixed s t e }

-- ---- the exact xy+z of three finite numbers
exact_is : (s : Bool) (X : ℕ) (t : Bool) (Y : ℕ) (u : Bool) (Z dx dy dz : ℕ)
    → signed s X *ℤ signed t Y *ℤ pos dz +ℤ signed u Z *ℤ pos (dx * dy) ≡ signed (unlike s t) (X * Y * dz) +ℤ signed u (Z * (dx * dy))
exact_is s X t Y u Z dx dy dz =
    ap₂ ◌+ℤ◌
    (ap (λ (z : ℤ). z *ℤ pos dz) (product s X t Y) ∙ product (unlike s t) (X * Y) false dz ∙ ap (λ (b : Bool). signed b (X * Y * dz)) (plus (unlike s t)))
    (product u Z false (dx * dy) ∙ ap (λ (b : Bool). signed b (Z * (dx * dy))) (plus u))

record Fused (f : Format) (x y z : Float) : Type 0 where
  neg : Bool
  size : ℕ
  is : fused f x y z ≡ round f neg size (divisor x y z)
  total : exact x y z ≡ signed neg size
  signs : exact_sign x y z ≡ neg
  some : 0 < divisor x y z

at_finite : (f : Format) (x y z : Float) → T (finite x) → T (finite y) → T (finite z) → Fused f x y z
unfolding fused
at_finite f nan y z h k l = absurd h
at_finite f (inf s) y z h k l = absurd h
at_finite f (fin s m e) nan z h k l = absurd k
at_finite f (fin s m e) (inf t) z h k l = absurd k
at_finite f (fin s m e) (fin t n d) nan h k l = absurd l
at_finite f (fin s m e) (fin t n d) (inf u) h k l = absurd l
at_finite f (fin s m e) (fin t n d) (fin u p g) h k l =
    let r = rounded f (unlike s t) (m * up e * (n * up d) * down g) u (p * up g * (down e * down d)) (down e * down d * down g) in
    let i = exact_is s (m * up e) t (n * up d) u (p * up g) (down e) (down d) (down g) in
    record {
      neg = r.neg;
      size = r.size;
      is = r.is;
      total = i ∙ r.total;
      signs = ap (λ (a : ℤ). sign_of a (unlike s t && u)) i ∙ r.signs;
      some = mul-pos (mul-pos (down_pos e) (down_pos d)) (down_pos g);
    }

size_total : (a : ℤ) (s : Bool) (n : ℕ) → a ≡ signed s n → nat_abs a ≡ n
size_total a s n e = ap nat_abs e ∙ size_signed s n

fused_nearest : (f : Format) (x y z : Float) → T (finite x) → T (finite y) → T (finite z) → nat_abs (exact x y z) < limit f * divisor x y z
    → Nearest f (Near (exact x y z) (divisor x y z)) (exact_sign x y z) (fused f x y z)
fused_nearest f x y z h k l b =
    let r = at_finite f x y z h k l in
    let c = divisor x y z in
    let n : r.size < limit f * c = subst (λ (w : ℕ). w < limit f * c) (size_total (exact x y z) r.neg r.size r.total) b in
    subst (λ (s : Bool). Nearest f (Near (exact x y z) c) s (fused f x y z)) (sym r.signs)
    (subst (λ (a : ℤ). Nearest f (Near a c) r.neg (fused f x y z)) (sym r.total)
    (subst (λ (v : Float). Nearest f (Near (signed r.neg r.size) c) r.neg v) (sym r.is) (round_nearest f r.neg r.size c r.some n)))

fused_over : (f : Format) (x y z : Float) → T (finite x) → T (finite y) → T (finite z) → limit f * divisor x y z ≤ nat_abs (exact x y z)
    → fused f x y z ≡ inf (exact_sign x y z)
fused_over f x y z h k l b =
    let r = at_finite f x y z h k l in
    let c = divisor x y z in
    let n : limit f * c ≤ r.size = subst (λ (w : ℕ). limit f * c ≤ w) (size_total (exact x y z) r.neg r.size r.total) b in
    r.is ∙ round_over f r.neg r.size c r.some n ∙ ap inf (sym r.signs)

root_zero : (f : Format) (x : Float) → T (finite x) → num x ≡ 0 → root f x ≡ x
unfolding root
root_zero f nan h e = absurd h
root_zero f (inf s) h e = absurd h
root_zero f (fin s zero d) h e = refl
root_zero f (fin s (suc m) d) h e = absurd (no (suc m * up d) (mul-pos (zero-lt-suc m) (up_pos d)) e)
  where
    no : (a : ℕ) → 0 < a → a ≡ 0 → ⊥
    no a h e = omega arith

-- ---- only one
-- a whole number by its sign and its size
parts : (a : ℤ) → (u : Bool) × (n : ℕ) × (a ≡ signed u n)
parts (pos n) = (false, n, refl)
parts (negsuc n) = (true, suc n, refl)

module _ (u : Bool) (n c : ℕ) (C : 0 < c) where
  abbrev Count : Bool → ℕ → Bool → ℕ → Type 0
  Count s w t x = apart u n s (w * c) ≤ apart u n t (x * c)

  less : (a b : ℕ) → a < b → a * c < b * c
  less a b h = mul-lt-mul_of_pos_right h C

  between : (s t : Bool) (w x y : ℕ) → (s ≡ t) ⊎ (w ≡ 0) → w < x → x < y → Count s w t x → Count t y t x → ⊥
  between s t w x y o h k i j = go (beq u t) (beq u s) agree (less w x h) (less x y k) i j
    where
      agree : (beq u t ≡ beq u s) ⊎ (w * c ≡ 0)
      agree = pick o
        where
          pick : (s ≡ t) ⊎ (w ≡ 0) → (beq u t ≡ beq u s) ⊎ (w * c ≡ 0)
          pick (inl e) = inl (ap (beq u) (sym e))
          pick (inr e) = inr (ap (λ (y : ℕ). y * c) e ∙ zero-mul c)

      near : (a b d e : ℕ) → a < b → b < d → e ≤ dist n b → dist n d ≤ dist n b → (e ≡ dist n a) → ⊥
      near a b d e p q r v z = omega arith

      far : (a b d : ℕ) → b < d → n + d ≤ n + b → ⊥
      far a b d p q = omega arith

      at_zero : (a : ℕ) → a ≡ 0 → n + a ≡ dist n a
      at_zero a e = omega arith

      go : (p q : Bool) → (p ≡ q) ⊎ (w * c ≡ 0) → w * c < x * c → x * c < y * c → cond q (dist n (w * c)) (n + w * c) ≤ cond p (dist n (x * c)) (n + x * c)
          → cond p (dist n (y * c)) (n + y * c) ≤ cond p (dist n (x * c)) (n + x * c) → ⊥
      go false q o a b d e = far (w * c) (x * c) (y * c) b e
      go true true o a b d e = near (w * c) (x * c) (y * c) (dist n (w * c)) a b d e refl
      go true false (inl o) a b d e = true≢false o
      go true false (inr o) a b d e = near (w * c) (x * c) (y * c) (n + w * c) a b d e (at_zero (w * c) o)

  across : (s t : Bool) (w x : ℕ) → beq s t ≡ false → 0 < w → 0 < x → Count s w false 0 → Count t x false 0 → ⊥
  across s t w x e h k i j = go u s t e i j
    where
      zero_count : (p : Bool) → cond p (dist n (0 * c)) (n + 0 * c) ≤ n
      zero_count true = le_of_eq (level (0 * c) (zero-mul c))
        where
          level : (z : ℕ) → z ≡ 0 → dist n z ≡ n
          level z e = omega arith
      zero_count false = le_of_eq (ap (λ (y : ℕ). n + y) (zero-mul c) ∙ plain n)
        where
          plain : (n : ℕ) → n + 0 ≡ n
          plain n = omega arith

      no : (a b : ℕ) → 0 < a → n + a ≤ b → b ≤ n → ⊥
      no a b p q r = omega arith

      go : (u s t : Bool) → beq s t ≡ false → apart u n s (w * c) ≤ apart u n false (0 * c) → apart u n t (x * c) ≤ apart u n false (0 * c) → ⊥
      go true true true e i j = true≢false e
      go true true false e i j = no (x * c) (apart true n false (0 * c)) (mul-pos k C) j (zero_count false)
      go true false true e i j = no (w * c) (apart true n false (0 * c)) (mul-pos h C) i (zero_count false)
      go true false false e i j = true≢false e
      go false true true e i j = true≢false e
      go false true false e i j = no (w * c) (apart false n false (0 * c)) (mul-pos h C) i (zero_count true)
      go false false true e i j = no (x * c) (apart false n false (0 * c)) (mul-pos k C) j (zero_count true)
      go false false false e i j = true≢false e

fused_only : (f : Format) (a : ℤ) (c : ℕ) (s : Bool) (r r' : Float) → 0 < c → Nearest f (Near a c) s r → Nearest f (Near a c) s r' → r ≡ r'
fused_only f a c s r r' C h k =
    let p = parts a in
    let u = p.0 in
    let n = p.1 in
    let l = 2 ^ low f in
    only f (Near (signed u n) c) s (λ s w t x. apart u (n * l) s (w * c) ≤ apart u (n * l) t (x * c))
    (λ r v s t w x i j e. near_in u n c l (pow_pos (low f)) r v s t w x i j e) (between u (n * l) c C) (across u (n * l) c C) r r'
    (subst (λ (a : ℤ). Nearest f (Near a c) s r) p.2 h) (subst (λ (a : ℤ). Nearest f (Near a c) s r') p.2 k)

module _ (n c : ℕ) (N : 0 < n) (C : 0 < c) where
  root_between : (s t : Bool) (w x y : ℕ) → (s ≡ t) ⊎ (w ≡ 0) → w < x → x < y → InCounts n c s w t x → InCounts n c t y t x → ⊥
  root_between s true w x y o h k i j = no (n * 4) (0 * 0 * c) (mul-pos N (zero-lt-suc 3)) (zero-mul c) (j.0 (lt→ltb x y k))
    where
      no : (a b : ℕ) → 0 < a → b ≡ 0 → a ≤ b → ⊥
      no a b p q r = omega arith
  root_between false false w x y o h k i j =
      not-le_of_lt (square_lt c (w + x) (y + x) C (omega arith)) (le_trans (j.1 (lt→ltb x y k)) (i.0 (lt→ltb w x h)))
  root_between true false w x y (inl e) h k i j = true≢false e
  root_between true false w x y (inr e) h k i j =
      not-le_of_lt (square_lt c (x - w) (y + x) C (omega arith)) (le_trans (j.1 (lt→ltb x y k)) (i.0 (lt→ltb 0 (w + x) (omega arith))))

  below_zero : (w : ℕ) → 0 < w → InCounts n c true w false 0 → ⊥
  below_zero w h i =
      no (n * 4) ((0 - w) * (0 - w) * c) (mul-pos N (zero-lt-suc 3)) (ap (λ (y : ℕ). y * (0 - w) * c) (none w) ∙ ap (λ (y : ℕ). y * c) (zero-mul (0 - w))
      ∙ zero-mul c)
      (i.0 (lt→ltb 0 (w + 0) (omega arith)))
    where
      no : (a b : ℕ) → 0 < a → b ≡ 0 → a ≤ b → ⊥
      no a b p q r = omega arith

      none : (w : ℕ) → 0 - w ≡ 0
      none w = omega arith

  root_across : (s t : Bool) (w x : ℕ) → beq s t ≡ false → 0 < w → 0 < x → InCounts n c s w false 0 → InCounts n c t x false 0 → ⊥
  root_across true true w x e h k i j = true≢false e
  root_across true false w x e h k i j = below_zero w h i
  root_across false true w x e h k i j = below_zero x k j
  root_across false false w x e h k i j = true≢false e

root_only : (f : Format) (n c : ℕ) (s : Bool) (r r' : Float) → 0 < n → 0 < c → Nearest f (NearRoot n c) s r → Nearest f (NearRoot n c) s r' → r ≡ r'
root_only f n c s r r' N C h k =
    let l = 2 ^ low f in
    let m = n * (l * l) in
    let M : 0 < m = mul-pos N (mul-pos (pow_pos (low f)) (pow_pos (low f))) in
    only f (NearRoot n c) s (λ s w t x. InCounts m c s w t x) (λ r v s t w x i j e. root_in n c l (pow_pos (low f)) r v s t w x i j e) (root_between m c M C)
    (root_across m c M C) r r' h k

pub answers : Answers
answers = record {
  fused_nearest = fused_nearest;
  fused_over = fused_over;
  root_nearest = root_is_nearest;
  root_zero = root_zero;
  fused_only = fused_only;
  root_only = root_only;
}
