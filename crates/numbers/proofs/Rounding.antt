-- lib.Ieee's `round` gives the nearest value, a tie the even one, below the limit, and the infinity from the limit on. Assumes nothing.
use mathlib.Core.Path.{◌≡◌, refl, sym, ap, ap₂, ◌∙◌, subst}
use mathlib.Core.Logic.{◌⊎◌, inl, inr}
use Prim.Native.Nat.{ℕ, suc, ◌+◌, ◌-◌, ◌*◌, ◌/◌, ◌%◌, ◌^◌, ◌≤◌, ◌<◌, compare}
use native.Mathlib.Nat.{le_trans, le_of_eq, le-add_right, le_of_suc-le-suc, lt_of_lt_of_le, lt_of_not-le, mul_assoc, mul_comm, mul-one, mul_right_comm}
use native.Mathlib.Nat.{zero-mul, mul-pos, mul-le-mul_right, mul-lt-mul_of_pos_right, le_of_mul-le-mul_right, add-mul, eq-zero-or-pos, zero-lt-suc}
use native.Mathlib.Omega.{arith}
use mathlib.Core.Bool.{Bool, true, false, beq, cond}
use lib.IntN.{ℤ, nat_abs, ◌-ℤ◌}
use lib.Dec.{T}
use lib.Pow.{pow_pos}
use lib.Ieee.{Float, nan, inf, fin, Format, binary32, binary64, prec, emax, low, round, le, ne, hid}
use lib.Ieee.Fits.{round_is, round-fits, nearest-le, two, two-le_pos}
use lib.Ieee.Exact.{HasValue, units_val}
use lib.Ieee.Nearest.{nearest-ge}
use lib.Ieee.Order.{drop, kept, round_mono}
use lib.Ieee.Positive.{num, den, den_pos}
use lib.Ieee.Scale.{grid, overflow}
use Rattle.numbers.specs.Nearest.{sign, signed, Even, Nearest, distance, Near, limit}
use Rattle.numbers.proofs.Signs.{either, same_sign}
use Rattle.numbers.proofs.BitsOf.{units_inf}
use Rattle.numbers.proofs.Integers.{product, plus, apart, apart_is, apart_scale}
use Rattle.numbers.proofs.Grid.{Short, zero_short, dist, full_head, few_head, kept_near, kept_even}
use Rattle.numbers.proofs.Counts.{Counted, counted, finite_of, sign_of, size_of, equal_numbers, last_bit}

-- ---- distances, in counts
pub distance_is : (u : Bool) (n c : ℕ) (x : Float) (t : Bool) (w l : ℕ) → HasValue x t w l → distance (signed u n) c x * l ≡ apart u (n * l) t (w * c) * den x
distance_is u n c x t w l h =
    let d = den x in
    let s = sign x in
    ap (λ (y : ℕ). y * l)
    (ap₂ (λ (a b : ℤ). nat_abs (a -ℤ b)) (product u n false d ∙ ap (λ (z : Bool). signed z (n * d)) (plus u))
    (product s (num x) false c ∙ ap (λ (z : Bool). signed z (num x * c)) (plus s))
    ∙ apart_is u (n * d) s (num x * c))
    ∙ apart_scale u (n * d) s (num x * c) l
    ∙ ap₂ (λ (a b : ℕ). apart u a s b) (mul_right_comm n d l) (mul_right_comm (num x) c l ∙ ap (λ (y : ℕ). y * c) (size_of x t w l h) ∙ mul_right_comm w d c)
    ∙ ap (λ (z : Bool). apart u (n * l * d) z (w * c * d)) (sign_of x t w l h)
    ∙ sym (apart_scale u (n * l) t (w * c) d)

module _ (u : Bool) (n c l : ℕ) (L : 0 < l) (r v : Float) (s t : Bool) (w x : ℕ) (h : HasValue r s w l) (k : HasValue v t x l) where
  left : distance (signed u n) c r * den v * l ≡ apart u (n * l) s (w * c) * (den r * den v)
  left = mul_right_comm (distance (signed u n) c r) (den v) l ∙ ap (λ (y : ℕ). y * den v) (distance_is u n c r s w l h)
      ∙ mul_assoc (apart u (n * l) s (w * c)) (den r) (den v)

  right : distance (signed u n) c v * den r * l ≡ apart u (n * l) t (x * c) * (den r * den v)
  right =
      mul_right_comm (distance (signed u n) c v) (den r) l ∙ ap (λ (y : ℕ). y * den r) (distance_is u n c v t x l k)
      ∙ mul_assoc (apart u (n * l) t (x * c)) (den v) (den r) ∙ ap (λ (y : ℕ). apart u (n * l) t (x * c) * y) (mul_comm (den v) (den r))

  pub near_in : Near (signed u n) c r v → apart u (n * l) s (w * c) ≤ apart u (n * l) t (x * c)
  near_in e = le_of_mul-le-mul_right (le_trans (le_of_eq (sym left)) (le_trans (mul-le-mul_right l e) (le_of_eq right))) (mul-pos (den_pos r) (den_pos v))

  pub near_out : apart u (n * l) s (w * c) ≤ apart u (n * l) t (x * c) → Near (signed u n) c r v
  near_out e = le_of_mul-le-mul_right (le_trans (le_of_eq left) (le_trans (mul-le-mul_right (den r * den v) e) (le_of_eq (sym right)))) L

-- ---- the limit, in counts: half a unit of the last place below what overflows
-- half a unit in the last place of the largest numbers, and the largest number
abbrev half : Format → ℕ
half f = 2 ^ (low f + emax f - prec f)

abbrev largest : Format → ℕ
largest f = (2 ^ prec f - 1) * 2 ^ suc (low f + emax f - prec f)

module _ (f : Format) where
  largest_short : Short (prec f) (largest f)
  largest_short = record { head = 2 ^ prec f - 1; zeros = suc (low f + emax f - prec f); is = refl; few = less (2 ^ prec f) (pow_pos (prec f)) }
    where
      less : (p : ℕ) → 0 < p → p - 1 < p
      less p h = omega arith

  limit_is : (limit f * 2 ^ low f + half f ≡ overflow f)
      × (largest f + 2 * half f ≡ overflow f)
  limit_is = go f
    where
      go : (f : Format) → (limit f * 2 ^ low f + half f ≡ overflow f) × (largest f + 2 * half f ≡ overflow f)
      go binary32 = (refl, refl)
      go binary64 = (refl, refl)

-- a larger number is not nearer than the largest
too_far : (n x l o z : ℕ) → o ≤ x → n + z < o → l + 2 * z ≡ o → 0 < z → dist n x ≤ dist n l → ⊥
too_far n x l o z a b c d e = omega arith

-- ---- what `round` keeps of n / c, and how many digits it drops
abbrev significand : Format → ℕ → ℕ → ℕ
significand f n c = kept (prec f) (n * 2 ^ low f) c

abbrev behind : Format → ℕ → ℕ → ℕ
behind f n c = drop (prec f) (n * 2 ^ low f) c

module _ (f : Format) (u : Bool) (n c : ℕ) (C : 0 < c) where
  p_pos : 0 < prec f
  p_pos = two-le_pos (prec f) (two f)

  q_most : significand f n c ≤ 2 ^ prec f
  q_most = let v = c * 2 ^ behind f n c in
      le_trans (nearest-le (n * 2 ^ low f / v) (compare (n * 2 ^ low f % v * 2) v)) (few_head (prec f) (n * 2 ^ low f) c)

  q_full : 0 < behind f n c → hid f ≤ significand f n c
  q_full h = let v = c * 2 ^ behind f n c in
      le_trans (full_head (prec f) (n * 2 ^ low f) c p_pos h) (nearest-ge (n * 2 ^ low f / v) (compare (n * 2 ^ low f % v * 2) v))

  pub round_has : grid f n c < overflow f → HasValue (round f u n c) u (grid f n c) (2 ^ low f)
  round_has h = subst (λ (x : Float). HasValue x u (grid f n c) (2 ^ low f)) (sym (round_is f u n c))
      (units_val f u (significand f n c) (behind f n c) h)

  under : n < limit f * c → grid f n c < overflow f
  under h =
      lt_of_not-le
      (λ (g : overflow f ≤ grid f n c). too_far (n * 2 ^ low f) (grid f n c * c) (largest f * c) (overflow f * c)
      (half f * c)
      (mul-le-mul_right c g) bound (sums (largest f) (limit_is f).1)
      (mul-pos (pow_pos (low f + emax f - prec f)) C) (kept_near (prec f) (n * 2 ^ low f) c p_pos C (largest f)
      (largest_short f)))
    where
      bound : n * 2 ^ low f + half f * c < overflow f * c
      bound =
          lt_of_lt_of_le (more (n * 2 ^ low f) (limit f * 2 ^ low f * c) (half f * c)
          (lt_of_lt_of_le (mul-lt-mul_of_pos_right h (pow_pos (low f))) (le_of_eq (mul_right_comm (limit f) c (2 ^ low f)))))
          (le_of_eq (sym (add-mul (limit f * 2 ^ low f) (half f) c) ∙ ap (λ (y : ℕ). y * c) (limit_is f).0))
        where
          more : (a b z : ℕ) → a < b → a + z < b + z
          more a b z h = omega arith

      sums : (M : ℕ) → M + 2 * half f ≡ overflow f → M * c + 2 * (half f * c) ≡ overflow f * c
      sums M e = ap (λ (y : ℕ). M * c + y) (sym (mul_assoc 2 (half f) c)) ∙ sym (add-mul M (2 * half f) c)
          ∙ ap (λ (y : ℕ). y * c) e

  -- zero is a value too, so what is kept is no farther than n
  within : dist (n * 2 ^ low f) (grid f n c * c) ≤ n * 2 ^ low f
  within = le_trans (kept_near (prec f) (n * 2 ^ low f) c p_pos C 0 (zero_short (prec f))) (le_of_eq (nothing (n * 2 ^ low f) (0 * c) (zero-mul c)))
    where
      nothing : (a z : ℕ) → z ≡ 0 → dist a z ≡ a
      nothing a z e = omega arith

  own : apart u (n * 2 ^ low f) u (grid f n c * c) ≡ dist (n * 2 ^ low f) (grid f n c * c)
  own = same u
    where
      same : (u : Bool) → apart u (n * 2 ^ low f) u (grid f n c * c) ≡ dist (n * 2 ^ low f) (grid f n c * c)
      same true = refl
      same false = refl

  near_count : (t : Bool) (w : ℕ) → Short (prec f) w → dist (n * 2 ^ low f) (grid f n c * c) ≤ apart u (n * 2 ^ low f) t (w * c)
  near_count t w S = go (either (beq u t))
    where
      go : (beq u t ≡ true) ⊎ (beq u t ≡ false) → dist (n * 2 ^ low f) (grid f n c * c) ≤ apart u (n * 2 ^ low f) t (w * c)
      go (inl e) = le_trans (kept_near (prec f) (n * 2 ^ low f) c p_pos C w S)
          (le_of_eq (sym (ap (λ (b : Bool). cond b (dist (n * 2 ^ low f) (w * c)) (n * 2 ^ low f + w * c)) e)))
      go (inr e) = le_trans within (le_trans (le-add_right (n * 2 ^ low f) (w * c))
          (le_of_eq (sym (ap (λ (b : Bool). cond b (dist (n * 2 ^ low f) (w * c)) (n * 2 ^ low f + w * c)) e))))

  even_count : (t : Bool) (w : ℕ) → Short (prec f) w → apart u (n * 2 ^ low f) t (w * c) ≤ dist (n * 2 ^ low f) (grid f n c * c)
      → ((w ≡ grid f n c) × ((t ≡ u) ⊎ (w ≡ 0))) ⊎ (significand f n c % 2 ≡ 0)
  even_count t w S h = go (either (beq u t))
    where
      -- a number of the other sign is zero
      vanishes : n * 2 ^ low f + w * c ≤ dist (n * 2 ^ low f) (grid f n c * c) → w ≡ 0
      vanishes g = none (eq-zero-or-pos w)
        where
          no : (a b d : ℕ) → a + b ≤ d → d ≤ a → 0 < b → ⊥
          no a b d x y z = omega arith

          none : (w ≡ 0) ⊎ (0 < w) → w ≡ 0
          none (inl e) = e
          none (inr l) = absurd (no (n * 2 ^ low f) (w * c) (dist (n * 2 ^ low f) (grid f n c * c)) g within (mul-pos l C))

      at_zero : (w ≡ 0) → dist (n * 2 ^ low f) (w * c) ≤ n * 2 ^ low f + w * c
      at_zero e = small (n * 2 ^ low f) (w * c) (ap (λ (y : ℕ). y * c) e ∙ zero-mul c)
        where
          small : (a z : ℕ) → z ≡ 0 → dist a z ≤ a + z
          small a z e = omega arith

      go : (beq u t ≡ true) ⊎ (beq u t ≡ false) → ((w ≡ grid f n c) × ((t ≡ u) ⊎ (w ≡ 0))) ⊎ (significand f n c % 2 ≡ 0)
      go (inl e) = pick (kept_even (prec f) (n * 2 ^ low f) c p_pos C w S
          (le_trans (le_of_eq (sym (ap (λ (b : Bool). cond b (dist (n * 2 ^ low f) (w * c)) (n * 2 ^ low f + w * c)) e))) h))
        where
          pick : (w ≡ grid f n c) ⊎ (significand f n c % 2 ≡ 0)
              → ((w ≡ grid f n c) × ((t ≡ u) ⊎ (w ≡ 0))) ⊎ (significand f n c % 2 ≡ 0)
          pick (inl a) = inl (a, inl (sym (same_sign u t e)))
          pick (inr a) = inr a
      go (inr e) =
          let g : n * 2 ^ low f + w * c ≤ dist (n * 2 ^ low f) (grid f n c * c) = le_trans
          (le_of_eq (sym (ap (λ (b : Bool). cond b (dist (n * 2 ^ low f) (w * c)) (n * 2 ^ low f + w * c)) e))) h in
          let z : w ≡ 0 = vanishes g in
          pick z (kept_even (prec f) (n * 2 ^ low f) c p_pos C w S (le_trans (at_zero z) g))
        where
          pick : w ≡ 0 → (w ≡ grid f n c) ⊎ (significand f n c % 2 ≡ 0)
              → ((w ≡ grid f n c) × ((t ≡ u) ⊎ (w ≡ 0))) ⊎ (significand f n c % 2 ≡ 0)
          pick z (inl a) = inl (a, inr z)
          pick z (inr a) = inr a

  pub round_nearest : n < limit f * c → Nearest f (Near (signed u n) c) u (round f u n c)
  round_nearest h =
      let r = round f u n c in
      let g = grid f n c in
      let H : HasValue r u g (2 ^ low f) = round_has (under h) in
      record {
        value = (round-fits f u n c, finite_of r u g (2 ^ low f) H);
        near = λ v K. let C' = counted f v K in
            near_out u n c (2 ^ low f) (pow_pos (low f)) r v u (sign v) g C'.count H C'.has
            (le_trans (le_of_eq own) (near_count (sign v) C'.count C'.short));
        even = λ v K k d. let C' = counted f v K in
            pick v C' d
            (even_count (sign v) C'.count C'.short (le_trans (near_in u n c (2 ^ low f) (pow_pos (low f)) v r (sign v) u C'.count g C'.has H k)
            (le_of_eq own)));
        signed_zero = λ z. sign_of r u g (2 ^ low f) H;
      }
    where
      pick : (v : Float) (K : Counted f v) → T (ne v (round f u n c))
          → ((K.count ≡ grid f n c) × ((sign v ≡ u) ⊎ (K.count ≡ 0))) ⊎ (significand f n c % 2 ≡ 0)
          → Even f (round f u n c)
      pick v K d (inl (e, o)) =
          absurd (equal_numbers v (round f u n c) (sign v) u K.count (2 ^ low f) (pow_pos (low f)) K.has
          (subst (λ (y : ℕ). HasValue (round f u n c) u y (2 ^ low f)) (sym e) (round_has (under h))) o d)
      pick v K d (inr e) = last_bit f (round f u n c) u (significand f n c) (behind f n c) q_most q_full
          (round_has (under h)) ∙ e

-- ---- from the limit on
limit_rounds : (f : Format) → round f false (limit f) 1 ≡ inf false
limit_rounds binary32 = unfold round in refl
limit_rounds binary64 = unfold round in refl

above_inf : (x : Float) (w l : ℕ) → T (le (inf false) x) → HasValue x false w l → ⊥
unfolding le
above_inf nan w l t h = h
above_inf (inf s) w l t h = h
above_inf (fin s m e) w l t h = t

pub round_over : (f : Format) (u : Bool) (n c : ℕ) → 0 < c → limit f * c ≤ n → round f u n c ≡ inf u
round_over f u n c C h = round_is f u n c ∙ units_inf f u (significand f n c) (behind f n c) past
  where
    past : overflow f ≤ grid f n c
    past =
        le_of_suc-le-suc (lt_of_not-le (λ (g : suc (grid f n c) ≤ overflow f). above_inf (round f false n c) (grid f n c) (2 ^ low f)
        (subst (λ (x : Float). T (le x (round f false n c))) (limit_rounds f)
        (round_mono f (limit f) 1 n c (zero-lt-suc 0) C (le_trans h (le_of_eq (sym (mul-one n)))))) (round_has f false n c C g)))
