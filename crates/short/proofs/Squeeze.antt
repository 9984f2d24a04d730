-- A sum that lies between two others, where these are one number: it is that number. Each is the nearest to its exact count; what is less is rounded to no
-- more; and two floats of one count are one float, a zero being +0. Assumes nothing.
use mathlib.Core.Path.{◌≡◌, refl, sym, ap, ◌∙◌, subst}
use mathlib.Core.Logic.{◌⊎◌, inl, inr}
use Prim.Native.Nat.{ℕ, ◌+◌, ◌*◌, ◌^◌, ◌≤◌, ◌<◌}
use native.Mathlib.Nat.{eq-zero-or-pos, eq_of_mul-eq-mul_right, zero-mul, le_of_eq}
use native.Mathlib.Decide.{dec_le, dec_lt}
use native.Mathlib.Omega.{arith}
use mathlib.Core.Bool.{Bool, true, false, ◌&&◌, ◌||◌, beq, true≢false}
use lib.Dec.{T, eqb, eqb→eq}
use lib.IntN.{pos}
use lib.Ieee.{Float, nan, inf, fin, Format, low, up, down, eq, ne, fits}
use lib.Ieee.Exact.{HasValue}
use lib.Ieee.Fits.{down_pos}
use Rattle.numbers.proofs.Signs.{same_sign}
use Rattle.numbers.proofs.Counts.{finite_of, same_value, unequal_numbers}
use Rattle.exact.specs.Signed.{Differ, Is, Rounds, Held}
use Rattle.exact.proofs.SignedLaws.{one_value}
use Rattle.short.proofs.Closest.{Kept, float_held, mag_is, nothing, in_order}
use Rattle.short.proofs.OneSum.{one_round}

-- ---- floats that are equal have one count, and one sign if that is something
module _ (s t : Bool) (n m L : ℕ) where
  one_count : (v w : Float) → HasValue v s n L → HasValue w t m L → eq v w ≡ true → n ≡ m
  unfolding ne
  one_count v w p q h = elim (dec_le n m) [
    | yes l ↦ elim (dec_le m n) [ yes g ↦ omega arith | no g ↦ absurd (rw h at (unequal_numbers v w s t n m L p q (λ e. omega arith))) ]
    | no l ↦ absurd (rw h at (unequal_numbers v w s t n m L p q (λ e. omega arith)))
  ]

  one_sign : (v w : Float) → HasValue v s n L → HasValue w t m L → eq v w ≡ true → (s ≡ t) ⊎ (n ≡ 0)
  unfolding eq
  one_sign nan w p q h = absurd p
  one_sign (inf r) w p q h = absurd p
  one_sign (fin r a e) nan p q h = absurd q
  one_sign (fin r a e) (inf u) p q h = absurd q
  one_sign (fin r a e) (fin u b d) p q h =
      go (beq r u) (eqb (a * up e * down d) (b * up d * down e)) (eqb (a * up e * down d) 0) refl (λ i. i) h
    where
      none : T (eqb (a * up e * down d) 0) → n ≡ 0
      none i =
          let z = eq_of_mul-eq-mul_right (down d) (down_pos d) (a * up e) 0 (eqb→eq (a * up e * down d) 0 i ∙ sym (zero-mul (down d))) in
          eq_of_mul-eq-mul_right (down e) (down_pos e) n 0 (sym p.1 ∙ ap (λ (y : ℕ). y * L) z ∙ zero-mul L ∙ sym (zero-mul (down e)))

      go : (x y z : Bool) → beq r u ≡ x → (T z → T (eqb (a * up e * down d) 0)) → (y && (x || z)) ≡ true → (s ≡ t) ⊎ (n ≡ 0)
      go true y z g i h = inl (sym p.0 ∙ same_sign r u g ∙ q.0)
      go false true true g i h = inr (none (i tt))
      go false true false g i h = absurd (true≢false (sym h))
      go false false z g i h = absurd (true≢false (sym h))

-- one sign and size, one difference
level : (z y : Bool) (n m a b c d : ℕ) → Differ z n a b → Differ y m c d → n ≡ m → (z ≡ y) ⊎ (n ≡ 0) → a + d ≡ b + c
level true true n m a b c d h l e o = omega arith
level false false n m a b c d h l e o = omega arith
level true false n m a b c d h l e (inl o) = absurd (true≢false o)
level true false n m a b c d h l e (inr o) = omega arith
level false true n m a b c d h l e (inl o) = absurd (true≢false (sym o))
level false true n m a b c d h l e (inr o) = omega arith

module _ {f : Format} {x y : Float} {s : Bool} {a b c d : ℕ} (X : Is f x s a b) (Y : Is f y s c d) where
  pub equal_counts : eq x y ≡ true → a + d ≡ b + c
  equal_counts h =
      level (beq X.sgn s) (beq Y.sgn s) X.mag Y.mag a b c d X.gap Y.gap
      (one_count X.sgn Y.sgn X.mag Y.mag (2 ^ low f) x y X.has Y.has h)
      (elim (one_sign X.sgn Y.sgn X.mag Y.mag (2 ^ low f) x y X.has Y.has h) [
        | inl e ↦ inl (ap (λ (u : Bool). beq u s) e)
        | inr z ↦ inr z
      ])

  -- ... and back, if it is something
  one_float : a + d ≡ b + c → 0 < X.mag → (X.sgn ≡ Y.sgn) × (X.mag ≡ Y.mag)
  one_float e l =
      let u = go (beq X.sgn s) (beq Y.sgn s) X.mag Y.mag X.gap Y.gap l in
      (beq_back X.sgn Y.sgn s u.0, u.1)
    where
      go : (z y : Bool) (n m : ℕ) → Differ z n a b → Differ y m c d → 0 < n → (z ≡ y) × (n ≡ m)
      go true true n m h l o = (refl, omega arith)
      go false false n m h l o = (refl, omega arith)
      go true false n m h l o = absurd (omega arith)
      go false true n m h l o = absurd (omega arith)

      beq_back : (u v s : Bool) → beq u s ≡ beq v s → u ≡ v
      beq_back true true s e = refl
      beq_back false false s e = refl
      beq_back true false true e = e
      beq_back true false false e = sym e
      beq_back false true true e = e
      beq_back false true false e = sym e

one_difference : {f : Format} {x : Float} {s : Bool} {a b c d : ℕ} → Is f x s a b → Is f x s c d → a + d ≡ b + c
one_difference {f} {x} {s} {a} {b} {c} {d} X Y =
    let o = one_value x X.sgn Y.sgn X.mag Y.mag (2 ^ low f) X.has Y.has in
    level (beq X.sgn s) (beq Y.sgn s) X.mag Y.mag a b c d X.gap Y.gap o.1 (inl (ap (λ (u : Bool). beq u s) o.0))

-- ---- a - b rounded once, to x
pub record Sum (f : Format) (x : Float) (s : Bool) (a b : ℕ) : Type 0 where
  pub rounds : Rounds f x s a b
  pub kept : Kept f x s a b
  pub holds : T (fits f x)
  pub zero : a ≡ b → x ≡ fin false 0 (pos 0)

module _ {f : Format} {x y : Float} {s : Bool} {a b c d : ℕ} (X : Sum f x s a b) (Y : Sum f y s c d) where
  -- one count, one float
  same : X.kept.c + Y.kept.d ≡ X.kept.d + Y.kept.c → x ≡ y
  same e = elim (eq-zero-or-pos I.mag) [
    | inl z ↦ X.zero (nothing f a b X.kept.c X.kept.d X.kept.near (mag_is I ∙ z))
        ∙ sym (Y.zero (nothing f c d Y.kept.c Y.kept.d Y.kept.near (omega (arith, mag_is I))))
    | inr l ↦
        let u = one_float I J e l in
        same_value f x y I.sgn I.mag (X.holds, finite_of x I.sgn I.mag (2 ^ low f) I.has)
        (Y.holds, finite_of y J.sgn J.mag (2 ^ low f) J.has) I.has
        (by_names I.sgn J.sgn I.mag J.mag u.0 u.1 J.has)
  ]
    where
      by_names : (u v : Bool) (n m : ℕ) → u ≡ v → n ≡ m → HasValue y v m (2 ^ low f) → HasValue y u n (2 ^ low f)
      by_names u v n m e g h = rw (e, g) h

      I : Is f x s X.kept.c X.kept.d
      I = X.kept.is

      J : Is f y s Y.kept.c Y.kept.d
      J = Y.kept.is

  weakly : a + d ≤ b + c → X.kept.c + Y.kept.d ≤ X.kept.d + Y.kept.c
  weakly l = elim (dec_lt (a + d) (b + c)) [
    | yes g ↦ in_order f a b X.kept.c X.kept.d c d Y.kept.c Y.kept.d X.kept.near held_x Y.kept.near held_y g
    | no g ↦
        let e : x ≡ y = one_round f x y s a b c d X.rounds Y.rounds (omega arith) (λ z. X.zero z ∙ sym (Y.zero (omega arith))) in
        le_of_eq (one_difference (subst (λ (r : Float). Is f r s X.kept.c X.kept.d) e X.kept.is) Y.kept.is)
  ]
    where
      held_x : Held f X.kept.c X.kept.d
      held_x = float_held f x s X.kept.c X.kept.d X.holds X.kept.is

      held_y : Held f Y.kept.c Y.kept.d
      held_y = float_held f y s Y.kept.c Y.kept.d Y.holds Y.kept.is

-- p - q lies between a - b and c - d
abbrev pub Between : ℕ → ℕ → ℕ → ℕ → ℕ → ℕ → Type 0
Between a b p q c d = ((a + q ≤ b + p) × (p + d ≤ q + c)) ⊎ ((c + q ≤ d + p) × (p + b ≤ q + a))

pub squeeze : {f : Format} {x y z : Float} {s : Bool} {a b c d p q : ℕ} → Sum f x s a b → Sum f z s p q → Sum f y s c d → Between a b p q c d
    → eq x y ≡ true → x ≡ z
squeeze X Z Y o h =
    let e = equal_counts X.kept.is Y.kept.is h in
    same X Z (elim o [
      | inl l ↦ omega (arith, e, weakly X Z l.0, weakly Z Y l.1)
      | inr l ↦ omega (arith, e, weakly Y Z l.0, weakly Z X l.1)
    ])
