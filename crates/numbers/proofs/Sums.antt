-- A sum of two signed fractions, rounded: its cases, and that it sees only the values of the fractions and not which of the two stands first. Assumes nothing.
use mathlib.Core.Path.{◌≡◌, refl, sym, ap, ap₂, ◌∙◌}
use mathlib.Core.Logic.{◌⊎◌, inl, inr}
use Prim.Native.Nat.{ℕ, ◌+◌, ◌-◌, ◌*◌, ◌<◌, compare, Ordering}
use native.Mathlib.Nat.{le_of_eq, le_of_lt, mul_comm, mul_assoc, mul-pos, mul-sub, mul-lt-mul_of_pos_right, add-mul, add_comm, zero-mul, mul_right_comm}
use native.Mathlib.Omega.{arith}
use mathlib.Core.Bool.{Bool, true, false, cond, ◌&&◌, beq}
use borrow.Author.Tests.{lt-ltb, le-ltb}
use lib.Dec.{ltb}
use lib.Ieee.{Format, round, sum}
use lib.Ieee.Scale.{round_same}
use Rattle.numbers.proofs.Orders.{Cmp, cmp}
use Rattle.numbers.proofs.Signs.{either, same_sign, turned}

-- ---- `sum`, by its cases
module _ (f : Format) (s : Bool) (a : ℕ) (t : Bool) (b c : ℕ) where
  pub sum_plus : beq s t ≡ true → sum f s a t b c ≡ round f s (a + b) c
  unfolding sum
  sum_plus e = ap (λ (x : Bool). cond x (round f s (a + b) c) (cond (ltb a b) (round f t (b - a) c) (round f (s && ltb b a) (a - b) c))) e

  apart : beq s t ≡ false → sum f s a t b c ≡ cond (ltb a b) (round f t (b - a) c) (round f (s && ltb b a) (a - b) c)
  unfolding sum
  apart e = ap (λ (x : Bool). cond x (round f s (a + b) c) (cond (ltb a b) (round f t (b - a) c) (round f (s && ltb b a) (a - b) c))) e

  pub sum_less : beq s t ≡ false → a < b → sum f s a t b c ≡ round f t (b - a) c
  sum_less e h = apart e ∙ ap (λ (x : Bool). cond x (round f t (b - a) c) (round f (s && ltb b a) (a - b) c)) (lt-ltb a b h)

  pub sum_more : beq s t ≡ false → b < a → sum f s a t b c ≡ round f s (a - b) c
  sum_more e h =
      apart e ∙ ap (λ (x : Bool). cond x (round f t (b - a) c) (round f (s && ltb b a) (a - b) c)) (le-ltb a b (le_of_lt h))
      ∙ ap (λ (x : Bool). round f (s && x) (a - b) c) (lt-ltb b a h) ∙ ap (λ (x : Bool). round f x (a - b) c) (and_true s)
    where
      and_true : (s : Bool) → (s && true) ≡ s
      and_true true = refl
      and_true false = refl

  pub sum_none : beq s t ≡ false → a ≡ b → sum f s a t b c ≡ round f false 0 c
  sum_none e h =
      apart e ∙ ap (λ (x : Bool). cond x (round f t (b - a) c) (round f (s && ltb b a) (a - b) c)) (le-ltb a b (le_of_eq (sym h)))
      ∙ ap (λ (x : Bool). round f (s && x) (a - b) c) (le-ltb b a (le_of_eq h)) ∙ ap₂ (λ (x : Bool) (y : ℕ). round f x y c) (and_false s) (none a b h)
    where
      and_false : (s : Bool) → (s && false) ≡ false
      and_false true = refl
      and_false false = refl

      none : (a b : ℕ) → a ≡ b → a - b ≡ 0
      none a b h = omega arith

-- ---- the same fractions, scaled
pub sub_mul : (x y g : ℕ) → (x - y) * g ≡ x * g - y * g
sub_mul x y g = mul_comm (x - y) g ∙ mul-sub g x y ∙ ap₂ ◌-◌ (mul_comm g x) (mul_comm g y)

round_scaled : (f : Format) (s : Bool) (a c g : ℕ) → 0 < c → 0 < g → round f s a c ≡ round f s (a * g) (c * g)
round_scaled f s a c g C G = round_same f s a c (a * g) (c * g) C (mul-pos C G) (sym (mul_assoc a c g) ∙ mul_right_comm a c g)

pub sum_scaled : (f : Format) (s : Bool) (a : ℕ) (t : Bool) (b c g : ℕ) → 0 < c → 0 < g → sum f s a t b c ≡ sum f s (a * g) t (b * g) (c * g)
sum_scaled f s a t b c g C G = go (either (beq s t))
  where
    go : (beq s t ≡ true) ⊎ (beq s t ≡ false) → sum f s a t b c ≡ sum f s (a * g) t (b * g) (c * g)
    go (inl e) = sum_plus f s a t b c e ∙ round_scaled f s (a + b) c g C G ∙ ap (λ (y : ℕ). round f s y (c * g)) (add-mul a b g)
        ∙ sym (sum_plus f s (a * g) t (b * g) (c * g) e)
    go (inr e) = by (compare a b) (cmp a b)
      where
        by : (o : Ordering) → Cmp o a b → sum f s a t b c ≡ sum f s (a * g) t (b * g) (c * g)
        by Ordering.lt h =
            sum_less f s a t b c e h ∙ round_scaled f t (b - a) c g C G ∙ ap (λ (y : ℕ). round f t y (c * g)) (sub_mul b a g)
            ∙ sym (sum_less f s (a * g) t (b * g) (c * g) e (mul-lt-mul_of_pos_right h G))
        by Ordering.eq h =
            sum_none f s a t b c e h ∙ round_scaled f false 0 c g C G ∙ ap (λ (y : ℕ). round f false y (c * g)) (zero-mul g)
            ∙ sym (sum_none f s (a * g) t (b * g) (c * g) e (ap (λ (y : ℕ). y * g) h))
        by Ordering.gt h =
            sum_more f s a t b c e h ∙ round_scaled f s (a - b) c g C G ∙ ap (λ (y : ℕ). round f s y (c * g)) (sub_mul a b g)
            ∙ sym (sum_more f s (a * g) t (b * g) (c * g) e (mul-lt-mul_of_pos_right h G))

-- the other way round
pub sum_swap : (f : Format) (s : Bool) (a : ℕ) (t : Bool) (b c : ℕ) → sum f s a t b c ≡ sum f t b s a c
sum_swap f s a t b c = go (either (beq s t))
  where
    go : (beq s t ≡ true) ⊎ (beq s t ≡ false) → sum f s a t b c ≡ sum f t b s a c
    go (inl e) = sum_plus f s a t b c e ∙ ap₂ (λ (r : Bool) (y : ℕ). round f r y c) (same_sign s t e) (add_comm a b)
        ∙ sym (sum_plus f t b s a c (turned s t ∙ e))
    go (inr e) = by (compare a b) (cmp a b)
      where
        e' : beq t s ≡ false
        e' = turned s t ∙ e

        by : (o : Ordering) → Cmp o a b → sum f s a t b c ≡ sum f t b s a c
        by Ordering.lt h = sum_less f s a t b c e h ∙ sym (sum_more f t b s a c e' h)
        by Ordering.eq h = sum_none f s a t b c e h ∙ sym (sum_none f t b s a c e' (sym h))
        by Ordering.gt h = sum_more f s a t b c e h ∙ sym (sum_less f t b s a c e' h)

-- the same two fractions
pub sum_same : (f : Format) (s : Bool) (a : ℕ) (t : Bool) (b c a' b' c' : ℕ) → 0 < c → 0 < c' → a * c' ≡ a' * c → b * c' ≡ b' * c
    → sum f s a t b c ≡ sum f s a' t b' c'
sum_same f s a t b c a' b' c' C C' p q =
    sum_scaled f s a t b c c' C C'
    ∙ ap₂ (λ (x y : ℕ). sum f s x t y (c * c')) p q
    ∙ ap (λ (x : ℕ). sum f s (a' * c) t (b' * c) x) (mul_comm c c')
    ∙ sym (sum_scaled f s a' t b' c' c C' C)

-- with nothing added
pub sum_zero : (f : Format) (s : Bool) (a : ℕ) (t : Bool) (c : ℕ) → 0 < a → sum f s a t 0 c ≡ round f s a c
sum_zero f s a t c h = go (beq s t) refl
  where
    go : (b : Bool) → beq s t ≡ b → sum f s a t 0 c ≡ round f s a c
    go true e = sum_plus f s a t 0 c e ∙ ap (λ (y : ℕ). round f s y c) (omega arith)
    go false e = sum_more f s a t 0 c e h ∙ ap (λ (y : ℕ). round f s y c) (omega arith)
