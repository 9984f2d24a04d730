-- Numbers that are 2 ^ j at most in size, and what is made of them: a count that is 2 ^ j at most is rounded to 2 ^ j at most, 2 ^ j being held itself.
-- Assumes nothing.
use mathlib.Core.Path.{◌≡◌, sym, ap, ◌∙◌}
use mathlib.Core.Logic.{inl, inr}
use Prim.Native.Nat.{ℕ, suc, ◌+◌, ◌-◌, ◌*◌, ◌^◌, ◌≤◌, ◌<◌, compare, Ordering}
use native.Mathlib.Nat.{one-mul, le_of_mul-le-mul_right, mul-le-mul, mul-le-mul_right, le_trans, le_of_eq, lt_of_le_of_lt}
use native.Mathlib.Nat.{le_refl, add-le-add, pow-succ'}
use native.Mathlib.Omega.{arith}
use mathlib.Core.Bool.{Bool, false, not, beq}
use lib.Pow.{pow-add, pow_pos, pow_mono, pow-lt}
use lib.Ieee.{Float, Format, prec, emax, low, unlike, round, sum, neg, mul}
use lib.Ieee.Fits.{two, two-le_pos}
use lib.Ieee.Scale.{grid}
use Rattle.numbers.specs.Fused.{fused}
use Rattle.numbers.proofs.Signs.{either}
use Rattle.numbers.proofs.Orders.{Cmp, cmp}
use Rattle.numbers.proofs.Grid.{Short, kept_near}
use Rattle.numbers.proofs.Rounding.{round_has}
use Rattle.numbers.proofs.Sums.{sum_plus, sum_less, sum_more, sum_none}
use Rattle.terms.proofs.Ordinary.{fused_ordinary}
use Rattle.exact.specs.Steps.{Under}
use Rattle.exact.proofs.SignedLaws.{mul_at, neg_has}

pub under_more : (f : Format) (i j : ℕ) (x : Float) → i ≤ j → Under f i x → Under f j x
under_more f i j x h u = record { sgn = u.sgn; n = u.n; has = u.has; most = le_trans u.most (pow_mono (add-le-add (le_refl (low f)) h)) }

pub under_neg : (f : Format) (j : ℕ) (x : Float) → Under f j x → Under f j (neg x)
under_neg f j x u = record { sgn = not u.sgn; n = u.n; has = neg_has x u.sgn u.n (2 ^ low f) u.has; most = u.most }

-- n / c, rounded
module _ (f : Format) (u : Bool) (n c j : ℕ) (C : 0 < c) (room : j ≤ emax f) (h : n ≤ 2 ^ j * c) where
  grid_le : grid f n c ≤ 2 ^ (low f + j)
  grid_le =
      le_of_mul-le-mul_right {m = grid f n c} {n = 2 ^ (low f + j)} {k = c}
      (omega (
        arith,
        ap (λ (w : ℕ). w * c) (pow-add 2 (low f) j),
        mul-le-mul_right (2 ^ low f) h,
        kept_near (prec f) (n * 2 ^ low f) c (two-le_pos (prec f) (two f)) C (2 ^ (low f + j)) power,
      )) C
    where
      power : Short (prec f) (2 ^ (low f + j))
      power = record { head = 1; zeros = low f + j; is = sym (one-mul (2 ^ (low f + j))); few = pow-lt {i = 0} (two-le_pos (prec f) (two f)) }

  under_round : Under f j (round f u n c)
  under_round = record {
    sgn = u;
    n = grid f n c;
    has = round_has f u n c C (lt_of_le_of_lt grid_le (pow-lt (omega arith)));
    most = grid_le;
  }

-- a sum of two counts rounds one that is no larger than both together
sum_round : (f : Format) (s : Bool) (a : ℕ) (t : Bool) (b c : ℕ) → (w : Bool) × (m : ℕ) × (sum f s a t b c ≡ round f w m c) × (m ≤ a + b)
sum_round f s a t b c = elim (either (beq s t)) [ inl e ↦ (s, a + b, sum_plus f s a t b c e, omega arith) | inr e ↦ by e (compare a b) (cmp a b) ]
  where
    by : beq s t ≡ false → (o : Ordering) → Cmp o a b → (w : Bool) × (m : ℕ) × (sum f s a t b c ≡ round f w m c) × (m ≤ a + b)
    by e Ordering.lt l = (t, b - a, sum_less f s a t b c e l, omega arith)
    by e Ordering.eq l = (false, 0, sum_none f s a t b c e l, omega arith)
    by e Ordering.gt l = (s, a - b, sum_more f s a t b c e l, omega arith)

-- ---- two numbers' counts, multiplied
product_le : (l i j m n : ℕ) → m ≤ 2 ^ (l + i) → n ≤ 2 ^ (l + j) → m * n ≤ 2 ^ (i + j) * 2 ^ (l + l)
product_le l i j m n h k =
    le_trans (mul-le-mul h k) (le_of_eq (sym (pow-add 2 (l + i) (l + j)) ∙ ap (λ (w : ℕ). 2 ^ w) (omega arith) ∙ pow-add 2 (i + j) (l + l)))

pub under_mul : (f : Format) (i j : ℕ) (x y : Float) → i + j ≤ emax f → Under f i x → Under f j y → Under f (i + j) (mul f x y)
under_mul f i j x y room u v =
    rw (mul_at f x y u.sgn v.sgn u.n v.n (2 ^ low f) (pow_pos (low f)) u.has v.has, ← (pow-add 2 (low f) (low f)))
    (under_round f (unlike u.sgn v.sgn) (u.n * v.n) (2 ^ (low f + low f)) (i + j) (pow_pos (low f + low f)) room
    (product_le (low f) i j u.n v.n u.most v.most))

pub under_fused : (f : Format) (i j : ℕ) (x y z : Float) → suc (i + j) ≤ emax f → Under f i x → Under f j y → Under f (i + j) z
    → Under f (suc (i + j)) (fused f x y z)
under_fused f i j x y z room u v w =
    let c = 2 ^ (low f + low f) in
    let r = sum_round f (unlike u.sgn v.sgn) (u.n * v.n) w.sgn (w.n * 2 ^ low f) c in
    rw (fused_ordinary f x y z u.sgn v.sgn w.sgn u.n v.n w.n u.has v.has w.has, r.2)
    (under_round f r.0 r.1 c (suc (i + j)) (pow_pos (low f + low f)) room
    (omega (
      arith,
      r.3,
      product_le (low f) i j u.n v.n u.most v.most,
      mul-le-mul_right (2 ^ low f) w.most,
      ap (λ (y : ℕ). y * 2 ^ low f) (pow-add 2 (low f) (i + j)),
      ap (λ (y : ℕ). 2 ^ (i + j) * y) (pow-add 2 (low f) (low f)),
      ap (λ (y : ℕ). y * c) (pow-succ' 2 (i + j)),
    )))
