-- Sums and products of floats as signed counts. Each rounds the count that is to come out, and is exact where the format holds it (`add_is`, `sub_is`,
-- `mul_is`): a count is a difference, so that no law asks for a sign. Assumes nothing.
use mathlib.Core.Path.{◌≡◌, refl, sym, ap, ap₂, ◌∙◌, subst}
use mathlib.Core.Logic.{◌⊎◌, inl, inr}
use Prim.Native.Nat.{ℕ, suc, ◌+◌, ◌-◌, ◌*◌, ◌^◌, ◌≤◌, ◌<◌, compare, Ordering}
use native.Mathlib.Nat.{mul_assoc, mul-mul-mul_comm, mul-pos, le_of_mul-le-mul_right, eq_of_mul-eq-mul_right}
use native.Mathlib.Nat.{eq-or-lt_of_le, mul-le-mul_right, lt_of_le_of_lt, le_trans, le_of_eq}
use native.Mathlib.Decide.{dec_le}
use native.Mathlib.Omega.{arith}
use mathlib.Core.Bool.{Bool, true, false, not, beq}
use lib.Pow.{pow-add, pow_pos, pow-lt}
use lib.IntN.{ℤ}
use lib.Ieee.{Float, nan, inf, fin, Format, prec, emax, low, up, down, unlike, round, sum, neg, add, sub, mul}
use lib.Ieee.Fits.{down_pos, two, two-le_pos}
use lib.Ieee.Exact.{HasValue, round_exact}
use lib.Ieee.Scale.{overflow, round_same}
use Rattle.numbers.proofs.Grid.{Short, dist}
use Rattle.numbers.proofs.Orders.{Cmp, cmp}
use Rattle.numbers.proofs.Signs.{either, same_sign}
use Rattle.numbers.proofs.Sums.{sum_plus, sum_less, sum_more, sum_none, sum_same, sub_mul}
use Rattle.exact.specs.Signed.{Differ, Is, Rounds, Held, Within}

-- ---- differences
-- two of one sign added, and two of unlike signs
join : (z : Bool) (n k a b c d : ℕ) → Differ z n a b → Differ z k c d → Differ z (n + k) (a + c) (b + d)
join true n k a b c d h l = omega arith
join false n k a b c d h l = omega arith

record Apart (z : Bool) (n k a b : ℕ) : Type 0 where
  more : k < n → Differ z (n - k) a b
  less : n < k → Differ (not z) (k - n) a b
  none : n ≡ k → a ≡ b

apart : (z : Bool) (n k a b c d : ℕ) → Differ z n a b → Differ (not z) k c d → Apart z n k (a + c) (b + d)
apart true n k a b c d h l = omega arith
apart false n k a b c d h l = omega arith

level : (z : Bool) (a b : ℕ) → a ≡ b → Differ z 0 a b
level true a b e = omega arith
level false a b e = omega arith

turn : (z : Bool) (n a b : ℕ) → Differ z n a b → Differ (not z) n b a
turn true n a b h = h
turn false n a b h = h

pub either_side : (z : Bool) (n a b : ℕ) → Differ z n a b → (a ≡ b + n) ⊎ (b ≡ a + n)
either_side true n a b h = inl h
either_side false n a b h = inr h

pub size_is : (z : Bool) (n a b : ℕ) → Differ z n a b → dist a b ≡ n
size_is true n a b h = omega arith
size_is false n a b h = omega arith

pub moved : (z : Bool) (n a b c d : ℕ) → Differ z n a b → a + d ≡ b + c → Differ z n c d
moved true n a b c d h e = omega arith
moved false n a b c d h e = omega arith

-- ---- signs
not_beq : (u s : Bool) → beq (not u) s ≡ not (beq u s)
not_beq true true = refl
not_beq true false = refl
not_beq false true = refl
not_beq false false = refl

other_sign : (u v : Bool) → beq u v ≡ false → v ≡ not u
other_sign true true e = e
other_sign true false e = refl
other_sign false true e = refl
other_sign false false e = sym e

-- a sign that is not u, before s
pub other : (u v s : Bool) → beq u v ≡ false → beq v s ≡ not (beq u s)
other u v s e = ap (λ (w : Bool). beq w s) (other_sign u v e) ∙ not_beq u s

signs : (u v s t : Bool) → beq (beq u s) (beq v t) ≡ beq (unlike u v) (unlike s t)
signs true true true true = refl
signs true true true false = refl
signs true true false true = refl
signs true true false false = refl
signs true false true true = refl
signs true false true false = refl
signs true false false true = refl
signs true false false false = refl
signs false true true true = refl
signs false true true false = refl
signs false true false true = refl
signs false true false false = refl
signs false false true true = refl
signs false false true false = refl
signs false false false true = refl
signs false false false false = refl

-- ---- what comes out is round of the exact result
-- a finite number is m * 2 ^ e, and that is n / L
form : (x : Float) (u : Bool) (n L : ℕ) → HasValue x u n L → (m : ℕ) × (e : ℤ) × (x ≡ fin u m e) × (m * up e * L ≡ n * down e)
form nan u n L h = absurd h
form (inf t) u n L h = absurd h
form (fin t m e) u n L h = (m, e, ap (λ (s : Bool). fin s m e) h.0, h.1)

pub add_at : (f : Format) (x y : Float) (u v : Bool) (n k L : ℕ) → 0 < L → HasValue x u n L → HasValue y v k L → add f x y ≡ sum f u n v k L
unfolding add
add_at f x y u v n k L P h l =
    let X = form x u n L h in
    let Y = form y v k L l in
    let e = down X.1 in
    let d = down Y.1 in
    ap₂ (add f) X.2 Y.2
    ∙ sum_same f u (X.0 * up X.1 * d) v (Y.0 * up Y.1 * e) (e * d) n k L (mul-pos (down_pos X.1) (down_pos Y.1)) P
    (omega (arith, ap (λ (y : ℕ). y * d) X.3)) (omega (arith, ap (λ (y : ℕ). y * e) Y.3))

pub mul_at : (f : Format) (x y : Float) (u v : Bool) (n k L : ℕ) → 0 < L → HasValue x u n L → HasValue y v k L
    → mul f x y ≡ round f (unlike u v) (n * k) (L * L)
unfolding mul
mul_at f x y u v n k L P h l =
    let X = form x u n L h in
    let Y = form y v k L l in
    let a = X.0 * up X.1 in
    let b = Y.0 * up Y.1 in
    ap₂ (mul f) X.2 Y.2
    ∙ round_same f (unlike u v) (a * b) (down X.1 * down Y.1) (n * k) (L * L) (mul-pos (down_pos X.1) (down_pos Y.1)) (mul-pos P P)
    (mul-mul-mul_comm a b L L ∙ ap₂ ◌*◌ X.3 Y.3 ∙ mul-mul-mul_comm n (down X.1) k (down Y.1))

pub neg_has : (x : Float) (u : Bool) (n L : ℕ) → HasValue x u n L → HasValue (neg x) (not u) n L
unfolding neg
neg_has x u n L h = let X = form x u n L h in rw X.2 (refl, X.3)

-- ---- in signed counts
module _ (f : Format) (s u v : Bool) (n k a b c d : ℕ) (h : Differ (beq u s) n a b) (l : Differ (beq v s) k c d) where
  pub summed : Rounds f (sum f u n v k (2 ^ low f)) s (a + c) (b + d)
  summed = elim (either (beq u v)) [
    | inl e ↦ record {
      sgn = u;
      mag = n + k;
      is = sum_plus f u n v k (2 ^ low f) e;
      gap = join (beq u s) n k a b c d h (subst (λ (w : Bool). Differ (beq w s) k c d) (sym (same_sign u v e)) l);
    }
    | inr e ↦
        let x = other u v s e in
        by e x (compare n k) (cmp n k) (apart (beq u s) n k a b c d h (subst (λ (z : Bool). Differ z k c d) x l))
  ]
    where
      by : (e : beq u v ≡ false) → beq v s ≡ not (beq u s) → (o : Ordering) → Cmp o n k → Apart (beq u s) n k (a + c) (b + d)
          → Rounds f (sum f u n v k (2 ^ low f)) s (a + c) (b + d)
      by e x Ordering.lt g A = record { sgn = v; mag = k - n; is = sum_less f u n v k (2 ^ low f) e g; gap = rw x (A.less g) }
      by e x Ordering.eq g A = record {
        sgn = false;
        mag = 0;
        is = sum_none f u n v k (2 ^ low f) e g;
        gap = level (beq false s) (a + c) (b + d) (A.none g);
      }
      by e x Ordering.gt g A = record { sgn = u; mag = n - k; is = sum_more f u n v k (2 ^ low f) e g; gap = A.more g }

pub times : (y z : Bool) (n k a b c d : ℕ) → Differ y n a b → Differ z k c d → Differ (beq y z) (n * k) (a * c + b * d) (a * d + b * c)
times true true n k a b c d h l = rw (h, l) (omega arith)
times true false n k a b c d h l = rw (h, l) (omega arith)
times false true n k a b c d h l = rw (h, l) (omega arith)
times false false n k a b c d h l = rw (h, l) (omega arith)

-- a difference in a smaller unit
part : (y : Bool) (n a b w z L : ℕ) → Differ y n a b → a + z * L ≡ b + w * L → 0 < L → (m : ℕ) × (n ≡ m * L) × Differ y m w z
part y n a b w z L h e P = go y h
  where
    cut : (w z : ℕ) → n + z * L ≡ w * L → (m : ℕ) × (n ≡ m * L) × (w ≡ z + m)
    cut w z e = (w - z, omega (arith, sub_mul w z L), omega (arith, le_of_mul-le-mul_right {m = z} {n = w} {k = L} (omega arith) P))

    go : (y : Bool) → Differ y n a b → (m : ℕ) × (n ≡ m * L) × Differ y m w z
    go true h = cut w z (omega arith)
    go false h = cut z w (omega arith)

-- ---- exact where the format holds the count
-- 2 ^ prec itself is held too, with fewer digits
pub few_digits : (p q k : ℕ) → 0 < p → q ≤ 2 ^ p → Short p (q * 2 ^ k)
few_digits p q k P h = elim (eq-or-lt_of_le h) [
  | inl e ↦ record { head = 1; zeros = p + k; is = omega (arith, ap (λ (y : ℕ). y * 2 ^ k) e, pow-add 2 p k); few = pow-lt {i = 0} {j = p} P }
  | inr l ↦ record { head = q; zeros = k; is = refl; few = l }
]

pub exact : {f : Format} {x : Float} {s : Bool} {a b : ℕ} → Rounds f x s a b → Held f a b → Is f x s a b
exact {f} {x} {s} {a} {b} r h =
    let S = few_digits (prec f) h.head h.zeros (two-le_pos (prec f) (two f)) h.few in
    let d = size_is (beq r.sgn s) r.mag a b r.gap in
    let e : r.mag ≡ h.head * 2 ^ h.zeros = elim h.gap [ inl x ↦ omega arith | inr x ↦ omega arith ] in
    record {
      sgn = r.sgn;
      mag = r.mag;
      has = rw r.is (round_exact f r.sgn r.mag (2 ^ low f) S.head S.zeros (pow_pos (low f)) S.few (rw S.is at h.under)
          (ap (λ (y : ℕ). y * 2 ^ low f) (e ∙ S.is)));
      gap = r.gap;
    }

-- the same difference by other names
pub again : {f : Format} {x : Float} {s : Bool} {a b c d : ℕ} → Is f x s a b → a + d ≡ b + c → Is f x s c d
again {s = s} {a} {b} {c} {d} h e = record { sgn = h.sgn; mag = h.mag; has = h.has; gap = moved (beq h.sgn s) h.mag a b c d h.gap e }

pub again_rounds : {f : Format} {x : Float} {s : Bool} {a b c d : ℕ} → Rounds f x s a b → a + d ≡ b + c → Rounds f x s c d
again_rounds {s = s} {a} {b} {c} {d} h e = record { sgn = h.sgn; mag = h.mag; is = h.is; gap = moved (beq h.sgn s) h.mag a b c d h.gap e }

pub again_held : {f : Format} {a b c d : ℕ} → Held f a b → a + d ≡ b + c → Held f c d
again_held {f} {a} {b} {c} {d} h e =
    let n = h.head * 2 ^ h.zeros in
    let g : (c ≡ d + n) ⊎ (d ≡ c + n) = elim h.gap [ inl x ↦ inl (omega arith) | inr x ↦ inr (omega arith) ] in
    record { head = h.head; zeros = h.zeros; gap = g; few = h.few; under = h.under }

-- ---- sums, differences and products
pub add_rounds : {f : Format} {x y : Float} {s : Bool} {a b c d : ℕ} → Is f x s a b → Is f y s c d → Rounds f (add f x y) s (a + c) (b + d)
add_rounds {f} {x} {y} {s} {a} {b} {c} {d} h l =
    rw (add_at f x y h.sgn l.sgn h.mag l.mag (2 ^ low f) (pow_pos (low f)) h.has l.has)
    (summed f s h.sgn l.sgn h.mag l.mag a b c d h.gap l.gap)

neg_is : {f : Format} {x : Float} {s : Bool} {a b : ℕ} → Is f x s a b → Is f (neg x) s b a
neg_is {f} {x} {s} {a} {b} h = record {
  sgn = not h.sgn;
  mag = h.mag;
  has = neg_has x h.sgn h.mag (2 ^ low f) h.has;
  gap = rw not_beq (turn (beq h.sgn s) h.mag a b h.gap);
}

pub sub_rounds : {f : Format} {x y : Float} {s : Bool} {a b c d : ℕ} → Is f x s a b → Is f y s c d → Rounds f (sub f x y) s (a + d) (b + c)
unfolding sub
sub_rounds h l = add_rounds h (neg_is l)

pub mul_rounds : {f : Format} {x y : Float} {s t : Bool} {a b c d : ℕ} → Is f x s a b → Is f y t c d → (p q : ℕ)
    → a * c + b * d + q * 2 ^ low f ≡ a * d + b * c + p * 2 ^ low f → Rounds f (mul f x y) (unlike s t) p q
mul_rounds {f} {x} {y} {s} {t} {a} {b} {c} {d} h l p q e =
    let L = 2 ^ low f in
    let P : 0 < L = pow_pos (low f) in
    let u = unlike h.sgn l.sgn in
    let n = h.mag * l.mag in
    let D : Differ (beq u (unlike s t)) n (a * c + b * d) (a * d + b * c) = rw (← signs h.sgn l.sgn s t)
    (times (beq h.sgn s) (beq l.sgn t) h.mag l.mag a b c d h.gap l.gap) in
    let m = part (beq u (unlike s t)) n (a * c + b * d) (a * d + b * c) p q L D e P in
    record {
      sgn = u;
      mag = m.0;
      is = mul_at f x y h.sgn l.sgn h.mag l.mag L P h.has l.has
          ∙ round_same f u n (L * L) m.0 L (mul-pos P P) P (ap (λ (y : ℕ). y * L) m.1 ∙ mul_assoc m.0 L L);
      gap = m.2;
    }

-- what comes out is p - q, if the format holds it
module _ {f : Format} {x y : Float} {s : Bool} {a b c d p q : ℕ} (h : Is f x s a b) where
  pub add_is : Is f y s c d → a + c + q ≡ b + d + p → Held f p q → Is f (add f x y) s p q
  add_is l e = exact (again_rounds (add_rounds h l) e)

  pub sub_is : Is f y s c d → a + d + q ≡ b + c + p → Held f p q → Is f (sub f x y) s p q
  sub_is l e = exact (again_rounds (sub_rounds h l) e)

  pub mul_is : {t : Bool} → Is f y t c d → a * c + b * d + q * 2 ^ low f ≡ a * d + b * c + p * 2 ^ low f → Held f p q → Is f (mul f x y) (unlike s t) p q
  mul_is l e = exact (mul_rounds h l p q e)

-- a multiple of 2 ^ j units that is 2 ^ prec times that at most
pub held_at : (f : Format) (j k u v p q : ℕ) → p + v * 2 ^ j ≡ q + u * 2 ^ j → Within (2 ^ prec f * 2 ^ j) p q 0 0 → prec f + (j + k) < low f + suc (emax f)
    → Held f (p * 2 ^ k) (q * 2 ^ k)
held_at f j k u v p q e w room = elim (dec_le v u) [
  | yes h ↦ let z = side p q u v e w.0 h in record { head = u - v; zeros = j + k; gap = inl z.0; few = z.1; under = z.2 }
  | no h ↦ let z = side q p v u (sym e) w.1 (omega arith) in record { head = v - u; zeros = j + k; gap = inr z.0; few = z.1; under = z.2 }
]
  where
    side : (p q u v : ℕ) → p + v * 2 ^ j ≡ q + u * 2 ^ j → p + 0 ≤ q + 0 + 2 ^ prec f * 2 ^ j → v ≤ u
        → (p * 2 ^ k ≡ q * 2 ^ k + (u - v) * 2 ^ (j + k)) × (u - v ≤ 2 ^ prec f) × ((u - v) * 2 ^ (j + k) < overflow f)
    side p q u v e w h =
        let is : p ≡ q + (u - v) * 2 ^ j = omega (arith, sub_mul u v (2 ^ j), mul-le-mul_right (2 ^ j) h) in
        let few : u - v ≤ 2 ^ prec f = le_of_mul-le-mul_right {m = u - v} {n = 2 ^ prec f} {k = 2 ^ j} (omega arith) (pow_pos j) in (
          omega (arith, ap (λ (y : ℕ). y * 2 ^ k) is, ap (λ (y : ℕ). (u - v) * y) (pow-add 2 j k)),
          few,
          lt_of_le_of_lt (le_trans (mul-le-mul_right (2 ^ (j + k)) few) (le_of_eq (sym (pow-add 2 (prec f) (j + k))))) (pow-lt room),
        )

-- ---- one float, one count
pub one_value : (x : Float) (u v : Bool) (n k L : ℕ) → HasValue x u n L → HasValue x v k L → (u ≡ v) × (n ≡ k)
one_value nan u v n k L h l = absurd h
one_value (inf t) u v n k L h l = absurd h
one_value (fin t m e) u v n k L h l = (sym h.0 ∙ l.0, eq_of_mul-eq-mul_right (down e) (down_pos e) n k (sym h.1 ∙ l.1))

beq_same : (u : Bool) → beq u u ≡ true
beq_same true = refl
beq_same false = refl

pub plus : {f : Format} {x : Float} {u : Bool} {n : ℕ} → HasValue x u n (2 ^ low f) → Is f x u n 0
plus {u = u} {n} h = record { sgn = u; mag = n; has = h; gap = rw (beq_same u) (omega arith) }

pub minus : {f : Format} {x : Float} {s : Bool} {n : ℕ} (u : Bool) → beq u s ≡ false → HasValue x u n (2 ^ low f) → Is f x s 0 n
minus {n = n} u e h = record { sgn = u; mag = n; has = h; gap = rw e (omega arith) }
