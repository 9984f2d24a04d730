-- A format's finite values as counts of its smallest value: each is a number of `prec` digits with zeros behind them (`counted`), the count and the sign tell
-- two of them apart (`same-value`), and the last bit is the count's last significant digit (`last_bit`). Assumes nothing.
use mathlib.Core.Path.{◌≡◌, refl, sym, ap, ◌∙◌, subst}
use mathlib.Core.Logic.{◌⊎◌, inl, inr}
use Prim.Native.Nat.{ℕ, zero, suc, ◌+◌, ◌-◌, ◌*◌, ◌%◌, ◌^◌, ◌≤◌, ◌<◌}
use native.Mathlib.Nat.{le_of_suc-le-suc, lt_of_lt_of_le, lt_of_not-le, lt_irrefl, mul_assoc, mul_comm, mul_right_comm, mul-one, zero-mul, mul-pos}
use native.Mathlib.Nat.{mul-lt-mul_of_pos_right, lt_of_mul-lt-mul_right, pow-succ', eq_of_mul-eq-mul_right}
use native.Mathlib.Omega.{arith}
use mathlib.Core.Bool.{Bool, true, false, not, ◌&&◌, ◌||◌, beq, cond, true≢false}
use lib.IntN.{ℤ, pos, negsuc}
use lib.Dec.{T, leb, ltb, eqb, ltb→lt, leb→le, eqb→eq}
use lib.Pow.{pow-add, pow_pos, pow-lt}
use lib.Ieee.{Float, nan, inf, fin, Format, prec, emax, low, up, down, ne, fits, hid, ones, top, of_bits, to_bits}
use lib.Ieee.Fits.{down_pos, and_l, and_r, eq→eqb, two}
use lib.Ieee.Bits.{of_bits-to_bits}
use lib.Ieee.Exact.{HasValue}
use lib.Ieee.Positive.{num, den}
use lib.Ieee.Scale.{finite, overflow}
use Rattle.numbers.specs.Nearest.{Value, sign}
use Rattle.numbers.proofs.BitsOf.{to_bits_val, bits_of}
use Rattle.numbers.proofs.Grid.{Short, zero_short}

pub record Counted (f : Format) (v : Float) : Type 0 where
  pub count : ℕ
  pub has : HasValue v (sign v) count (2 ^ low f)
  pub short : Short (prec f) count
  pub under : count < overflow f

pow_le_back : (a l : ℕ) → 2 ^ a ≤ 2 ^ l → a ≤ l
pow_le_back a l h = le_of_suc-le-suc (lt_of_not-le (λ (g : suc l ≤ a). lt_irrefl (2 ^ l) (lt_of_lt_of_le (pow-lt g) h)))

-- m * 2 ^ e, as m * 2 ^ z smallest values
place : (m : ℕ) (e : ℤ) (l : ℕ) → down e ≤ 2 ^ l → (z : ℕ) × (m * up e * 2 ^ l ≡ m * 2 ^ z * down e)
place m (pos k) l h = (k + l, mul_assoc m (2 ^ k) (2 ^ l) ∙ ap (λ (y : ℕ). m * y) (sym (pow-add 2 k l)) ∙ sym (mul-one (m * 2 ^ (k + l))))
place m (negsuc k) l h = (
  l - suc k,
  ap (λ (y : ℕ). y * 2 ^ l) (mul-one m) ∙ ap (λ (y : ℕ). m * y) (ap (λ (y : ℕ). 2 ^ y) (back l (suc k) (pow_le_back (suc k) l h))
      ∙ pow-add 2 (l - suc k) (suc k))
      ∙ sym (mul_assoc m (2 ^ (l - suc k)) (2 ^ suc k)),
)
  where
    back : (l a : ℕ) → a ≤ l → l ≡ l - a + a
    back l a h = omega arith

pub counted : (f : Format) (v : Float) → Value f v → Counted f v
unfolding fits
counted f nan h = absurd h.1
counted f (inf s) h = absurd h.1
counted f (fin s zero e) h = record {
  count = 0;
  has = (refl, ap (λ (y : ℕ). y * 2 ^ low f) (zero-mul (up e)) ∙ zero-mul (2 ^ low f) ∙ sym (zero-mul (down e)));
  short = zero_short (prec f);
  under = pow_pos (low f + suc (emax f));
}
counted f (fin s (suc m) e) h =
    let A = eqb (suc m % 2) 1 in
    let B = ltb (suc m) (2 ^ prec f) in
    let C = leb (down e) (2 ^ low f) in
    let D = ltb (suc m * up e) (2 ^ suc (emax f) * down e) in
    let t = h.0 in
    let few : suc m < 2 ^ prec f = ltb→lt (suc m) (2 ^ prec f) (and_r A B (and_l (A && B) C (and_l (A && B && C) D t))) in
    let fine : down e ≤ 2 ^ low f = leb→le (down e) (2 ^ low f) (and_r (A && B) C (and_l (A && B && C) D t)) in
    let below : suc m * up e < 2 ^ suc (emax f) * down e = ltb→lt (suc m * up e) (2 ^ suc (emax f) * down e) (and_r (A && B && C) D t) in
    let p = place (suc m) e (low f) fine in
    let w = suc m * 2 ^ p.0 in
    record {
      count = w;
      has = (refl, p.1);
      short = record { head = suc m; zeros = p.0; is = refl; few = few };
      under = subst (λ (y : ℕ). w < y) (mul_comm (2 ^ suc (emax f)) (2 ^ low f) ∙ sym (pow-add 2 (low f) (suc (emax f))))
          (lt_of_mul-lt-mul_right (down e) (subst (λ (y : ℕ). y < 2 ^ suc (emax f) * 2 ^ low f * down e) p.1
          (subst (λ (y : ℕ). suc m * up e * 2 ^ low f < y) (mul_right_comm (2 ^ suc (emax f)) (down e) (2 ^ low f))
          (mul-lt-mul_of_pos_right below (pow_pos (low f))))));
    }

-- ---- what a count says of a value
pub finite_of : (x : Float) (t : Bool) (w l : ℕ) → HasValue x t w l → T (finite x)
finite_of nan t w l h = h
finite_of (inf s) t w l h = h
finite_of (fin s m e) t w l h = tt

pub sign_of : (x : Float) (t : Bool) (w l : ℕ) → HasValue x t w l → sign x ≡ t
sign_of nan t w l h = absurd h
sign_of (inf s) t w l h = absurd h
sign_of (fin s m e) t w l h = h.0

pub size_of : (x : Float) (t : Bool) (w l : ℕ) → HasValue x t w l → num x * l ≡ w * den x
size_of nan t w l h = absurd h
size_of (inf s) t w l h = absurd h
size_of (fin s m e) t w l h = h.1

pub size_nothing : (x : Float) (t : Bool) (w l : ℕ) → 0 < l → HasValue x t w l → w ≡ 0 → num x ≡ 0
size_nothing x t w l L h e = eq_of_mul-eq-mul_right l L (num x) 0 (size_of x t w l h ∙ ap (λ (y : ℕ). y * den x) e ∙ zero-mul (den x) ∙ sym (zero-mul l))

-- ---- one count and one sign, one value
pub same_value : (f : Format) (v w : Float) (s : Bool) (n : ℕ) → Value f v → Value f w → HasValue v s n (2 ^ low f) → HasValue w s n (2 ^ low f) → v ≡ w
same_value f v w s n h k p q =
    sym (of_bits-to_bits f v h.0) ∙ ap (of_bits f) (to_bits_val f v s n p ∙ sym (to_bits_val f w s n q)) ∙ of_bits-to_bits f w k.0

-- one number, whatever the sign of a zero
pub equal_numbers : (v w : Float) (s t : Bool) (n l : ℕ) → 0 < l → HasValue v s n l → HasValue w t n l → (s ≡ t) ⊎ (n ≡ 0) → T (ne v w) → ⊥
unfolding ne
equal_numbers nan w s t n l L p q o = absurd p
equal_numbers (inf r) w s t n l L p q o = absurd p
equal_numbers (fin r m e) nan s t n l L p q o = absurd q
equal_numbers (fin r m e) (inf u) s t n l L p q o = absurd q
equal_numbers (fin r m e) (fin u k d) s t n l L p q o =
    differ (eqb (m * up e * down d) (k * up d * down e)) (beq r u || eqb (m * up e * down d) 0)
    (eq→eqb (eq_of_mul-eq-mul_right l L (m * up e * down d) (k * up d * down e) cross)) (signs o)
  where
    cross : m * up e * down d * l ≡ k * up d * down e * l
    cross = mul_right_comm (m * up e) (down d) l ∙ ap (λ (y : ℕ). y * down d) p.1 ∙ mul_right_comm n (down e) (down d)
        ∙ ap (λ (y : ℕ). y * down e) (sym q.1) ∙ mul_right_comm (k * up d) l (down e)

    or_l : (a b : Bool) → T a → T (a || b)
    or_l true b h = tt
    or_l false b h = absurd h

    or_r : (a b : Bool) → T b → T (a || b)
    or_r true b h = tt
    or_r false b h = h

    alike : (x y : Bool) → x ≡ y → T (beq x y)
    alike true true h = tt
    alike true false h = absurd (true≢false h)
    alike false true h = absurd (true≢false (sym h))
    alike false false h = tt

    nothing : n ≡ 0 → m * up e * down d ≡ 0
    nothing z =
        eq_of_mul-eq-mul_right l L (m * up e * down d) 0
        (mul_right_comm (m * up e) (down d) l ∙ ap (λ (y : ℕ). y * down d) (p.1 ∙ ap (λ (y : ℕ). y * down e) z ∙ zero-mul (down e)) ∙ zero-mul (down d)
        ∙ sym (zero-mul l))

    signs : (s ≡ t) ⊎ (n ≡ 0) → T (beq r u || eqb (m * up e * down d) 0)
    signs (inl h) = or_l (beq r u) (eqb (m * up e * down d) 0) (alike r u (p.0 ∙ h ∙ sym q.0))
    signs (inr z) = or_r (beq r u) (eqb (m * up e * down d) 0) (eq→eqb (nothing z))

    differ : (a b : Bool) → T a → T b → T (not (a && b)) → ⊥
    differ true true x y h = h
    differ true false x y h = y
    differ false b x y h = x

pub unequal_numbers : (v w : Float) (s t : Bool) (n m l : ℕ) → HasValue v s n l → HasValue w t m l → (n ≡ m → ⊥) → T (ne v w)
unfolding ne
unequal_numbers nan w s t n m l p q o = absurd p
unequal_numbers (inf r) w s t n m l p q o = absurd p
unequal_numbers (fin r a e) nan s t n m l p q o = absurd q
unequal_numbers (fin r a e) (inf u) s t n m l p q o = absurd q
unequal_numbers (fin r a e) (fin u b d) s t n m l p q o = differ (eqb (a * up e * down d) (b * up d * down e)) (beq r u || eqb (a * up e * down d) 0)
    (λ h. o (equal (eqb→eq (a * up e * down d) (b * up d * down e) h)))
  where
    equal : a * up e * down d ≡ b * up d * down e → n ≡ m
    equal h =
        eq_of_mul-eq-mul_right (down e * down d) (mul-pos (down_pos e) (down_pos d)) n m
        (sym (mul_assoc n (down e) (down d)) ∙ ap (λ (y : ℕ). y * down d) (sym p.1) ∙ mul_right_comm (a * up e) l (down d) ∙ ap (λ (y : ℕ). y * l) h
        ∙ mul_right_comm (b * up d) (down e) l ∙ ap (λ (y : ℕ). y * down e) q.1 ∙ mul_right_comm m (down d) (down e) ∙ mul_assoc m (down e) (down d))

    differ : (a b : Bool) → (T a → ⊥) → T (not (a && b))
    differ true b h = absurd (h tt)
    differ false b h = tt

-- ---- the last bit
pub last_bit : (f : Format) (v : Float) (s : Bool) (q k : ℕ) → q ≤ 2 ^ prec f → (0 < k → hid f ≤ q) → HasValue v s (q * 2 ^ k) (2 ^ low f)
    → to_bits f v % 2 ≡ q % 2
last_bit f v s q k hi lo h =
    ap (λ (y : ℕ). y % 2) (bits_of f v s q k hi lo h)
    ∙ even (cond s (top f) 0) (k * hid f) q (cond s (2 ^ (prec f - 2) * suc (ones f)) 0) (k * 2 ^ (prec f - 2)) (top_even s)
    (ap (λ (y : ℕ). k * y) (hid_even ∙ mul_comm 2 (2 ^ (prec f - 2))) ∙ sym (mul_assoc k (2 ^ (prec f - 2)) 2))
  where
    even : (t u q a b : ℕ) → t ≡ a * 2 → u ≡ b * 2 → (t + (u + q)) % 2 ≡ q % 2
    even t u q a b x y = omega arith

    hid_even : hid f ≡ 2 * 2 ^ (prec f - 2)
    hid_even = ap (λ (y : ℕ). 2 ^ y) (less (prec f) (two f)) ∙ pow-succ' 2 (prec f - 2)
      where
        less : (p : ℕ) → 2 ≤ p → p - 1 ≡ suc (p - 2)
        less p h = omega arith

    top_even : (s : Bool) → cond s (top f) 0 ≡ cond s (2 ^ (prec f - 2) * suc (ones f)) 0 * 2
    top_even true = ap (λ (y : ℕ). y * suc (ones f)) (hid_even ∙ mul_comm 2 (2 ^ (prec f - 2))) ∙ mul_right_comm (2 ^ (prec f - 2)) 2 (suc (ones f))
    top_even false = refl
