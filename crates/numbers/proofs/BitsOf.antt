-- q * 2 ^ k of a format's smallest values, in bits: k * hid + q, and from `ones` * hid on it is the infinity. It holds for subnormal numbers, and where
-- rounding made q one digit longer. Assumes nothing.
use mathlib.Core.Path.{◌≡◌, refl, sym, ap, ap₂, ◌∙◌, subst}
use mathlib.Core.Logic.{◌⊎◌, inl, inr}
use Prim.Native.Nat.{ℕ, suc, ◌+◌, ◌-◌, ◌*◌, ◌/◌, ◌^◌, ◌≤◌, ◌<◌}
use native.Mathlib.Nat.{le_trans, le_of_eq, le_refl, lt_of_lt_of_le, lt_of_le_of_lt, lt_of_mul-lt-mul_right, mul-one, mul_comm, mul_assoc, mul-le-mul_right}
use native.Mathlib.Nat.{mul-div_cancel, div-one, suc-mul, add_assoc, pow-succ', eq-or-lt_of_le, eq-zero-or-pos, zero-mul}
use native.Mathlib.Omega.{arith}
use mathlib.Core.Bool.{Bool, true, false, not, cond}
use lib.Dec.{T, ltb, ltb→lt, nltb→le}
use lib.Pow.{pow-add, pow_pos, pow_mono, pow-lt, shl_lt}
use borrow.Author.Tests.{lt-ltb, le-ltb}
use lib.Ieee.{Float, nan, inf, fin, Format, prec, emax, low, down, size, odd, units, fits, hid, ones, top, of_bits, to_bits}
use lib.Ieee.Digits.{size-le}
use lib.Ieee.Fits.{odd-fits, inf-fits, two, down_pos}
use lib.Ieee.Bits.{of_bits-to_bits}
use lib.Ieee.Exact.{HasValue, units_val}
use Rattle.numbers.proofs.Sizes.{size_exact}

-- n smallest values are written b, the sign aside
record Shape (f : Format) (n b : ℕ) : Type 0 where
  written : (size n - prec f) * hid f + n / 2 ^ (size n - prec f) ≡ b
  fine : b < ones f * hid f → n < 2 ^ (low f + suc (emax f))
  over : ones f * hid f ≤ b → 2 ^ (low f + suc (emax f)) ≤ n

room : (p e k : ℕ) → 2 ≤ p → suc k < 2 * e + 1 → suc (p - 1 + k) ≤ e + p - 2 + suc e
room p e k a b = omega arith

past : (p e k : ℕ) → 2 ≤ p → 2 * e + 1 < suc (suc k) → e + p - 2 + suc e ≤ p - 1 + k
past p e k a b = omega arith

drops : (p k : ℕ) → 2 ≤ p → (suc (p - 1 + k) - p ≡ k) × (suc (p - 1 + k) ≡ p + k) × (suc (p - 1) ≡ p)
drops p k h = omega arith

-- hid ≤ q < 2 * hid
mid : (f : Format) (q k : ℕ) → hid f ≤ q → q < 2 ^ prec f → Shape f (q * 2 ^ k) (k * hid f + q)
mid f q k lo hi =
    let p = prec f in
    let h = hid f in
    let d = drops p k (two f) in
    let L : 2 ^ (p - 1 + k) ≤ q * 2 ^ k = le_trans (le_of_eq (pow-add 2 (p - 1) k)) (mul-le-mul_right (2 ^ k) lo) in
    let H : q * 2 ^ k < 2 ^ suc (p - 1 + k) = subst (λ (x : ℕ). q * 2 ^ k < 2 ^ x) (sym d.1) (shl_lt p k hi) in
    let z : size (q * 2 ^ k) - p ≡ k = ap (λ (x : ℕ). x - p) (size_exact (p - 1 + k) (q * 2 ^ k) L H) ∙ d.0 in
    let twice : 2 ^ p ≡ h + h = ap (λ (x : ℕ). 2 ^ x) (sym d.2) ∙ pow-succ' 2 (p - 1) ∙ dbl h in
    let one : suc k * h ≤ k * h + q = le_trans (le_of_eq (suc-mul k h)) (grow (k * h) h q lo) in
    let two' : k * h + q < suc (suc k) * h = subst (λ (x : ℕ). k * h + q < x) (sym (suc-mul (suc k) h ∙ ap (λ (x : ℕ). x + h) (suc-mul k h)))
    (fit (k * h) h q (2 ^ p) twice hi) in
    record {
      written = ap (λ (x : ℕ). x * h + q * 2 ^ k / 2 ^ x) z ∙ ap (λ (x : ℕ). k * h + x) (mul-div_cancel q (pow_pos k));
      fine = λ b. lt_of_lt_of_le H (pow_mono (room p (emax f) k (two f) (lt_of_mul-lt-mul_right h (lt_of_le_of_lt one b))));
      over = λ b. le_trans (pow_mono (past p (emax f) k (two f) (lt_of_mul-lt-mul_right h (lt_of_le_of_lt b two')))) L;
    }
  where
    dbl : (h : ℕ) → 2 * h ≡ h + h
    dbl h = omega arith

    grow : (a h q : ℕ) → h ≤ q → a + h ≤ a + q
    grow a h q l = omega arith

    fit : (a h q w : ℕ) → w ≡ h + h → q < w → a + q < a + h + h
    fit a h q w e l = omega arith

-- q < hid: a subnormal number, or zero
tiny : (f : Format) (q : ℕ) → q < hid f → Shape f (q * 2 ^ 0) (0 * hid f + q)
tiny f q hi =
    let p = prec f in
    let e : q * 2 ^ 0 ≡ q = mul-one q in
    let z : size (q * 2 ^ 0) - p ≡ 0 = none (size (q * 2 ^ 0)) p (size-le (q * 2 ^ 0) (p - 1) (subst (λ (x : ℕ). x < hid f) (sym e) hi)) in
    record {
      written = ap (λ (x : ℕ). x * hid f + q * 2 ^ 0 / 2 ^ x) z ∙ ap (λ (x : ℕ). 0 * hid f + x) (div-one (q * 2 ^ 0) ∙ e);
      fine = λ b. subst (λ (x : ℕ). x < 2 ^ (low f + suc (emax f))) (sym e) (lt_of_lt_of_le hi (pow_mono (inside (prec f) (emax f) (two f))));
      over = λ b. absurd (no q (hid f) (ones f * hid f) (0 * hid f) hi
          (le_trans (le_of_eq (sym (one_mul' (hid f)))) (mul-le-mul_right (hid f) (le_one (2 * emax f)))) (zero-mul (hid f)) b);
    }
  where
    none : (z p : ℕ) → z ≤ p - 1 → z - p ≡ 0
    none z p h = omega arith

    inside : (p e : ℕ) → 2 ≤ p → p - 1 ≤ e + p - 2 + suc e
    inside p e h = omega arith

    one_mul' : (h : ℕ) → 1 * h ≡ h
    one_mul' h = omega arith

    le_one : (a : ℕ) → 1 ≤ a + 1
    le_one a = omega arith

    no : (q h w a : ℕ) → q < h → h ≤ w → a ≡ 0 → w ≤ a + q → ⊥
    no q h w a x y z b = omega arith

-- all of them
shape : (f : Format) (q k : ℕ) → q ≤ 2 ^ prec f → (0 < k → hid f ≤ q) → Shape f (q * 2 ^ k) (k * hid f + q)
shape f q k hi lo = go (eq-or-lt_of_le hi)
  where
    d : suc (prec f - 1) ≡ prec f
    d = (drops (prec f) k (two f)).2

    pw : 2 ^ prec f ≡ 2 * hid f
    pw = ap (λ (x : ℕ). 2 ^ x) (sym d) ∙ pow-succ' 2 (prec f - 1)

    small : hid f < 2 ^ prec f
    small = subst (λ (x : ℕ). hid f < 2 ^ x) d (pow-lt (le_refl (suc (prec f - 1))))

    count : hid f * 2 ^ suc k ≡ 2 ^ prec f * 2 ^ k
    count = ap (λ (x : ℕ). hid f * x) (pow-succ' 2 k) ∙ sym (mul_assoc (hid f) 2 (2 ^ k)) ∙ ap (λ (x : ℕ). x * 2 ^ k) (mul_comm (hid f) 2 ∙ sym pw)

    add : (a h : ℕ) → a + h + h ≡ a + 2 * h
    add a h = omega arith

    bits : suc k * hid f + hid f ≡ k * hid f + 2 ^ prec f
    bits = ap (λ (x : ℕ). x + hid f) (suc-mul k (hid f)) ∙ add (k * hid f) (hid f) ∙ ap (λ (x : ℕ). k * hid f + x) (sym pw)

    go : (q ≡ 2 ^ prec f) ⊎ (q < 2 ^ prec f) → Shape f (q * 2 ^ k) (k * hid f + q)
    go (inl e) =
        subst (λ (x : ℕ). Shape f (x * 2 ^ k) (k * hid f + x)) (sym e)
        (subst (λ (x : ℕ). Shape f x (k * hid f + 2 ^ prec f)) count (subst (λ (x : ℕ). Shape f (hid f * 2 ^ suc k) x) bits
        (mid f (hid f) (suc k) (le_refl (hid f)) small)))
    go (inr l) = choose (ltb q (hid f)) (ltb→lt q (hid f)) (nltb→le q (hid f))
      where
        choose : (b : Bool) → (T b → q < hid f) → (T (not b) → hid f ≤ q) → Shape f (q * 2 ^ k) (k * hid f + q)
        choose true a c = zero_k (eq-zero-or-pos k)
          where
            no : (q h : ℕ) → q < h → h ≤ q → ⊥
            no q h x y = omega arith

            zero_k : (k ≡ 0) ⊎ (0 < k) → Shape f (q * 2 ^ k) (k * hid f + q)
            zero_k (inl e) = subst (λ (x : ℕ). Shape f (q * 2 ^ x) (x * hid f + q)) (sym e) (tiny f q (a tt))
            zero_k (inr h) = absurd (no q (hid f) (a tt) (lo h))
        choose false a c = mid f q k (c tt) l

-- ---- what is written
pub to_bits_val : (f : Format) (v : Float) (s : Bool) (n : ℕ) → HasValue v s n (2 ^ low f)
    → to_bits f v ≡ cond s (top f) 0 + ((size n - prec f) * hid f + n / 2 ^ (size n - prec f))
unfolding to_bits
to_bits_val f nan s n h = absurd h
to_bits_val f (inf t) s n h = absurd h
to_bits_val f (fin t m e) s n h =
    ap₂ (λ (b : Bool) (x : ℕ). cond b (top f) 0 + (size x - prec f) * hid f + x / 2 ^ (size x - prec f)) h.0
    (ap (λ (x : ℕ). x / down e) h.1 ∙ mul-div_cancel n (down_pos e))
    ∙ add_assoc (cond s (top f) 0) ((size n - prec f) * hid f) (n / 2 ^ (size n - prec f))

pub bits_of : (f : Format) (v : Float) (s : Bool) (q k : ℕ) → q ≤ 2 ^ prec f → (0 < k → hid f ≤ q) → HasValue v s (q * 2 ^ k) (2 ^ low f)
    → to_bits f v ≡ cond s (top f) 0 + (k * hid f + q)
bits_of f v s q k hi lo h = to_bits_val f v s (q * 2 ^ k) h ∙ ap (λ (x : ℕ). cond s (top f) 0 + x) (shape f q k hi lo).written

to_bits_inf : (f : Format) (s : Bool) → to_bits f (inf s) ≡ cond s (top f) 0 + ones f * hid f
unfolding to_bits
to_bits_inf f s = refl

pub units_odd : (f : Format) (s : Bool) (q k : ℕ) → q * 2 ^ k < 2 ^ (low f + suc (emax f)) → units f s q k ≡ odd (suc (prec f)) s q k (low f)
unfolding units
units_odd f s q k h = ap (λ (b : Bool). cond b (odd (suc (prec f)) s q k (low f)) (inf s)) (lt-ltb (q * 2 ^ k) (2 ^ (low f + suc (emax f))) h)

pub units_inf : (f : Format) (s : Bool) (q k : ℕ) → 2 ^ (low f + suc (emax f)) ≤ q * 2 ^ k → units f s q k ≡ inf s
unfolding units
units_inf f s q k h = ap (λ (b : Bool). cond b (odd (suc (prec f)) s q k (low f)) (inf s)) (le-ltb (q * 2 ^ k) (2 ^ (low f + suc (emax f))) h)

module _ (f : Format) (s : Bool) (q k : ℕ) (hi : q ≤ 2 ^ prec f) (lo : 0 < k → hid f ≤ q) where
  pub bits_under : k * hid f + q < ones f * hid f → of_bits f (cond s (top f) 0 + (k * hid f + q)) ≡ units f s q k
  bits_under b =
      let z = shape f q k hi lo in
      let u : units f s q k ≡ odd (suc (prec f)) s q k (low f) = units_odd f s q k (z.fine b) in
      let t : T (fits f (units f s q k)) = subst (λ (v : Float). T (fits f v)) (sym u)
      (odd-fits f (suc (prec f)) s q k (lt_of_le_of_lt hi (pow-lt (le_refl (suc (prec f))))) hi (z.fine b)) in
      let w : to_bits f (units f s q k) ≡ cond s (top f) 0 + (k * hid f + q) = bits_of f (units f s q k) s q k hi lo (units_val f s q k (z.fine b)) in
      ap (of_bits f) (sym w) ∙ of_bits-to_bits f (units f s q k) t

  pub bits_over : ones f * hid f ≤ k * hid f + q → of_bits f (cond s (top f) 0 + ones f * hid f) ≡ units f s q k
  bits_over b = ap (of_bits f) (sym (to_bits_inf f s)) ∙ of_bits-to_bits f (inf s) (inf-fits f s) ∙ sym (units_inf f s q k ((shape f q k hi lo).over b))
