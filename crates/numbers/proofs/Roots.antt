-- Whole roots, and that the root of a format sees only the value of its operand: equal fractions have the same root. Assumes nothing.
use mathlib.Core.Path.{◌≡◌, refl, sym, ap, ap₂, ◌∙◌, subst}
use Prim.Native.Nat.{ℕ, zero, suc, ◌+◌, ◌-◌, ◌*◌, ◌/◌, ◌^◌, ◌≤◌, ◌<◌, zero-le, compare}
use native.Mathlib.Nat.{mul-mul-mul_comm, le_refl, le_trans, le_of_eq, lt_of_le_of_lt, lt_of_not-le, not-le_of_lt, le_antisymm, le_of_suc-le-suc, mul_comm}
use native.Mathlib.Nat.{mul_assoc, mul_left_comm, mul_right_comm, mul-pos, zero-mul, mul-le-mul, le-div_iff_mul-le, div-lt_iff_lt-mul, pow-suc, pow-succ'}
use native.Mathlib.Nat.{zero-lt-suc}
use native.Mathlib.Omega.{arith}
use mathlib.Core.Bool.{Bool, true, false, not, cond, true≢false}
use lib.Dec.{T, leb, leb→le, nleb→lt}
use lib.Pow.{pow-add, pow_pos}
use lib.Ieee.{Float, nan, inf, fin, Format, prec, low, up, down, size, nearest, units}
use lib.Ieee.Fits.{down_pos}
use lib.Ieee.Exact.{HasValue}
use lib.Ieee.Nearest.{div_same}
use Rattle.numbers.specs.Fused.{whole_root, root}
use Rattle.numbers.proofs.Orders.{cmp_scale}

-- r is the whole root of n
pub record IsRoot (n r : ℕ) : Type 0 where
  pub under : r * r ≤ n
  pub over : n < suc r * suc r

pub square_mono : {a b : ℕ} → a ≤ b → a * a ≤ b * b
square_mono h = mul-le-mul h h

not_more : {n a b : ℕ} → IsRoot n a → IsRoot n b → a ≤ b
not_more {n} {a} {b} x y =
    le_of_suc-le-suc (lt_of_not-le (λ (h : suc b ≤ a). not-le_of_lt (lt_of_le_of_lt (le_trans (square_mono h) x.under) y.over) (le_refl (suc b * suc b))))

pub root_unique : {n a b : ℕ} → IsRoot n a → IsRoot n b → a ≡ b
root_unique x y = le_antisymm (not_more x y) (not_more y x)

-- a number whose square is at most n is at most the root, and one whose square is above n is above it
pub root_least : (n r p : ℕ) → IsRoot n r → p * p ≤ n → p ≤ r
root_least n r p x l =
    le_of_suc-le-suc (lt_of_not-le (λ (g : suc r ≤ p). not-le_of_lt (lt_of_le_of_lt (le_trans (square_mono g) l) x.over) (le_refl (suc r * suc r))))

pub root_most : (n r p : ℕ) → IsRoot n r → n < p * p → r < p
root_most n r p x l = lt_of_not-le (λ (g : p ≤ r). not-le_of_lt l (le_trans (square_mono g) x.under))

pub twice_square : (s : ℕ) → 2 * s * (2 * s) ≡ s * s * 4
twice_square s = mul-mul-mul_comm 2 s 2 s ∙ mul_comm 4 (s * s)

next : (s : ℕ) → suc (suc (2 * s)) ≡ 2 * suc s
next s = omega arith

digit : (n s : ℕ) → IsRoot (n / 4) s → IsRoot n (cond (leb (suc (2 * s) * suc (2 * s)) n) (suc (2 * s)) (2 * s))
digit n s ih = go (leb (suc (2 * s) * suc (2 * s)) n) (leb→le (suc (2 * s) * suc (2 * s)) n) (nleb→lt (suc (2 * s) * suc (2 * s)) n)
  where
    lo : 2 * s * (2 * s) ≤ n
    lo = le_trans (le_of_eq (twice_square s)) ((le-div_iff_mul-le (zero-lt-suc 3)).0 ih.under)

    hi : n < suc (suc (2 * s)) * suc (suc (2 * s))
    hi = subst (λ (y : ℕ). n < y * y) (sym (next s)) (subst (λ (y : ℕ). n < y) (sym (twice_square (suc s))) ((div-lt_iff_lt-mul (zero-lt-suc 3)).0 ih.over))

    go : (b : Bool) → (T b → suc (2 * s) * suc (2 * s) ≤ n) → (T (not b) → n < suc (2 * s) * suc (2 * s)) → IsRoot n (cond b (suc (2 * s)) (2 * s))
    go true a b = record { under = a tt; over = hi }
    go false a b = record { under = lo; over = b tt }

pub whole_root_root : (d n : ℕ) → n < 4 ^ d → IsRoot n (whole_root d n)
unfolding whole_root
whole_root_root zero n h = record { under = zero-le; over = h }
whole_root_root (suc d) n h = digit n (whole_root d (n / 4)) (whole_root_root d (n / 4)
    ((div-lt_iff_lt-mul (zero-lt-suc 3)).1 (subst (λ (y : ℕ). n < y) (pow-suc 4 d) h)))

-- ---- powers of four
pub four_pow : (j : ℕ) → 4 ^ j ≡ 2 ^ (2 * j)
four_pow zero = refl
four_pow (suc j) = pow-succ' 4 j ∙ ap (λ (y : ℕ). 4 * y) (four_pow j) ∙ sym (pow-add 2 2 (2 * j)) ∙ ap (λ (y : ℕ). 2 ^ y) (two j)
  where
    two : (j : ℕ) → 2 + 2 * j ≡ 2 * suc j
    two j = omega arith

pub four_square : (j : ℕ) → 4 ^ j ≡ 2 ^ j * 2 ^ j
four_square j = four_pow j ∙ ap (λ (y : ℕ). 2 ^ y) (dbl j) ∙ pow-add 2 j j
  where
    dbl : (j : ℕ) → 2 * j ≡ j + j
    dbl j = omega arith

pub four_pos : (j : ℕ) → 0 < 4 ^ j
four_pos j = subst (λ (y : ℕ). 0 < y) (sym (four_pow j)) (pow_pos (2 * j))

-- ---- the root of n / c, both in units of the smallest value's square, as `root` has it
unfoldable pub root_of : Format → ℕ → ℕ → Float
root_of f n c =
    let k = (size (n / c) + 1) / 2 - prec f in
    let q = whole_root (prec f) (n / (c * 4 ^ k)) in
    units f false (nearest q (compare (n * 4) ((2 * q + 1) * (2 * q + 1) * (c * 4 ^ k)))) k

-- with k and q known
pub root_of_at : (f : Format) (n c k q : ℕ) → (size (n / c) + 1) / 2 - prec f ≡ k → whole_root (prec f) (n / (c * 4 ^ k)) ≡ q
    → root_of f n c ≡ units f false (nearest q (compare (n * 4) ((2 * q + 1) * (2 * q + 1) * (c * 4 ^ k)))) k
unfolding root_of
root_of_at f n c k q a b =
    ap (λ (k : ℕ). let q = whole_root (prec f) (n / (c * 4 ^ k)) in units f false (nearest q (compare (n * 4) ((2 * q + 1) * (2 * q + 1) * (c * 4 ^ k)))) k) a
    ∙ ap (λ (q : ℕ). units f false (nearest q (compare (n * 4) ((2 * q + 1) * (2 * q + 1) * (c * 4 ^ k)))) k) b

pub root_of_same : (f : Format) (n c m d : ℕ) → 0 < c → 0 < d → n * d ≡ m * c → root_of f n c ≡ root_of f m d
root_of_same f n c m d C D e =
    let k = (size (m / d) + 1) / 2 - prec f in
    let G = 4 ^ k in
    let q = whole_root (prec f) (m / (d * G)) in
    let O = (2 * q + 1) * (2 * q + 1) in
    root_of_at f n c k q (ap (λ (x : ℕ). (size x + 1) / 2 - prec f) (div_same n c m d C D e))
    (ap (whole_root (prec f)) (div_same n (c * G) m (d * G) (mul-pos C (four_pos k)) (mul-pos D (four_pos k)) (more n d m c G e)))
    ∙ ap (λ o. units f false (nearest q o) k)
    (cmp_scale (n * 4) (O * (c * G)) d D ∙ ap₂ compare (four n d m c e) (across O c d G) ∙ sym (cmp_scale (m * 4) (O * (d * G)) c C))
    ∙ sym (root_of_at f m d k q refl refl)
  where
    more : (n d m c G : ℕ) → n * d ≡ m * c → n * (d * G) ≡ m * (c * G)
    more n d m c G e = sym (mul_assoc n d G) ∙ ap (λ (y : ℕ). y * G) e ∙ mul_assoc m c G

    four : (n d m c : ℕ) → n * d ≡ m * c → n * 4 * d ≡ m * 4 * c
    four n d m c e = mul_right_comm n 4 d ∙ ap (λ (y : ℕ). y * 4) e ∙ sym (mul_right_comm m 4 c)

    across : (O c d G : ℕ) → O * (c * G) * d ≡ O * (d * G) * c
    across O c d G = simp (mul_assoc, mul_comm, mul_left_comm)

-- an operand that equals a / A
pub root_at : (f : Format) (x : Float) (a A : ℕ) → 0 < A → 0 < a → HasValue x false a A → root f x ≡ root_of f (a * 4 ^ low f) A
unfolding root root_of
root_at f nan a A P Q h = absurd h
root_at f (inf s) a A P Q h = absurd h
root_at f (fin s zero e) a A P Q h = absurd (no (0 * up e * A) (a * down e) (ap (λ (y : ℕ). y * A) (zero-mul (up e)) ∙ zero-mul A) h.1
    (mul-pos Q (down_pos e)))
  where
    no : (x y : ℕ) → x ≡ 0 → x ≡ y → 0 < y → ⊥
    no x y u v w = omega arith
root_at f (fin true (suc m) e) a A P Q h = absurd (true≢false h.0)
root_at f (fin false (suc m) e) a A P Q h =
    root_of_same f (suc m * up e * 4 ^ low f) (down e) (a * 4 ^ low f) A (down_pos e) P
    (mul_right_comm (suc m * up e) (4 ^ low f) A ∙ ap (λ (y : ℕ). y * 4 ^ low f) h.1 ∙ mul_right_comm a (down e) (4 ^ low f))
