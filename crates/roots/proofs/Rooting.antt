-- The root of a format's number, from a whole root with four digits more than are kept, rounded to odd. Over any format. Assumes nothing.
use mathlib.Core.Path.{◌≡◌, refl, sym, ap, ap₂, ◌∙◌, subst}
use mathlib.Core.Logic.{◌⊎◌, inl, inr}
use Prim.Native.Nat.{ℕ, suc, ◌+◌, ◌-◌, ◌*◌, ◌/◌, ◌%◌, ◌^◌, ◌≤◌, ◌<◌, compare, Ordering}
use native.Mathlib.Nat.{le_refl, le_trans, le_of_eq, lt_of_lt_of_le, lt_of_le_of_lt, mul_comm, mul_assoc, mul_left_comm, mul-mul-mul_comm, mul-pos}
use native.Mathlib.Nat.{mul-le-mul_right, mul-lt-mul_of_pos_right, mul-div-mul_right, mul-add, add-mul, mul-one, one-mul, pow-succ', zero-lt-suc, div-one}
use native.Mathlib.Nat.{eq-zero-or-pos, le-div_iff_mul-le, div-lt_iff_lt-mul}
use native.Mathlib.Omega.{arith}
use mathlib.Core.Bool.{false}
use lib.Arith.{digits_mod}
use lib.Pow.{pow-add, pow_pos}
use lib.Ieee.{Format, prec, emax, low, size, nearest, units, round}
use lib.Ieee.Digits.{size-lt, size-le}
use lib.Ieee.Fits.{two, reach}
use lib.Ieee.Nearest.{closest, closest_same}
use Rattle.numbers.specs.Fused.{whole_root}
use Rattle.numbers.proofs.Orders.{Cmp, cmp, cmp_lt, cmp_eq, cmp_gt, cmp_scale}
use Rattle.numbers.proofs.Sizes.{size_exact, size_shl, size_shr, pow_lt_back}
use Rattle.numbers.proofs.Roots.{IsRoot, square_mono, root_unique, root_least, root_most, whole_root_root, four_pow, four_square, four_pos, root_of, root_of_at}
use Rattle.numbers.proofs.Roots.{root_of_same}
use Rattle.rounding.specs.Odd.{to_odd}
use Rattle.rounding.specs.Working.{below, scale}
use Rattle.roots.specs.Steps.{Rooted, Squared}
use Rattle.rounding.proofs.Alike.{round_at}
use Rattle.rounding.proofs.RoundToOdd.{is_even, is_odd}

-- ---- the root h of t, with what is left over
square_suc : (h : ℕ) → suc h * suc h ≡ h * h + (2 * h + 1)
square_suc h = ap (λ (y : ℕ). y * y) (one h) ∙ wide h
  where
    one : (h : ℕ) → suc h ≡ h + 1
    one h = omega arith

    total : (p h : ℕ) → p + h + (h + 1) ≡ p + (2 * h + 1)
    total p h = omega arith

    wide : (h : ℕ) → (h + 1) * (h + 1) ≡ h * h + (2 * h + 1)
    wide h = add-mul h 1 (h + 1) ∙ ap₂ ◌+◌ (mul-add h h 1 ∙ ap (λ (y : ℕ). h * h + y) (mul-one h)) (one-mul (h + 1)) ∙ total (h * h) h

pub of_rest : (h rest t : ℕ) → h * h + rest ≡ t → rest ≤ 2 * h → IsRoot t h
of_rest h rest t e l = record { under = low (h * h) e; over = subst (λ (y : ℕ). t < y) (sym (square_suc h)) (high (h * h) e) }
  where
    low : (p : ℕ) → p + rest ≡ t → p ≤ t
    low p e = omega arith

    high : (p : ℕ) → p + rest ≡ t → t < p + (2 * h + 1)
    high p e = omega arith

-- with the last j digits of the root cut off
pub root_cut : (t h c : ℕ) → 0 < c → IsRoot t h → IsRoot (t / (c * c)) (h / c)
root_cut t h c C r =
    let q = h / c in
    record {
      under = (le-div_iff_mul-le (mul-pos C C)).1 (le_trans (le_of_eq (both q)) (le_trans (square_mono (div_low q refl)) r.under));
      over = (div-lt_iff_lt-mul (mul-pos C C)).1 (lt_of_lt_of_le r.over (le_trans (square_mono (div_high q refl)) (le_of_eq (sym (both (suc q))))));
    }
  where
    both : (q : ℕ) → q * q * (c * c) ≡ q * c * (q * c)
    both q = simp (mul_assoc, mul_left_comm)

    div_low : (q : ℕ) → q ≡ h / c → q * c ≤ h
    div_low q e = (le-div_iff_mul-le C).0 (le_of_eq e)

    div_high : (q : ℕ) → q ≡ h / c → suc h ≤ suc q * c
    div_high q e = (div-lt_iff_lt-mul C).0 (subst (λ (y : ℕ). h / c < suc y) (sym e) (le_refl (suc (h / c))))

mod_even : (h : ℕ) → 2 * h % 32 ≡ 2 * (h % 16)
mod_even h = ap (λ (y : ℕ). y % 32) (split h) ∙ digits_mod (h / 16) (small h)
  where
    split : (h : ℕ) → 2 * h ≡ h / 16 * 32 + 2 * (h % 16)
    split h = omega arith

    small : (h : ℕ) → 2 * (h % 16) < 32
    small h = omega arith

mod_odd : (h : ℕ) → (2 * h / 2 * 2 + 1) % 32 ≡ 2 * (h % 16) + 1
mod_odd h = ap (λ (y : ℕ). y % 32) (split h) ∙ digits_mod (h / 16) (small h)
  where
    split : (h : ℕ) → 2 * h / 2 * 2 + 1 ≡ h / 16 * 32 + (2 * (h % 16) + 1)
    split h = omega arith

    small : (h : ℕ) → 2 * (h % 16) + 1 < 32
    small h = omega arith

-- ---- with four digits more than are kept, and what is left over marked, it is rounded as the root is
module _ (h rest t : ℕ) (e : h * h + rest ≡ t) (l : rest ≤ 2 * h) where
  below_middle : (c : ℕ) → h < c → t < c * c
  below_middle c g = lt_of_lt_of_le (of_rest h rest t e l).over (square_mono g)

  above_middle : (c : ℕ) → c < h → c * c < t
  above_middle c g = lt_of_lt_of_le (more c) (le_trans (square_mono g) (of_rest h rest t e l).under)
    where
      more : (c : ℕ) → c * c < suc c * suc c
      more c = subst (λ (y : ℕ). c * c < y) (sym (square_suc c)) (grow (c * c) c)
        where
          grow : (p c : ℕ) → p < p + (2 * c + 1)
          grow p c = omega arith

  middle_order : compare (to_odd (2 * h) rest % 32 * 2) 32 ≡ compare t ((16 * (h / 16) + 8) * (16 * (h / 16) + 8))
  middle_order = go (eq-zero-or-pos rest)
    where
      lower : (s : ℕ) → s % 32 * 2 < 32 → h < 16 * (h / 16) + 8 → compare (s % 32 * 2) 32 ≡ compare t ((16 * (h / 16) + 8) * (16 * (h / 16) + 8))
      lower s a b = cmp_lt (s % 32 * 2) 32 a ∙ sym (cmp_lt t ((16 * (h / 16) + 8) * (16 * (h / 16) + 8)) (below_middle (16 * (h / 16) + 8) b))

      upper : (s : ℕ) → 32 < s % 32 * 2 → 16 * (h / 16) + 8 < h → compare (s % 32 * 2) 32 ≡ compare t ((16 * (h / 16) + 8) * (16 * (h / 16) + 8))
      upper s a b = cmp_gt (s % 32 * 2) 32 a ∙ sym (cmp_gt t ((16 * (h / 16) + 8) * (16 * (h / 16) + 8)) (above_middle (16 * (h / 16) + 8) b))

      go : (rest ≡ 0) ⊎ (0 < rest) → compare (to_odd (2 * h) rest % 32 * 2) 32 ≡ compare t ((16 * (h / 16) + 8) * (16 * (h / 16) + 8))
      go (inl z) = ap (λ (y : ℕ). compare (y % 32 * 2) 32) (is_even (2 * h) rest z) ∙ cases (compare (h % 16) 8) (cmp (h % 16) 8)
        where
          level : h ≡ 16 * (h / 16) + 8 → t ≡ (16 * (h / 16) + 8) * (16 * (h / 16) + 8)
          level i = flat (h * h) e ∙ ap (λ (y : ℕ). y * y) i
            where
              flat : (p : ℕ) → p + rest ≡ t → t ≡ p
              flat p e = omega arith

          cases : (o : Ordering) → Cmp o (h % 16) 8 → compare (2 * h % 32 * 2) 32 ≡ compare t ((16 * (h / 16) + 8) * (16 * (h / 16) + 8))
          cases Ordering.lt k = lower (2 * h) (omega (arith, mod_even h)) (omega arith)
          cases Ordering.eq k = cmp_eq (2 * h % 32 * 2) 32 (omega (arith, mod_even h))
              ∙ sym (cmp_eq t ((16 * (h / 16) + 8) * (16 * (h / 16) + 8)) (level (omega arith)))
          cases Ordering.gt k = upper (2 * h) (omega (arith, mod_even h)) (omega arith)
      go (inr z) = ap (λ (y : ℕ). compare (y % 32 * 2) 32) (is_odd (2 * h) rest z) ∙ cases (compare (h % 16) 8) (cmp (h % 16) 8)
        where
          above : h ≡ 16 * (h / 16) + 8 → (16 * (h / 16) + 8) * (16 * (h / 16) + 8) < t
          above i = subst (λ (y : ℕ). y * y < t) i (more (h * h) e)
            where
              more : (p : ℕ) → p + rest ≡ t → p < t
              more p e = omega arith

          cases : (o : Ordering) → Cmp o (h % 16) 8 → compare ((2 * h / 2 * 2 + 1) % 32 * 2) 32 ≡ compare t ((16 * (h / 16) + 8) * (16 * (h / 16) + 8))
          cases Ordering.lt k = lower (2 * h / 2 * 2 + 1) (omega (arith, mod_odd h)) (omega arith)
          cases Ordering.eq k = cmp_gt ((2 * h / 2 * 2 + 1) % 32 * 2) 32 (omega (arith, mod_odd h))
              ∙ sym (cmp_gt t ((16 * (h / 16) + 8) * (16 * (h / 16) + 8)) (above (omega arith)))
          cases Ordering.gt k = upper (2 * h / 2 * 2 + 1) (omega (arith, mod_odd h)) (omega arith)

  quotient : to_odd (2 * h) rest / 32 ≡ h / 16
  quotient = go (eq-zero-or-pos rest)
    where
      go : (rest ≡ 0) ⊎ (0 < rest) → to_odd (2 * h) rest / 32 ≡ h / 16
      go (inl z) = ap (λ (y : ℕ). y / 32) (is_even (2 * h) rest z) ∙ even h
        where
          even : (h : ℕ) → 2 * h / 32 ≡ h / 16
          even h = omega arith
      go (inr z) = ap (λ (y : ℕ). y / 32) (is_odd (2 * h) rest z) ∙ odd h
        where
          odd : (h : ℕ) → (2 * h / 2 * 2 + 1) / 32 ≡ h / 16
          odd h = omega arith

  pub marked : closest (to_odd (2 * h) rest) 32 ≡ nearest (h / 16) (compare t ((16 * (h / 16) + 8) * (16 * (h / 16) + 8)))
  marked = ap₂ nearest quotient middle_order

-- ---- the middle's square
middle : (q : ℕ) → (16 * q + 8) * (16 * q + 8) ≡ (2 * q + 1) * (2 * q + 1) * 64
middle q = ap (λ (y : ℕ). y * y) (eight q) ∙ mul-mul-mul_comm (2 * q + 1) 8 (2 * q + 1) 8
  where
    eight : (q : ℕ) → 16 * q + 8 ≡ (2 * q + 1) * 8
    eight q = omega arith

-- ---- how many digits the marked root has
marked_size : (h rest j : ℕ) → 2 ^ j ≤ h → h < 2 ^ suc j → size (to_odd (2 * h) rest) ≡ suc (suc j)
marked_size h rest j lo hi = go (eq-zero-or-pos rest)
  where
    low_even : (h p P : ℕ) → P ≡ 2 * p → p ≤ h → P ≤ 2 * h
    low_even h p P e k = omega arith

    high_even : (h p P : ℕ) → P ≡ 2 * p → h < p → 2 * h < P
    high_even h p P e k = omega arith

    low_odd : (h p P : ℕ) → P ≡ 2 * p → p ≤ h → P ≤ 2 * h / 2 * 2 + 1
    low_odd h p P e k = omega arith

    high_odd : (h p P : ℕ) → P ≡ 2 * p → h < p → 2 * h / 2 * 2 + 1 < P
    high_odd h p P e k = omega arith

    go : (rest ≡ 0) ⊎ (0 < rest) → size (to_odd (2 * h) rest) ≡ suc (suc j)
    go (inl z) =
        ap size (is_even (2 * h) rest z)
        ∙ size_exact (suc j) (2 * h) (low_even h (2 ^ j) (2 ^ suc j) (pow-succ' 2 j) lo) (high_even h (2 ^ suc j) (2 ^ suc (suc j)) (pow-succ' 2 (suc j)) hi)
    go (inr z) =
        ap size (is_odd (2 * h) rest z)
        ∙ size_exact (suc j) (2 * h / 2 * 2 + 1) (low_odd h (2 ^ j) (2 ^ suc j) (pow-succ' 2 j) lo)
        (high_odd h (2 ^ suc j) (2 ^ suc (suc j)) (pow-succ' 2 (suc j)) hi)

some_digits : (s n : ℕ) → size s ≡ suc n → 0 < s
some_digits s n e = go (eq-zero-or-pos s)
  where
    go : (s ≡ 0) ⊎ (0 < s) → 0 < s
    go (inl z) = absurd (no (size s) e (size-le s 0 (subst (λ (y : ℕ). y < 1) (sym z) (zero-lt-suc 0))))
      where
        no : (a : ℕ) → a ≡ suc n → a ≤ 0 → ⊥
        no a h k = omega arith
    go (inr l) = l

-- t has 2 * j + 1 digits or 2 * j + 2, so its root has j + 1
module _ (t s j : ℕ) (lo : 2 ^ (2 * j) ≤ t) (hi : t < 2 ^ (2 * suc j)) (r : Rooted t s) where
  pub whole : IsRoot t r.h
  whole = of_rest r.h r.rest t r.square r.little

  pub marked_digits : size s ≡ suc (suc j)
  marked_digits =
      ap size r.marked
      ∙ marked_size r.h r.rest j (root_least t r.h (2 ^ j) whole (le_trans (le_of_eq (sym (four_square j) ∙ four_pow j)) lo))
      (root_most t r.h (2 ^ suc j) whole (lt_of_lt_of_le hi (le_of_eq (sym (four_pow (suc j)) ∙ four_square (suc j)))))

-- ---- the root of t * 4 ^ j, for a t whose root has four digits more than the format keeps
pub rooted : (f : Format) (t s j : ℕ) → 2 ^ (2 * (prec f + 3)) ≤ t → t < 2 ^ (2 * suc (prec f + 3)) → Rooted t s
    → round f false (s * 2 ^ (j + (below f - 1))) (scale f) ≡ root_of f (t * 4 ^ j) 1
rooted f t s j lo hi r =
    let p = prec f in
    let x = below f in
    let h = r.h in
    let q = h / 16 in
    let k = j + 4 in
    let R = whole t s (p + 3) lo hi r in
    let z : size s ≡ suc (suc (p + 3)) = marked_digits t s (p + 3) lo hi r in
    let w = s * 2 ^ (j + (x - 1)) in
    let zk : size (w / 2 ^ x) - p ≡ k =
    ap (λ (y : ℕ). y - p) (size_shr w x ∙ ap (λ (y : ℕ). y - x) (size_shl s (j + (x - 1)) (some_digits s (suc (p + 3)) z)
    ∙ ap (λ (y : ℕ). y + (j + (x - 1))) z)) ∙ kept p j (low f) in
    let G = 4 ^ j in
    let four : 4 ^ k ≡ 256 * G = pow-add 4 j 4 ∙ mul_comm G 256 in
    let tz : (2 * (p + 3) < size t) × (size t ≤ 2 * suc (p + 3)) = (
      pow_lt_back (2 * (p + 3)) (size t) (lt_of_le_of_lt lo (size-lt t)),
      size-le t
          (2 * suc (p + 3)) hi,
    ) in
    let sz : size (t * G) ≡ size t + 2 * j = ap (λ (y : ℕ). size (t * y)) (four_pow j) ∙ size_shl t (2 * j) (lt_of_lt_of_le (pow_pos (2 * (p + 3))) lo) in
    let nk : (size (t * G / 1) + 1) / 2 - p ≡ k = ap (λ (y : ℕ). (size y + 1) / 2 - p) (div-one (t * G)) ∙ ap (λ (y : ℕ). (y + 1) / 2 - p) sz
    ∙ half (size t) j p tz.0 tz.1 in
    let cut : t * G / (1 * 4 ^ k) ≡ t / 256 = ap (λ (y : ℕ). t * G / y) (one-mul (4 ^ k) ∙ four) ∙ mul-div-mul_right t 256 (four_pos j) in
    let nq : whole_root p (t * G / (1 * 4 ^ k)) ≡ q =
    ap (whole_root p) cut ∙ root_unique (whole_root_root p (t / 256) ((div-lt_iff_lt-mul (zero-lt-suc 255)).1 (subst (λ (y : ℕ). t < y) (room p) hi)))
    (root_cut t h 16 (zero-lt-suc 15) R) in
    let O = (2 * q + 1) * (2 * q + 1) in
    let order : compare t ((16 * q + 8) * (16 * q + 8)) ≡ compare (t * G * 4) (O * (1 * 4 ^ k)) =
    cmp_scale t ((16 * q + 8) * (16 * q + 8)) (G * 4) (mul-pos (four_pos j) (zero-lt-suc 3))
    ∙ ap₂ compare (sym (mul_assoc t G 4))
    (ap (λ (y : ℕ). y * (G * 4)) (middle q) ∙ mul_assoc O 64 (G * 4) ∙ ap (λ (y : ℕ). O * y) (sixty_four G ∙ sym four ∙ sym (one-mul (4 ^ k)))) in
    round_at f false w x
    ∙ ap (λ (y : ℕ). units f false (closest w (2 ^ (x + y))) y) zk
    ∙ ap (λ (y : ℕ). units f false y k)
    (closest_same w (2 ^ (x + k)) s 32 (pow_pos (x + k)) (zero-lt-suc 31)
    (mul_assoc s (2 ^ (j + (x - 1))) 32 ∙ ap (λ (y : ℕ). s * y) (sym (pow-add 2 (j + (x - 1)) 5) ∙ ap (λ (y : ℕ). 2 ^ y) (place j (low f))))
    ∙ ap (λ (y : ℕ). closest y 32) r.marked
    ∙ marked h r.rest t r.square r.little
    ∙ ap (nearest q) order)
    ∙ sym (root_of_at f (t * G) 1 k q nk nq)
  where
    kept : (p j l : ℕ) → suc (suc (p + 3)) + (j + (l + 16 - 1)) - (l + 16) - p ≡ j + 4
    kept p j l = omega arith

    half : (z j p : ℕ) → 2 * (p + 3) < z → z ≤ 2 * suc (p + 3) → (z + 2 * j + 1) / 2 - p ≡ j + 4
    half z j p a b = omega arith

    sixty_four : (G : ℕ) → 64 * (G * 4) ≡ 256 * G
    sixty_four G = omega arith

    place : (j l : ℕ) → j + (l + 16 - 1) + 5 ≡ l + 16 + (j + 4)
    place j l = omega arith

    room : (p : ℕ) → 2 ^ (2 * suc (p + 3)) ≡ 4 ^ p * 256
    room p = ap (λ (y : ℕ). 2 ^ y) (eight p) ∙ pow-add 2 (2 * p) 8 ∙ ap (λ (y : ℕ). y * 256) (sym (four_pow p))
      where
        eight : (p : ℕ) → 2 * suc (p + 3) ≡ 2 * p + 8
        eight p = omega arith

-- ---- in the words of the program: a significand n of prec digits or one more, with c powers of four behind it while its root is worked out
module _ (f : Format) (c m e n g s : ℕ) (C : 2 * c ≡ prec f + 7) (S : Squared f m e n g) (far : c ≤ g) (R : Rooted (n * 4 ^ c) s) where
  spread : (x : ℕ) → 2 ^ x * 4 ^ c ≡ 2 ^ (x + 2 * c)
  spread x = ap (λ (y : ℕ). 2 ^ x * y) (four_pow c) ∙ sym (pow-add 2 x (2 * c))

  least : 2 ^ (2 * (prec f + 3)) ≤ n * 4 ^ c
  least = le_trans (le_of_eq (ap (λ (y : ℕ). 2 ^ y) (up (prec f) c C (two f)) ∙ sym (spread (prec f - 1)))) (mul-le-mul_right (4 ^ c) S.least)
    where
      up : (p c : ℕ) → 2 * c ≡ p + 7 → 2 ≤ p → 2 * (p + 3) ≡ p - 1 + 2 * c
      up p c h k = omega arith

  most : n * 4 ^ c < 2 ^ (2 * suc (prec f + 3))
  most = lt_of_lt_of_le (mul-lt-mul_of_pos_right S.most (four_pos c)) (le_of_eq (spread (suc (prec f)) ∙ ap (λ (y : ℕ). 2 ^ y) (up (prec f) c C)))
    where
      up : (p c : ℕ) → 2 * c ≡ p + 7 → suc p + 2 * c ≡ 2 * suc (p + 3)
      up p c h = omega arith

  pub rooted_scaled : round f false (s * 2 ^ (g + (below f - 1 - c))) (scale f) ≡ root_of f (m * 2 ^ e * 4 ^ low f) (2 ^ low f)
  rooted_scaled =
      ap (λ (y : ℕ). round f false (s * 2 ^ y) (scale f)) (shift g c (prec f) (low f) C far (short f))
      ∙ rooted f (n * 4 ^ c) s (g - c) least most R
      ∙ root_of_same f (n * 4 ^ c * 4 ^ (g - c)) 1 (m * 2 ^ e * 4 ^ low f) (2 ^ low f) (zero-lt-suc 0) (pow_pos (low f))
      (ap (λ (y : ℕ). y * 2 ^ low f) (mul_assoc n (4 ^ c) (4 ^ (g - c))
      ∙ ap (λ (y : ℕ). n * y) (sym (pow-add 4 c (g - c)) ∙ ap (λ (y : ℕ). 4 ^ y) (back g c far)) ∙ S.same
      ∙ ap (λ (y : ℕ). m * y) (pow-add 2 e (low f)) ∙ sym (mul_assoc m (2 ^ e) (2 ^ low f)))
      ∙ mul_assoc (m * 2 ^ e) (2 ^ low f) (2 ^ low f) ∙ ap (λ (y : ℕ). m * 2 ^ e * y) (sym (four_square (low f))) ∙ sym (mul-one (m * 2 ^ e * 4 ^ low f)))
    where
      shift : (g c p l : ℕ) → 2 * c ≡ p + 7 → c ≤ g → p ≤ l + 1 → g + (l + 16 - 1 - c) ≡ g - c + (l + 16 - 1)
      shift g c p l h k i = omega arith

      back : (g c : ℕ) → c ≤ g → c + (g - c) ≡ g
      back g c h = omega arith

      short : (f : Format) → prec f ≤ low f + 1
      short f = go (prec f) (emax f) (two f) (reach f)
        where
          go : (p e : ℕ) → 2 ≤ p → p ≤ suc e → p ≤ e + p - 2 + 1
          go p e h k = omega arith
