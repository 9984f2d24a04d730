-- A number rounded to odd is alike the number, so a rounding to nearest two digits further up cannot tell them apart (`round-cut`). Assumes nothing.
use mathlib.Core.Path.{◌≡◌, refl, sym, ap, ap₂, ◌∙◌, subst}
use mathlib.Core.Logic.{◌⊎◌, inl, inr}
use Prim.Native.Nat.{ℕ, zero, suc, ◌+◌, ◌-◌, ◌*◌, ◌/◌, ◌%◌, ◌^◌, ◌≤◌, ◌<◌}
use native.Mathlib.Nat.{mod-lt, mul_comm, mul_assoc, mul-pos, le_trans, le_of_eq, eq-zero-or-pos, zero-lt-suc, div-add-mod', lt_of_lt_of_le, mul-mod_left}
use native.Mathlib.Nat.{mul-div_cancel, mul-div-mul_right, add-zero, add_assoc, add-mul, pow-succ', one-mul, zero-mul, le-div_iff_mul-le}
use native.Mathlib.Omega.{arith}
use mathlib.Core.Bool.{Bool, cond}
use borrow.Author.Tests.{eq-eqb, ne_eqb}
use lib.Arith.{mod-mul}
use lib.Pow.{pow-add, pow_pos, pow_mono, shr_lt}
use lib.Ieee.{Format, prec, low, size, units, round}
use lib.Ieee.Digits.{size-lt, size_reaches}
use lib.Ieee.Nearest.{closest, closest_same}
use Rattle.rounding.specs.Odd.{to_odd, cut_to_odd}
use Rattle.rounding.proofs.Alike.{Alike, same, of_digits, closest_alike, round_at}
use Rattle.numbers.proofs.Sizes.{size_shr}

pub is_even : (q r : ℕ) → r ≡ 0 → to_odd q r ≡ q
is_even q r h = ap (λ (b : Bool). cond b q (q / 2 * 2 + 1)) (eq-eqb r 0 h)

pub is_odd : (q r : ℕ) → 0 < r → to_odd q r ≡ q / 2 * 2 + 1
is_odd q r h = ap (λ (b : Bool). cond b q (q / 2 * 2 + 1)) (ne_eqb r 0 (λ (e : r ≡ 0). no r h e))
  where
    no : (r : ℕ) → 0 < r → r ≡ 0 → ⊥
    no r h e = omega arith

cut_is : (n k : ℕ) → cut_to_odd n k ≡ to_odd (n / 2 ^ k) (n % 2 ^ k)
unfolding cut_to_odd
cut_is n k = refl

pub odd_alike : (c q r n : ℕ) → r < c → n ≡ q * c + r → Alike (2 * c) n (to_odd q r * c)
odd_alike c q r n l e = go (eq-zero-or-pos r)
  where
    go : (r ≡ 0) ⊎ (0 < r) → Alike (2 * c) n (to_odd q r * c)
    go (inl z) = subst (λ (y : ℕ). Alike (2 * c) n y) (e ∙ ap (λ (y : ℕ). q * c + y) z ∙ add-zero (q * c) ∙ ap (λ (y : ℕ). y * c) (sym (is_even q r z)))
        (same (2 * c) n)
    go (inr h) =
        of_digits (2 * c) (q / 2) n (to_odd q r * c) (q % 2 * c + r) c (small (q % 2) (q % 2 * c) c r (bit q) (at_most (q % 2) c (bit q)) l) (less c r l)
        (e ∙ ap (λ (y : ℕ). y + r) (ap (λ (y : ℕ). y * c) (sym (div-add-mod' q 2)) ∙ add-mul (q / 2 * 2) (q % 2) c
        ∙ ap (λ (y : ℕ). y + q % 2 * c) (mul_assoc (q / 2) 2 c)) ∙ add_assoc (q / 2 * (2 * c)) (q % 2 * c) r)
        (ap (λ (y : ℕ). y * c) (is_odd q r h) ∙ add-mul (q / 2 * 2) 1 c ∙ ap₂ ◌+◌ (mul_assoc (q / 2) 2 c) (one-mul c))
        (λ z. absurd (no (q % 2 * c) r h z))
        (λ z. absurd (no2 c r l z))
      where
        bit : (q : ℕ) → q % 2 ≤ 1
        bit q = omega arith

        at_most : (b c : ℕ) → b ≤ 1 → b * c ≤ c
        at_most zero c h = le_trans (le_of_eq (zero-mul c)) Prim.Native.Nat.zero-le
        at_most (suc zero) c h = le_of_eq (one-mul c)
        at_most (suc (suc b)) c h = absurd (many b h)
          where
            many : (b : ℕ) → suc (suc b) ≤ 1 → ⊥
            many b h = omega arith

        small : (b p c r : ℕ) → b ≤ 1 → p ≤ c → r < c → p + r < 2 * c
        small b p c r x y z = omega arith

        less : (c r : ℕ) → r < c → c < 2 * c
        less c r h = omega arith

        no : (p r : ℕ) → 0 < r → p + r ≡ 0 → ⊥
        no p r h z = omega arith

        no2 : (c r : ℕ) → r < c → c ≡ 0 → ⊥
        no2 c r h z = omega arith

pub cut_alike : (n k : ℕ) → Alike (2 ^ suc k) n (cut_to_odd n k * 2 ^ k)
cut_alike n k =
    subst (λ (y : ℕ). Alike y n (cut_to_odd n k * 2 ^ k)) (sym (pow-succ' 2 k))
    (subst (λ (y : ℕ). Alike (2 * 2 ^ k) n (y * 2 ^ k)) (sym (cut_is n k))
    (odd_alike (2 ^ k) (n / 2 ^ k) (n % 2 ^ k) n (mod-lt n (pow_pos k)) (sym (div-add-mod' n (2 ^ k)))))

-- nothing is cut off a multiple
pub cut_exact : (a k : ℕ) → cut_to_odd (a * 2 ^ k) k ≡ a
cut_exact a k = cut_is (a * 2 ^ k) k ∙ is_even (a * 2 ^ k / 2 ^ k) (a * 2 ^ k % 2 ^ k) (mul-mod_left a (2 ^ k)) ∙ mul-div_cancel a (pow_pos k)

-- zeros at the end that are cut off do not count
pub cut_scaled : (a d e : ℕ) → cut_to_odd (a * 2 ^ e) (d + e) ≡ cut_to_odd a d
cut_scaled a d e =
    let c = 2 ^ e in
    let q : a * c / 2 ^ (d + e) ≡ a / 2 ^ d = ap (λ (y : ℕ). a * c / y) (pow-add 2 d e) ∙ mul-div-mul_right a (2 ^ d) (pow_pos e) in
    let r : a * c % 2 ^ (d + e) ≡ a % 2 ^ d * c =
    ap (λ (y : ℕ). a * c % y) (pow-add 2 d e) ∙ mod-mul (a * c) (pow_pos d) (pow_pos e)
    ∙ ap₂ (λ (y z : ℕ). y % 2 ^ d * c + z) (mul-div_cancel a (pow_pos e)) (mul-mod_left a c) ∙ add-zero (a % 2 ^ d * c) in
    cut_is (a * c) (d + e) ∙ ap₂ to_odd q r ∙ scaled (a / 2 ^ d) (a % 2 ^ d) c (pow_pos e) ∙ sym (cut_is a d)
  where
    scaled : (q r c : ℕ) → 0 < c → to_odd q (r * c) ≡ to_odd q r
    scaled q r c C = go (eq-zero-or-pos r)
      where
        go : (r ≡ 0) ⊎ (0 < r) → to_odd q (r * c) ≡ to_odd q r
        go (inl z) = is_even q (r * c) (ap (λ (y : ℕ). y * c) z ∙ zero-mul c) ∙ sym (is_even q r z)
        go (inr h) = is_odd q (r * c) (mul-pos h C) ∙ sym (is_odd q r h)

-- how large it is
odd_lt : (q r j : ℕ) → q < 2 ^ suc j → to_odd q r < 2 ^ suc j
odd_lt q r j h = go (eq-zero-or-pos r)
  where
    even : (q a w : ℕ) → w ≡ 2 * a → q < w → q / 2 * 2 + 1 < w
    even q a w e h = omega arith

    go : (r ≡ 0) ⊎ (0 < r) → to_odd q r < 2 ^ suc j
    go (inl z) = subst (λ (y : ℕ). y < 2 ^ suc j) (sym (is_even q r z)) h
    go (inr l) = subst (λ (y : ℕ). y < 2 ^ suc j) (sym (is_odd q r l)) (even q (2 ^ j) (2 ^ suc j) (pow-succ' 2 j) h)

odd_ge : (q r j : ℕ) → 2 ^ suc j ≤ q → 2 ^ suc j ≤ to_odd q r
odd_ge q r j h = go (eq-zero-or-pos r)
  where
    even : (q a w : ℕ) → w ≡ 2 * a → w ≤ q → w ≤ q / 2 * 2 + 1
    even q a w e h = omega arith

    go : (r ≡ 0) ⊎ (0 < r) → 2 ^ suc j ≤ to_odd q r
    go (inl z) = subst (λ (y : ℕ). 2 ^ suc j ≤ y) (sym (is_even q r z)) h
    go (inr l) = subst (λ (y : ℕ). 2 ^ suc j ≤ y) (sym (is_odd q r l)) (even q (2 ^ j) (2 ^ suc j) (pow-succ' 2 j) h)

pub cut_lt : (n k j : ℕ) → size n ≤ suc j + k → cut_to_odd n k < 2 ^ suc j
cut_lt n k j h = subst (λ (y : ℕ). y < 2 ^ suc j) (sym (cut_is n k)) (odd_lt (n / 2 ^ k) (n % 2 ^ k) j
    (shr_lt (suc j) k (lt_of_lt_of_le (size-lt n) (pow_mono h))))

pub cut_ge : (n k j : ℕ) → suc j + k < size n → 2 ^ suc j ≤ cut_to_odd n k
cut_ge n k j h = subst (λ (y : ℕ). 2 ^ suc j ≤ y) (sym (cut_is n k)) (odd_ge (n / 2 ^ k) (n % 2 ^ k) j
    ((le-div_iff_mul-le (pow_pos k)).1 (le_trans (le_of_eq (sym (pow-add 2 (suc j) k))) (size_reaches n (suc j + k) h))))

-- ---- a rounding, by way of the cut: the two digits below the last one kept, the lower of them with all that is further down
two_up : (x k : ℕ) → (x + 2 + k ≡ 1 + suc (x + k)) × (x + 2 + k ≡ 2 + (x + k))
two_up x k = omega arith

pub round_cut : (f : Format) (s : Bool) (n x k : ℕ) → k ≡ size n - (x + 2) - prec f
    → round f s n (2 ^ (x + 2 + low f)) ≡ units f s (closest (cut_to_odd n (x + k)) 4) k
round_cut f s n x k e =
    let z : size (n / 2 ^ (x + 2)) - prec f ≡ k = ap (λ (y : ℕ). y - prec f) (size_shr n (x + 2)) ∙ sym e in
    let t = cut_to_odd n (x + k) in
    let c = 2 ^ suc (x + k) in
    let d : 2 ^ (x + 2 + k) ≡ 1 * 2 * c = ap (λ (y : ℕ). 2 ^ y) (two_up x k).0 ∙ pow-add 2 1 (suc (x + k)) in
    let four : 2 ^ (x + 2 + k) ≡ 4 * 2 ^ (x + k) = ap (λ (y : ℕ). 2 ^ y) (two_up x k).1 ∙ pow-add 2 2 (x + k) in
    round_at f s n (x + 2)
    ∙ ap (λ (y : ℕ). units f s (closest n (2 ^ (x + 2 + y))) y) z
    ∙ ap (λ (y : ℕ). units f s y k)
    (ap (closest n) d ∙ closest_alike c 1 n (t * 2 ^ (x + k)) (pow_pos (suc (x + k))) (zero-lt-suc 0) (cut_alike n (x + k))
    ∙ ap (closest (t * 2 ^ (x + k))) (sym d ∙ four)
    ∙ closest_same (t * 2 ^ (x + k)) (4 * 2 ^ (x + k)) t 4 (mul-pos (zero-lt-suc 3) (pow_pos (x + k))) (zero-lt-suc 3)
    (mul_assoc t (2 ^ (x + k)) 4 ∙ ap (λ (y : ℕ). t * y) (mul_comm (2 ^ (x + k)) 4)))
