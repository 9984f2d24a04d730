-- Laws of `Alike`: it is kept by a coarser unit, and by adding or taking away a multiple of the unit; and numbers that are alike round alike. Assumes nothing.
use mathlib.Core.Path.{◌≡◌, refl, sym, ap, ap₂, ◌∙◌, subst}
use mathlib.Core.Logic.{◌⊎◌, inl, inr}
use Prim.Native.Nat.{ℕ, suc, ◌+◌, ◌-◌, ◌*◌, ◌/◌, ◌%◌, ◌^◌, ◌≤◌, ◌<◌}
use native.Mathlib.Nat.{mod-lt, div-div-eq-div-mul, mul_comm, mul_assoc, eq-zero-or-pos, div-add-mod', zero-mul, add-mul}
use native.Mathlib.Nat.{mul-mod_left, div-lt_iff_lt-mul, le-div_iff_mul-le, mul-lt-mul_of_pos_right, lt_of_mul-lt-mul_right, one-mul}
use native.Mathlib.Nat.{eq_of_mul-eq-mul_right, mul-div_cancel, add_assoc}
use native.Mathlib.Omega.{arith}
use mathlib.Core.Bool.{Bool}
use lib.Arith.{mod-mul}
use lib.Pow.{pow-add, pow_pos}
use lib.Ieee.{Format, prec, low, size, units, round}
use lib.Ieee.Nearest.{closest}
use Rattle.rounding.proofs.Alike.{Alike, same, of_digits, round_at, closest_alike}
use Rattle.numbers.proofs.Sizes.{size_shr}

pub swap : {c n m : ℕ} → Alike c n m → Alike c m n
swap k = record { whole = sym k.whole; to = k.from; from = k.to }

pub chain : {c n m l : ℕ} → Alike c n m → Alike c m l → Alike c n l
chain a b = record { whole = a.whole ∙ b.whole; to = λ h. b.to (a.to h); from = λ h. a.from (b.from h) }

both_zero : (p r : ℕ) → p + r ≡ 0 → (p ≡ 0) × (r ≡ 0)
both_zero p r h = omega arith

pub coarser : (c g : ℕ) {n m : ℕ} → 0 < c → 0 < g → Alike c n m → Alike (g * c) n m
coarser c g {n} {m} C G k = record { whole = quot n ∙ ap (λ (z : ℕ). z / g) k.whole ∙ sym (quot m); to = half k; from = half (swap k) }
  where
    quot : (n : ℕ) → n / (g * c) ≡ n / c / g
    quot n = ap (λ (z : ℕ). n / z) (mul_comm g c) ∙ sym (div-div-eq-div-mul n c g)

    half : {n m : ℕ} → Alike c n m → n % (g * c) ≡ 0 → m % (g * c) ≡ 0
    half {n} {m} k h =
        let z = both_zero (n / c % g * c) (n % c) (sym (mod-mul n G C) ∙ h) in
        mod-mul m G C ∙ ap₂ ◌+◌ (ap (λ (y : ℕ). y % g * c) (sym k.whole) ∙ z.0) (k.to z.1)

-- n is i * c + r
parts : (c n : ℕ) → n ≡ n / c * c + n % c
parts c n = sym (div-add-mod' n c)

pub more : (c x : ℕ) {n m : ℕ} → 0 < c → Alike c n m → Alike c (x * c + n) (x * c + m)
more c x {n} {m} C k =
    of_digits c (x + n / c) (x * c + n) (x * c + m) (n % c) (m % c) (mod-lt n C) (mod-lt m C) (join n refl) (join m (sym k.whole)) k.to k.from
  where
    join : (y : ℕ) → y / c ≡ n / c → x * c + y ≡ (x + n / c) * c + y % c
    join y e = ap (λ (z : ℕ). x * c + z) (parts c y ∙ ap (λ (z : ℕ). z * c + y % c) e) ∙ sym (add_assoc (x * c) (n / c * c) (y % c))
        ∙ ap (λ (z : ℕ). z + y % c) (sym (add-mul x (n / c) c))

unlike_zero : (r s : ℕ) → (s ≡ 0 → r ≡ 0) → 0 < r → 0 < s
unlike_zero r s b h = go (eq-zero-or-pos s)
  where
    go : (s ≡ 0) ⊎ (0 < s) → 0 < s
    go (inl e) = let z : r ≡ 0 = b e in omega arith
    go (inr l) = l

-- x * c without n
pub less : (c x : ℕ) {n m : ℕ} → 0 < c → n ≤ x * c → Alike c n m → Alike c (x * c - n) (x * c - m)
less c x {n} {m} C h k = go (eq-zero-or-pos (n % c))
  where
    with_i : (y : ℕ) → y / c ≡ n / c → y ≡ n / c * c + y % c
    with_i y e = parts c y ∙ ap (λ (z : ℕ). z * c + y % c) e

    take : (p q r n z : ℕ) → z ≡ p + c + q → n ≡ p + r → r < c → z - n ≡ q + (c - r)
    take p q r n z a b l = omega arith

    some : (p r n : ℕ) → n ≡ p + r → 0 < r → n ≤ x * c → p < x * c
    some p r n a b l = omega arith

    wide : (x i : ℕ) → i < x → x ≡ i + 1 + (x - suc i)
    wide x i h = omega arith

    small : (r : ℕ) → 0 < r → r < c → c - r < c
    small r a b = omega arith

    not_zero : (r s : ℕ) → r < c → c - r ≡ 0 → s ≡ 0
    not_zero r s h e = omega arith

    go : (n % c ≡ 0) ⊎ (0 < n % c) → Alike c (x * c - n) (x * c - m)
    go (inl e) =
        let eq : n ≡ m = with_i n refl ∙ ap (λ (z : ℕ). n / c * c + z) (e ∙ sym (k.to e)) ∙ sym (with_i m (sym k.whole)) in
        subst (λ (z : ℕ). Alike c (x * c - n) (x * c - z)) eq (same c (x * c - n))
    go (inr l) =
        let w = x - suc (n / c) in
        let under : n / c < x = lt_of_mul-lt-mul_right c (some (n / c * c) (n % c) n (with_i n refl) l h) in
        let all : x * c ≡ n / c * c + c + w * c = ap (λ (z : ℕ). z * c) (wide x (n / c) under) ∙ add-mul (n / c + 1) w c
        ∙ ap (λ (z : ℕ). z + w * c) (add-mul (n / c) 1 c ∙ ap (λ (z : ℕ). n / c * c + z) (one-mul c)) in
        of_digits c w (x * c - n) (x * c - m) (c - n % c) (c - m % c) (small (n % c) l (mod-lt n C))
        (small (m % c) (unlike_zero (n % c) (m % c) k.from l) (mod-lt m C))
        (take (n / c * c) (w * c) (n % c) n (x * c) all (with_i n refl) (mod-lt n C))
        (take (n / c * c) (w * c) (m % c) m (x * c) all (with_i m (sym k.whole)) (mod-lt m C))
        (not_zero (n % c) (c - m % c) (mod-lt n C))
        (not_zero (m % c) (c - n % c) (mod-lt m C))

-- n without x * c
pub fewer : (c x : ℕ) {n m : ℕ} → 0 < c → x * c ≤ n → Alike c n m → Alike c (n - x * c) (m - x * c)
fewer c x {n} {m} C h k =
    of_digits c (n / c - x) (n - x * c) (m - x * c) (n % c) (m % c) (mod-lt n C) (mod-lt m C) (split n refl) (split m (sym k.whole)) k.to k.from
  where
    le : x ≤ n / c
    le = (le-div_iff_mul-le C).1 h

    wide : (x i : ℕ) → x ≤ i → i ≡ x + (i - x)
    wide x i h = omega arith

    take : (p q r y z : ℕ) → y ≡ z + r → z ≡ p + q → y - p ≡ q + r
    take p q r y z a b = omega arith

    split : (y : ℕ) → y / c ≡ n / c → y - x * c ≡ (n / c - x) * c + y % c
    split y e = take (x * c) ((n / c - x) * c) (y % c) y (n / c * c) (parts c y ∙ ap (λ (z : ℕ). z * c + y % c) e)
        (ap (λ (z : ℕ). z * c) (wide x (n / c) le) ∙ add-mul x (n / c - x) c)

-- which of the two is larger than a multiple of c
pub below : (c x : ℕ) {n m : ℕ} → 0 < c → Alike c n m → n < x * c → m < x * c
below c x {n} {m} C k h = (div-lt_iff_lt-mul C).0 (subst (λ (z : ℕ). z < x) k.whole ((div-lt_iff_lt-mul C).1 h))

pub equal : (c x : ℕ) {n m : ℕ} → 0 < c → Alike c n m → n ≡ x * c → m ≡ x * c
equal c x {n} {m} C k h =
    parts c m
    ∙ ap₂ ◌+◌ (ap (λ (z : ℕ). z * c) (sym k.whole ∙ ap (λ (z : ℕ). z / c) h ∙ mul-div_cancel x C)) (k.to (ap (λ (z : ℕ). z % c) h ∙ mul-mod_left x c))
    ∙ plus (x * c)
  where
    plus : (a : ℕ) → a + 0 ≡ a
    plus a = omega arith

-- with both multiplied
pub scaled : (c g : ℕ) {n m : ℕ} → 0 < c → 0 < g → Alike c n m → Alike (c * g) (n * g) (m * g)
scaled c g {n} {m} C G k =
    of_digits (c * g) (n / c) (n * g) (m * g) (n % c * g) (m % c * g) (mul-lt-mul_of_pos_right (mod-lt n C) G) (mul-lt-mul_of_pos_right (mod-lt m C) G)
    (split n refl) (split m (sym k.whole))
    (λ z. ap (λ (y : ℕ). y * g) (k.to (none (n % c) z)) ∙ zero-mul g) (λ z. ap (λ (y : ℕ). y * g) (k.from (none (m % c) z)) ∙ zero-mul g)
  where
    split : (y : ℕ) → y / c ≡ n / c → y * g ≡ n / c * (c * g) + y % c * g
    split y e = ap (λ (z : ℕ). z * g) (parts c y ∙ ap (λ (z : ℕ). z * c + y % c) e) ∙ add-mul (n / c * c) (y % c) g
        ∙ ap (λ (z : ℕ). z + y % c * g) (mul_assoc (n / c) c g)

    none : (r : ℕ) → r * g ≡ 0 → r ≡ 0
    none r z = eq_of_mul-eq-mul_right g G r 0 (z ∙ sym (zero-mul g))

sizes : (a b x v p : ℕ) → a - v ≡ b - v → v + 1 ≤ x + (a - x - p) → a - x ≡ b - x
sizes a b x v p h k = omega arith

spread : (v w : ℕ) → v + 1 ≤ w → w ≡ w - v - 1 + 1 + v
spread v w h = omega arith

pub round_alike : (f : Format) (s : Bool) (n m x v : ℕ) → Alike (2 ^ v) n m → v + 1 ≤ x + (size n - x - prec f)
    → round f s n (2 ^ (x + low f)) ≡ round f s m (2 ^ (x + low f))
round_alike f s n m x v k h =
    let p = prec f in
    let z : size n - x ≡ size m - x = sizes (size n) (size m) x v p (sym (size_shr n v) ∙ ap size k.whole ∙ size_shr m v) h in
    let e : size (n / 2 ^ x) ≡ size (m / 2 ^ x) = size_shr n x ∙ z ∙ sym (size_shr m x) in
    let j = size (n / 2 ^ x) - p in
    let w = x + j in
    let H : v + 1 ≤ w = subst (λ (y : ℕ). v + 1 ≤ x + (y - p)) (sym (size_shr n x)) h in
    let g = 2 ^ (w - v - 1) in
    let d : 2 ^ w ≡ g * 2 * 2 ^ v = ap (λ (y : ℕ). 2 ^ y) (spread v w H) ∙ pow-add 2 (w - v - 1 + 1) v ∙ ap (λ (y : ℕ). y * 2 ^ v) (pow-add 2 (w - v - 1) 1) in
    round_at f s n x
    ∙ ap (λ (y : ℕ). units f s y j) (ap (closest n) d ∙ closest_alike (2 ^ v) g n m (pow_pos v) (pow_pos (w - v - 1)) k ∙ sym (ap (closest m) d))
    ∙ ap (λ (y : ℕ). units f s (closest m (2 ^ (x + (y - p)))) (y - p)) e
    ∙ sym (round_at f s m x)
