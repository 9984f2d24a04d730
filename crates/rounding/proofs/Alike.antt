-- What rounding to odd keeps of a number: its whole part in units of c, and whether it is a multiple of c. Two numbers that agree in both are `Alike`, and
-- no rounding to a multiple of 2 * c can tell them apart (`closest-alike`). Assumes nothing.
use mathlib.Core.Path.{◌≡◌, refl, sym, ap, ap₂, ◌∙◌, subst}
use Prim.Native.Nat.{ℕ, ◌+◌, ◌-◌, ◌*◌, ◌/◌, ◌%◌, ◌^◌, ◌≤◌, ◌<◌, compare, Ordering}
use native.Mathlib.Nat.{mod-lt, div-div-eq-div-mul, mul_comm, mul_right_comm, mul-pos, mul-le-mul_right, suc-mul, zero-lt-suc}
use native.Mathlib.Nat.{mul_assoc, mul_left_comm, mul-div-mul_right}
use native.Mathlib.Omega.{arith}
use mathlib.Core.Bool.{Bool}
use lib.Arith.{mod-mul, digits_div, digits_mod}
use lib.Pow.{pow-add, pow_pos}
use lib.Ieee.{Format, nearest, prec, low, size, units, round}
use lib.Ieee.Fits.{round_is}
use lib.Ieee.Nearest.{closest, closest_same}
use Rattle.numbers.proofs.Orders.{Cmp, cmp, cmp_lt, cmp_gt, cmp_same}

-- ---- alike
pub record Alike (c n m : ℕ) : Type 0 where
  pub whole : n / c ≡ m / c
  pub to : n % c ≡ 0 → m % c ≡ 0
  pub from : m % c ≡ 0 → n % c ≡ 0

-- x * c + r against half of 2 * g * c, with p and q for x * c and g * c: only whether r is 0 counts
sides : (x g c r s p q : ℕ) → r < c → s < c → (x < g → p + c ≤ q) → (x ≡ g → p ≡ q) → (g < x → q + c ≤ p)
    → (r ≡ 0 → s ≡ 0) → (s ≡ 0 → r ≡ 0) → compare ((p + r) * 2) (q * 2) ≡ compare ((p + s) * 2) (q * 2)
sides x g c r s p q R S a b d e f = go (compare x g) (cmp x g)
  where
    lt : p + c ≤ q → (t : ℕ) → t < c → (p + t) * 2 < q * 2
    lt h t k = omega arith

    gt : q + c ≤ p → (t : ℕ) → t < c → q * 2 < (p + t) * 2
    gt h t k = omega arith

    at : p ≡ q → compare ((p + r) * 2) (q * 2) ≡ compare ((p + s) * 2) (q * 2)
    at h = cmp_same ((p + r) * 2) (q * 2) ((p + s) * 2) (q * 2)
        (λ l. absurd (no h l))
        (λ l. let z : s ≡ 0 = e (omega arith) in omega arith)
        (λ l. let z : (s ≡ 0 → ⊥) = (λ (y : s ≡ 0). let w : r ≡ 0 = f y in absurd (no2 h l w)) in some h z)
      where
        no : p ≡ q → (p + r) * 2 < q * 2 → ⊥
        no h l = omega arith

        no2 : p ≡ q → q * 2 < (p + r) * 2 → r ≡ 0 → ⊥
        no2 h l w = omega arith

        some : p ≡ q → (s ≡ 0 → ⊥) → q * 2 < (p + s) * 2
        some h z = omega arith

    go : (o : Ordering) → Cmp o x g → compare ((p + r) * 2) (q * 2) ≡ compare ((p + s) * 2) (q * 2)
    go Ordering.lt h = cmp_lt ((p + r) * 2) (q * 2) (lt (a h) r R) ∙ sym (cmp_lt ((p + s) * 2) (q * 2) (lt (a h) s S))
    go Ordering.eq h = at (b h)
    go Ordering.gt h = cmp_gt ((p + r) * 2) (q * 2) (gt (d h) r R) ∙ sym (cmp_gt ((p + s) * 2) (q * 2) (gt (d h) s S))

-- multiples of c are a c apart
apart : (c x g : ℕ) → x < g → x * c + c ≤ g * c
apart c x g h = subst (λ (y : ℕ). y ≤ g * c) (suc-mul x c) (mul-le-mul_right c h)

-- rounding to a multiple of an even multiple of c
pub closest_alike : (c g n m : ℕ) → 0 < c → 0 < g → Alike c n m → closest n (g * 2 * c) ≡ closest m (g * 2 * c)
closest_alike c g n m C G k =
    let D : 0 < g * 2 = mul-pos G (zero-lt-suc 1) in
    let q : n / (g * 2 * c) ≡ m / (g * 2 * c) = quot n ∙ ap (λ (z : ℕ). z / (g * 2)) k.whole ∙ sym (quot m) in
    let x = m / c % (g * 2) in
    let rn : n % (g * 2 * c) ≡ x * c + n % c = mod-mul n D C ∙ ap (λ (z : ℕ). z % (g * 2) * c + n % c) k.whole in
    let rm : m % (g * 2 * c) ≡ x * c + m % c = mod-mul m D C in
    let e : g * 2 * c ≡ g * c * 2 = mul_right_comm g 2 c in
    let o : compare (n % (g * 2 * c) * 2) (g * 2 * c) ≡ compare (m % (g * 2 * c) * 2) (g * 2 * c) =
    ap₂ (λ (y z : ℕ). compare (y * 2) z) rn e
    ∙ sides x g c (n % c) (m % c) (x * c) (g * c) (mod-lt n C) (mod-lt m C) (apart c x g) (ap (λ (y : ℕ). y * c)) (apart c g x) k.to k.from
    ∙ sym (ap₂ (λ (y z : ℕ). compare (y * 2) z) rm e) in
    ap₂ nearest q o
  where
    quot : (n : ℕ) → n / (g * 2 * c) ≡ n / c / (g * 2)
    quot n = ap (λ (z : ℕ). n / z) (mul_comm (g * 2) c) ∙ sym (div-div-eq-div-mul n c (g * 2))

pub same : (c n : ℕ) → Alike c n n
same c n = record { whole = refl; to = λ h. h; from = λ h. h }

-- what is alike, from the digits
pub of_digits : (c i n m r s : ℕ) → r < c → s < c → n ≡ i * c + r → m ≡ i * c + s → (r ≡ 0 → s ≡ 0) → (s ≡ 0 → r ≡ 0) → Alike c n m
of_digits c i n m r s R S p q a b = record {
  whole = ap (λ (z : ℕ). z / c) p ∙ digits_div i R ∙ sym (ap (λ (z : ℕ). z / c) q ∙ digits_div i S);
  to = λ h. ap (λ (z : ℕ). z % c) q ∙ digits_mod i S ∙ a (sym (ap (λ (z : ℕ). z % c) p ∙ digits_mod i R) ∙ h);
  from = λ h. ap (λ (z : ℕ). z % c) p ∙ digits_mod i R ∙ b (sym (ap (λ (z : ℕ). z % c) q ∙ digits_mod i S) ∙ h);
}

-- ---- rounding a fraction with a power of two below
pub round_at : (f : Format) (s : Bool) (n x : ℕ)
    → round f s n (2 ^ (x + low f)) ≡ units f s (closest n (2 ^ (x + (size (n / 2 ^ x) - prec f)))) (size (n / 2 ^ x) - prec f)
round_at f s n x =
    let l = low f in
    let p = prec f in
    let e : n * 2 ^ l / 2 ^ (x + l) ≡ n / 2 ^ x = ap (λ (z : ℕ). n * 2 ^ l / z) (pow-add 2 x l) ∙ mul-div-mul_right n (2 ^ x) (pow_pos l) in
    let k = size (n / 2 ^ x) - p in
    round_is f s n (2 ^ (x + l))
    ∙ ap (λ (z : ℕ). units f s (closest (n * 2 ^ l) (2 ^ (x + l) * 2 ^ (size z - p))) (size z - p)) e
    ∙ ap (λ (z : ℕ). units f s z k)
    (closest_same (n * 2 ^ l) (2 ^ (x + l) * 2 ^ k) n (2 ^ (x + k)) (mul-pos (pow_pos (x + l)) (pow_pos k)) (pow_pos (x + k))
    (simp (mul_assoc, mul_left_comm, pow-add)))
