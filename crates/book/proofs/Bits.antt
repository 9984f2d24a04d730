-- Laws of the bits of an index: setting a bit that is 0, clearing one that is 1, and what that does to the other bits and to a mask. By halves: bit t + 1 of i
-- is bit t of i / 2. Assumes nothing.
use Prim.Native.Nat.{ℕ, zero, suc, ◌+◌, ◌-◌, ◌*◌, ◌/◌, ◌%◌, ◌^◌, ◌≤◌, ◌<◌, min}
use mathlib.Core.Logic.{◌⊎◌, inl, inr}
use mathlib.Core.Path.{◌≡◌, refl, sym, ap, ap₂, ◌∙◌}
use native.Mathlib.Nat.{pow-suc, mod-lt, div-one, div-div-eq-div-mul, mul_comm, mul_assoc, add-div_right, le-div_iff_mul-le, zero-lt-suc, div-lt_iff_lt-mul}
use native.Mathlib.Numerals.{add-one}
use native.Mathlib.Omega.{arith}
use lib.Bits.{bit_and, and_step}
use lib.Pow.{pow_pos, pow-add}
use Rattle.book.specs.State.{bit}

pub bit_lt : (t i : ℕ) → bit t i < 2
bit_lt t i = mod-lt (i / 2 ^ t) (zero-lt-suc 1)

pub zero_or_one : (x : ℕ) → x < 2 → (x ≡ 0) ⊎ (x ≡ 1)
zero_or_one zero l = inl refl
zero_or_one (suc zero) l = inr refl
zero_or_one (suc (suc x)) l = absurd (omega arith)

pub halves : (t i : ℕ) → (bit t i ≡ 0) ⊎ (bit t i ≡ 1)
halves t i = zero_or_one (bit t i) (bit_lt t i)

pub bit_zero : (i : ℕ) → bit 0 i ≡ i % 2
bit_zero i = ap (λ (x : ℕ). x % 2) (div-one i)

pub bit_suc : (t i : ℕ) → bit (suc t) i ≡ bit t (i / 2)
bit_suc t i =
    ap (λ (x : ℕ). x % 2) (ap (λ (p : ℕ). i / p) (pow-suc 2 t ∙ mul_comm (2 ^ t) 2) ∙ sym (div-div-eq-div-mul i 2 (2 ^ t)))

-- ---- one bit set or cleared

pub bit_up : (t i : ℕ) → bit t i ≡ 0 → bit t (i + 2 ^ t) ≡ 1
bit_up t i e = let d : (i + 2 ^ t) / 2 ^ t ≡ i / 2 ^ t + 1 = add-div_right i (pow_pos t) in omega arith

pub bit_le : (t i : ℕ) → bit t i ≡ 1 → 2 ^ t ≤ i
bit_le t i e = let h : 1 ≤ i / 2 ^ t = omega arith in omega (arith, (le-div_iff_mul-le (pow_pos t)).0 h)

pub down_up : (t i : ℕ) → bit t i ≡ 1 → i - 2 ^ t + 2 ^ t ≡ i
down_up t i e = omega (arith, bit_le t i e)

pub bit_down : (t i : ℕ) → bit t i ≡ 1 → bit t (i - 2 ^ t) ≡ 0
bit_down t i e =
    let d : (i - 2 ^ t + 2 ^ t) / 2 ^ t ≡ (i - 2 ^ t) / 2 ^ t + 1 = add-div_right (i - 2 ^ t) (pow_pos t) in
    let d' : i / 2 ^ t ≡ (i - 2 ^ t) / 2 ^ t + 1 = rw (down_up t i e) at d in
    omega arith

-- the other bits stay
pub bit_other : (t u i : ℕ) → (t ≡ u → ⊥) → bit u i ≡ 0 → bit t (i + 2 ^ u) ≡ bit t i
bit_other zero zero i a e = absurd (a refl)
bit_other zero (suc u) i a e =
    let p : 2 ^ suc u ≡ 2 ^ u * 2 = pow-suc 2 u in
    let m : (i + 2 ^ suc u) % 2 ≡ i % 2 = omega arith in
    bit_zero (i + 2 ^ suc u) ∙ m ∙ sym (bit_zero i)
bit_other (suc t) zero i a e =
    let z : i % 2 ≡ 0 = sym (bit_zero i) ∙ e in
    let h : (i + 1) / 2 ≡ i / 2 = omega arith in
    bit_suc t (i + 1) ∙ ap (bit t) h ∙ sym (bit_suc t i)
bit_other (suc t) (suc u) i a e =
    let p : 2 ^ suc u ≡ 2 ^ u * 2 = pow-suc 2 u in
    let h : (i + 2 ^ suc u) / 2 ≡ i / 2 + 2 ^ u = omega arith in
    bit_suc t (i + 2 ^ suc u) ∙ ap (bit t) h ∙ bit_other t u (i / 2) (λ q. a (ap suc q)) (sym (bit_suc u i) ∙ e) ∙ sym (bit_suc t i)

-- s1 of a pair of n qubits is within the state
pub up_lt : (n t i : ℕ) → t < n → i < 2 ^ n → bit t i ≡ 0 → i + 2 ^ t < 2 ^ n
up_lt n t i h l e =
    let k : ℕ = n - suc t in
    let nk : n ≡ k + 1 + t = omega arith in
    let p : 2 ^ n ≡ 2 ^ (k + 1) * 2 ^ t = ap (λ (x : ℕ). 2 ^ x) nk ∙ pow-add 2 (k + 1) t in
    let q : 2 ^ (k + 1) ≡ 2 ^ k * 2 = rw add-one (pow-suc 2 k) in
    let dl : i / 2 ^ t < 2 ^ (k + 1) = (div-lt_iff_lt-mul (pow_pos t)).1 (rw p at l) in
    let dl' : (i + 2 ^ t) / 2 ^ t < 2 ^ (k + 1) = rw (add-div_right i (pow_pos t)) (omega arith) in
    rw p ((div-lt_iff_lt-mul (pow_pos t)).0 dl')

-- ---- a bit and a mask

-- a bit of m that is 0, set: it is `and` of that bit beside the rest
pub and_add : (t i m : ℕ) → bit t m ≡ 0 → bit_and i (m + 2 ^ t) ≡ bit_and i m + bit t i * 2 ^ t
and_add zero i m e =
    let e' : m % 2 ≡ 0 = sym (bit_zero m) ∙ e in
    let h : (m + 1) / 2 ≡ m / 2 = omega arith in
    let o : (m + 1) % 2 ≡ 1 = omega arith in
    let x2 : i % 2 < 2 = mod-lt i (zero-lt-suc 1) in
    let s1 : bit_and i (m + 1) ≡ bit_and (i / 2) (m / 2) * 2 + min (i % 2) 1 =
    and_step i (m + 1) ∙ ap₂ (λ (x y : ℕ). bit_and (i / 2) x * 2 + min (i % 2) y) h o in
    let s2 : bit_and i m ≡ bit_and (i / 2) (m / 2) * 2 + min (i % 2) 0 =
    and_step i m ∙ ap (λ (y : ℕ). bit_and (i / 2) (m / 2) * 2 + min (i % 2) y) e' in
    let b : bit 0 i ≡ i % 2 = bit_zero i in
    rw b (omega arith)
and_add (suc t) i m e =
    let p : 2 ^ suc t ≡ 2 ^ t * 2 = pow-suc 2 t in
    let h : (m + 2 ^ suc t) / 2 ≡ m / 2 + 2 ^ t = omega arith in
    let o : (m + 2 ^ suc t) % 2 ≡ m % 2 = omega arith in
    let ih : bit_and (i / 2) (m / 2 + 2 ^ t) ≡ bit_and (i / 2) (m / 2) + bit t (i / 2) * 2 ^ t = and_add t (i / 2) (m / 2) (sym (bit_suc t m) ∙ e) in
    let s1 : bit_and i (m + 2 ^ suc t) ≡ bit_and (i / 2) (m / 2 + 2 ^ t) * 2 + min (i % 2) (m % 2) =
    and_step i (m + 2 ^ suc t) ∙ ap₂ (λ (x y : ℕ). bit_and (i / 2) x * 2 + min (i % 2) y) h o in
    let s2 : bit_and i m ≡ bit_and (i / 2) (m / 2) * 2 + min (i % 2) (m % 2) = and_step i m in
    let b : bit (suc t) i ≡ bit t (i / 2) = bit_suc t i in
    let q : bit (suc t) i * 2 ^ suc t ≡ bit t (i / 2) * 2 ^ t * 2 = ap₂ (λ (x y : ℕ). x * y) b p ∙ sym (mul_assoc (bit t (i / 2)) (2 ^ t) 2) in
    s1 ∙ omega arith
