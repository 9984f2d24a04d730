-- `roots::even_power` meets its contract: the leading digit goes to the top, and where the exponent left is odd one more two goes to the significand.
-- Assumes nothing.
use mathlib.Core.Path.{◌≡◌, sym, ap, ap₂, ◌∙◌, subst}
use Prim.Native.Nat.{ℕ, zero, suc, ◌+◌, ◌-◌, ◌*◌, ◌/◌, ◌%◌, ◌^◌, ◌≤◌, ◌<◌}
use native.Mathlib.Nat.{mul_assoc}
use native.Mathlib.Omega.{arith}
use mir.Syntax.{w64}
use mir.Val.{Fits}
use lib.Pow.{pow-add, shl_exact}
use lib.Ieee.{binary64, prec, emax, low, hid, size}
use lib.Ieee.Digits.{size-le, size-lt, size_reaches}
use Rattle.numbers.proofs.Sizes.{size_shl, size_pos}
use Rattle.numbers.proofs.Roots.{four_pow}
use Rattle.operands.specs.Operands.{Fields}
use Rattle.roots.specs.Steps.{Squared}
use Rattle.roots.proofs.even_power.Goals as goal

abbrev p : ℕ
p = prec binary64

abbrev l : ℕ
l = low binary64

-- m, of d digits, with its leading digit at the top
record Full (m d : ℕ) : Type 0 where
  kept : (m * 2 ^ (p - d)) % 2 ^ 64 ≡ m * 2 ^ (p - d)
  least : hid binary64 ≤ m * 2 ^ (p - d)
  most : m * 2 ^ (p - d) < 2 ^ p
  some : 0 < d
  few : d ≤ p

full : (m d : ℕ) → 0 < m → m < 2 ^ p → d ≡ size m → Full m d
full m d h k e =
    let few : size m ≤ p = size-le m p k in
    let z : size (m * 2 ^ (p - size m)) ≡ p = size_shl m (p - size m) h ∙ back (size m) few in
    subst (λ (d : ℕ). Full m d) (sym e)
    (record {
      kept = shl_exact (size m) (p - size m) 64 (size-lt m) (room (size m) few);
      least = size_reaches (m * 2 ^ (p - size m)) (p - 1) (above z);
      most = subst (λ (y : ℕ). m * 2 ^ (p - size m) < 2 ^ y) z (size-lt (m * 2 ^ (p - size m)));
      some = size_pos m h;
      few = few;
    })
  where
    back : (d : ℕ) → d ≤ p → d + (p - d) ≡ p
    back d h = omega arith

    room : (d : ℕ) → d ≤ p → d + (p - d) ≤ 64
    room d h = omega arith

    above : {z : ℕ} → z ≡ p → p - 1 < z
    above e = omega arith

double : (m d : ℕ) → 0 < m → m < 2 ^ p → d ≡ size m → Fits w64 ((m * 2 ^ (p - d)) % 2 ^ 64 * 2)
double m d h k e = record { fits = subst (λ (y : ℕ). y * 2 < 2 ^ 64) (sym (full m d h k e).kept) (go (m * 2 ^ (p - d)) (full m d h k e).most) }
  where
    go : (x : ℕ) → x < 2 ^ p → x * 2 < 2 ^ 64
    go x h = omega arith

-- with b, 0 or 1, the two that goes to the significand
squared : (m e d b : ℕ) → Fields binary64 m e → d ≡ size m → (e + l - (p - d)) % 2 ≡ b → b ≤ 1
    → Squared binary64 m e ((m * 2 ^ (p - d)) % 2 ^ 64 * 2 ^ b) ((e + l - (p - d)) / 2)
squared m e d b f i z one =
    let F = full m d f.some f.most i in
    let x = m * 2 ^ (p - d) in
    let g = (e + l - (p - d)) / 2 in
    let E : 2 ^ (p - d) * 2 ^ b * 4 ^ g ≡ 2 ^ (e + l) =
    ap₂ ◌*◌ (sym (pow-add 2 (p - d) b)) (four_pow g) ∙ sym (pow-add 2 (p - d + b) (2 * g)) ∙ ap (λ (y : ℕ). 2 ^ y) (halved (e + l) (p - d) b (few d) z) in
    subst (λ (y : ℕ). Squared binary64 m e (y * 2 ^ b) g) (sym F.kept)
    (record {
      same = ap (λ (y : ℕ). y * 4 ^ g) (mul_assoc m (2 ^ (p - d)) (2 ^ b)) ∙ mul_assoc m (2 ^ (p - d) * 2 ^ b) (4 ^ g) ∙ ap (λ (y : ℕ). m * y) E;
      least = (bound b x one F.least F.most).0;
      most = (bound b x one F.least F.most).1;
      far = reach d F.some;
      near = limit d f.near;
    })
  where
    halved : (E z b : ℕ) → z ≤ E → (E - z) % 2 ≡ b → z + b + 2 * ((E - z) / 2) ≡ E
    halved E z b h k = omega arith

    few : (d : ℕ) → p - d ≤ e + l
    few d = omega arith

    bound : (b x : ℕ) → b ≤ 1 → hid binary64 ≤ x → x < 2 ^ p → (hid binary64 ≤ x * 2 ^ b) × (x * 2 ^ b < 2 ^ suc p)
    bound zero x k h h' = (omega arith, omega arith)
    bound (suc zero) x k h h' = (omega arith, omega arith)
    bound (suc (suc b)) x k h h' = absurd (omega arith)

    reach : (d : ℕ) → 0 < d → 30 ≤ (e + l - (p - d)) / 2
    reach d h = omega arith

    limit : (d : ℕ) → e < 2 * emax binary64 → (e + l - (p - d)) / 2 < 2 * suc (emax binary64)
    limit d h = omega arith

pub overflow_sub-z : goal.overflow_sub-z
overflow_sub-z c = omega (arith, c.digits-z.ensures, size-le c.args.p.m p c.args.p.fields.most)

pub overflow_mul-result : goal.overflow_mul-result
overflow_mul-result c = double c.args.p.m c.digits-z.result c.args.p.fields.some c.args.p.fields.most c.digits-z.ensures

pub returns-then-g-eq0 : goal.returns-then-g-eq0
returns-then-g-eq0 c = let d = c.digits-z in
    let n = (c.args.p.m * 2 ^ (p - d.result)) % 2 ^ 64 in
    subst (λ (y : ℕ). Squared binary64 c.args.p.m c.args.p.e y ((c.args.p.e + l - (p - d.result)) / 2)) (omega arith)
    (squared c.args.p.m c.args.p.e d.result 0 c.args.p.fields d.ensures c.if-g-eq0.true (omega arith))

pub returns-else-g-eq0 : goal.returns-else-g-eq0
returns-else-g-eq0 c = let d = c.digits-z in
    squared c.args.p.m c.args.p.e d.result 1 c.args.p.fields d.ensures (odd (c.args.p.e + l - (p - d.result)) c.if-g-eq0.false) (omega arith)
  where
    odd : (x : ℕ) → (x % 2 ≡ 0 → ⊥) → x % 2 ≡ 1
    odd x h = omega arith
