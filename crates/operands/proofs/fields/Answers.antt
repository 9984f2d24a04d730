-- `operands::fields` meets its contract: the fields of the bits are those that lib.Ieee's `of_bits` reads. Assumes nothing.
use mathlib.Core.Path.{◌≡◌, sym, subst}
use Prim.Native.Nat.{ℕ, suc, ◌+◌, ◌-◌, ◌*◌, ◌/◌, ◌%◌, ◌^◌, ◌<◌}
use native.Mathlib.Nat.{mul-one}
use native.Mathlib.Omega.{arith}
use lib.Dec.{T, leb}
use lib.Pow.{pow_pos}
use lib.Ieee.{Float, binary64, emax, low, hid, ones, top, fits, to_bits}
use lib.Ieee.Exact.{HasValue}
use Rattle.operands.specs.Operands.{ordinary, Fields}
use Rattle.operands.proofs.Floats.{ordinary_number, value_pos, low_fields, high_fields}
use Rattle.operands.proofs.fields.Goals as goal

pred : (x : ℕ) → (x ≡ 0 → ⊥) → x ≡ suc (x - 1)
pred x h = omega arith

subnormal : (b : ℕ) → 0 < b % hid binary64 → Fields binary64 (b % hid binary64) 0
subnormal b h = record { some = h; most = omega arith; full = λ z. absurd (no z); near = omega arith }
  where
    no : 0 < 0 → ⊥
    no h = omega arith

normal : (b : ℕ) → (suc (b % top binary64 / hid binary64 - 1) ≡ ones binary64 → ⊥)
    → Fields binary64 (hid binary64 + b % hid binary64) (b % top binary64 / hid binary64 - 1)
normal b h = record { some = omega arith; most = omega arith; full = λ z. omega arith; near = limit (b % top binary64) (omega arith) h }
  where
    limit : (r : ℕ) → r < top binary64 → (suc (r / hid binary64 - 1) ≡ ones binary64 → ⊥) → r / hid binary64 - 1 < 2 * emax binary64
    limit r l n = omega arith

pub float_to_bits-bits : goal.float_to_bits-bits
float_to_bits-bits c = ordinary_number c.args.x c.requires

low_part : (x : Float) → T (fits binary64 x) → T (ordinary x) → to_bits binary64 x % top binary64 / hid binary64 ≡ 0
    → let b = to_bits binary64 x in HasValue x (leb (top binary64) b) (b % hid binary64 * 2 ^ 0) (2 ^ low binary64) × Fields binary64 (b % hid binary64) 0
low_part x held o e =
    let b = to_bits binary64 x in
    let v = low_fields binary64 x held e in
    let some : 0 < b % hid binary64 * 2 ^ 0 = value_pos x (leb (top binary64) b) (b % hid binary64 * 2 ^ 0) (2 ^ low binary64) (pow_pos (low binary64)) o v in
    (v, subnormal b (subst (λ (y : ℕ). 0 < y) (mul-one (b % hid binary64)) some))

high_part : (x : Float) → T (fits binary64 x) → T (ordinary x) → (to_bits binary64 x % top binary64 / hid binary64 ≡ 0 → ⊥)
    → let b = to_bits binary64 x in
    let field = b % top binary64 / hid binary64 in
    HasValue x (leb (top binary64) b) ((hid binary64 + b % hid binary64) * 2 ^ (field - 1)) (2 ^ low binary64)
    × Fields binary64 (hid binary64 + b % hid binary64) (field - 1)
high_part x held o e =
    let b = to_bits binary64 x in
    let field = b % top binary64 / hid binary64 in
    let v = high_fields binary64 x held o (field - 1) (pred field e) in
    (v.1, normal b v.0)

pub returns-then-field-eq0 : goal.returns-then-field-eq0
returns-then-field-eq0 c = (low_part c.args.x (subst T (sym c.well_formed.0.1) tt) c.requires c.if-field-eq0.true).0

pub invariant_of-result : goal.invariant_of-result
invariant_of-result c = record { fields = (low_part c.args.x (subst T (sym c.well_formed.0.1) tt) c.requires c.if-field-eq0.true).1 }

pub invariant_of-result-2 : goal.invariant_of-result-2
invariant_of-result-2 c = record { fields = (high_part c.args.x (subst T (sym c.well_formed.0.1) tt) c.requires c.if-field-eq0.false).1 }

pub returns : goal.returns
returns c = (high_part c.args.x (subst T (sym c.well_formed.0.1) tt) c.requires c.if-field-eq0.false).0
