-- What is known of a multiplier's upper part is known in one way: so that a gate may keep it. Assumes nothing.
use Rattle.std.specs.Prelude.{◌≡◌, ℕ, suc, ◌+◌, ◌*◌, ◌^◌, ◌≤◌, ◌<◌, Bool, cond, Float}
use Rattle.std.specs.Float.{Format, nan, inf, fin, binary64}
use Rattle.std.specs.Float.Ieee.{low, down, hid, top, to_bits, prec}
use Rattle.std.specs.Float.Ieee.Exact.{HasValue}
use Rattle.std.specs.Coded.{×_prop, →_prop, le_prop}
use Rattle.abreast.specs.Split.{Split, Beside}
use Rattle.exact.specs.Steps.{Near, Under, Halved}
use Rattle.exact.specs.Signed.{Within}
use Rattle.exact.specs.Window.{first, last, half}
use mathlib.Core.Bool.{Bool-set}
use mathlib.Core.HLevel.{is_prop→PathP}
use mathlib.Core.Path.{sym, ap, ◌∙◌}
use native.Mathlib.Nat.{ℕ_set, eq_of_mul-eq-mul_right}
use native.Mathlib.Omega.{arith}
use lib.Ieee.Fits.{down_pos}
use lib.Pow.{pow_pos}

-- a float's sign and size
value_prop : (x : Float) (s : Bool) (a c : ℕ) → IsProp (HasValue x s a c)
value_prop nan s a c = λ u v. absurd u
value_prop (inf t) s a c = λ u v. absurd u
value_prop (fin t m e) s a c = ×_prop (Bool-set _ _) (ℕ_set _ _)

one_value : (x : Float) {s s' : Bool} {a a' : ℕ} (c : ℕ) → HasValue x s a c → HasValue x s' a' c → (s ≡ s') × (a ≡ a')
one_value nan c u v = absurd u
one_value (inf t) c u v = absurd u
one_value (fin t m e) {a = a} {a' = a'} c u v = (sym u.0 ∙ v.0, eq_of_mul-eq-mul_right (down e) (down_pos e) a a' (sym u.1 ∙ v.1))

pub under_prop : (f : Format) (j : ℕ) (x : Float) → IsProp (Under f j x)
under_prop f j x u v =
    let e = one_value x (2 ^ low f) u.has v.has in
    λ i. record {
      sgn = e.0 i;
      n = e.1 i;
      has = is_prop→PathP (λ k. HasValue x (e.0 k) (e.1 k) (2 ^ low f)) (λ k. value_prop x (e.0 k) (e.1 k) (2 ^ low f)) u.has v.has i;
      most = is_prop→PathP (λ k. e.1 k ≤ 2 ^ (low f + j)) (λ k. le_prop) u.most v.most i;
    }

-- a number in the window has one exponent and one significand
one_near : (z q q' k k' : ℕ) → z + (k * hid binary64 + q) ≡ z + (k' * hid binary64 + q') → hid binary64 ≤ q → q < 2 ^ prec binary64
    → hid binary64 ≤ q' → q' < 2 ^ prec binary64 → (q ≡ q') × (k ≡ k')
one_near z q q' k k' e a b c d = (omega arith, omega arith)

near_same : {x : Float} (u v : Near binary64 x) → (u.sgn ≡ v.sgn) × ((u.q ≡ v.q) × (u.k ≡ v.k))
near_same {x} u v =
    let e = one_value x (2 ^ low binary64) u.has v.has in
    let z : cond u.sgn (top binary64) 0 ≡ cond v.sgn (top binary64) 0 = ap (λ (s : Bool). cond s (top binary64) 0) e.0 in
    let g : cond u.sgn (top binary64) 0 + (u.k * hid binary64 + u.q) ≡ cond u.sgn (top binary64) 0 + (v.k * hid binary64 + v.q) =
    sym u.bits ∙ v.bits ∙ ap (λ (n : ℕ). n + (v.k * hid binary64 + v.q)) (sym z) in
    (e.0, one_near _ u.q v.q u.k v.k g u.full u.few v.full v.few)

near_prop : (x : Float) → IsProp (Near binary64 x)
near_prop x u v =
    let e = near_same u v in
    let s = e.0 in
    let q = e.1.0 in
    let k = e.1.1 in
    λ i. record {
      sgn = s i;
      q = q i;
      k = k i;
      has = is_prop→PathP (λ j. HasValue x (s j) (q j * 2 ^ k j) (2 ^ low binary64))
          (λ j. value_prop x (s j) (q j * 2 ^ k j) (2 ^ low binary64)) u.has v.has i;
      few = is_prop→PathP (λ j. q j < 2 ^ prec binary64) (λ j. le_prop) u.few v.few i;
      full = is_prop→PathP (λ j. hid binary64 ≤ q j) (λ j. le_prop) u.full v.full i;
      bits = is_prop→PathP (λ j. to_bits binary64 x ≡ cond (s j) (top binary64) 0 + (k j * hid binary64 + q j)) (λ j. ℕ_set _ _) u.bits v.bits i;
      least = is_prop→PathP (λ j. first binary64 ≤ suc (k j)) (λ j. le_prop) u.least v.least i;
      most = is_prop→PathP (λ j. suc (k j) < last binary64) (λ j. le_prop) u.most v.most i;
    }

abbrev unit : ℕ
unit = 2 ^ suc (half binary64)

pub halved_prop : (x r : Float) → IsProp (Halved binary64 x r)
halved_prop x r u v =
    let n = near_prop x u.near v.near in
    let e = one_value r (2 ^ low binary64) u.has v.has in
    let k : 2 ^ u.near.k ≡ 2 ^ v.near.k = ap (λ (m : ℕ). 2 ^ m) (near_same u.near v.near).1.1 in
    let g : u.upper * unit * 2 ^ u.near.k ≡ v.upper * unit * 2 ^ u.near.k = e.1 ∙ ap (λ (p : ℕ). v.upper * unit * p) (sym k) in
    let h : u.upper * unit ≡ v.upper * unit = eq_of_mul-eq-mul_right (2 ^ u.near.k) (pow_pos u.near.k) (u.upper * unit) (v.upper * unit) g in
    let p : u.upper ≡ v.upper = omega arith in
    λ i. record {
      near = n i;
      upper = p i;
      has = is_prop→PathP (λ j. HasValue r (n j).sgn (p j * unit * 2 ^ (n j).k) (2 ^ low binary64))
          (λ j. value_prop r (n j).sgn (p j * unit * 2 ^ (n j).k) (2 ^ low binary64)) u.has v.has i;
      few = is_prop→PathP (λ j. p j * unit ≤ 2 ^ prec binary64) (λ j. le_prop) u.few v.few i;
      beside = is_prop→PathP (λ j. Within (2 ^ half binary64) (n j).q 0 (p j * unit) 0) (λ j. ×_prop le_prop le_prop) u.beside v.beside i;
    }

pub split_prop : (k h : Float) → IsProp (Split k h)
split_prop k h = →_prop (halved_prop k h)

pub beside_prop : (k s h : Float) → IsProp (Beside k s h)
beside_prop k s h = →_prop (×_prop (halved_prop k h) (under_prop binary64 1 s))
