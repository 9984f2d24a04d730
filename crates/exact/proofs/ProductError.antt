-- The error of a product (Dekker): the factors' upper parts are few digits with zeros behind them, and what they lack is small on either side of zero. So
-- each product of the parts, and each step of their sum less the rounded product, is a multiple of a place and few times as large. Assumes nothing.
use mathlib.Core.Path.{◌≡◌, refl, sym, ap, ap₂, ◌∙◌}
use mathlib.Core.Logic.{inl}
use Prim.Native.Nat.{ℕ, suc, ◌+◌, ◌-◌, ◌*◌, ◌^◌, ◌≤◌, ◌<◌, zero-le}
use native.Mathlib.Nat.{mul_comm, mul-le-mul, mul-le-mul_right, mul-le-mul_left, le_trans, le_of_eq, le_of_lt}
use native.Mathlib.Nat.{lt_of_le_of_lt, lt_of_lt_of_le, mod-lt, le_of_mul-le-mul_right, mul-lt-mul_of_pos_right, pow-succ'}
use native.Mathlib.Omega.{arith}
use mathlib.Core.Bool.{Bool, true, false, beq}
use lib.Pow.{pow-add, pow_pos, pow-lt, pow_mono, add-lt-pow}
use lib.Ieee.{Float, Format, binary32, binary64, prec, emax, low, hid, unlike, add, sub, mul}
use lib.Ieee.Fits.{add-fits}
use Rattle.numbers.proofs.Grid.{dist}
use Rattle.numbers.proofs.Sums.{sub_mul}
use Rattle.exact.specs.Signed.{Differ, Is, Rounds, Held, Within, Nearest}
use Rattle.exact.specs.Window.{first, last, half, widest}
use Rattle.exact.specs.Steps.{Halved, Multiplied}
use Rattle.exact.proofs.SignedLaws.{again, plus, add_is, sub_is, mul_is, mul_rounds, held_at, times}
use Rattle.exact.proofs.Nearest.{side, unscale_within, coarse, close, again_nearest}

-- ---- the format's numbers: H, W, E and B are 2 to the powers of half, half + 1, prec - 1 and prec
halves : (f : Format) → (prec f ≤ suc (half f) + suc (half f)) × (half f + half f ≤ prec f) × (suc (half f) < prec f - 1)
halves binary32 = omega arith
halves binary64 = omega arith

twice : (f : Format) → 2 ^ prec f ≡ 2 * hid f
twice binary32 = refl
twice binary64 = refl

-- what the window leaves room for, where the last digits of the factors and of their product stand at i, j and k
record Room (f : Format) (i j k : ℕ) : Type 0 where
  unit : i + j ≡ k + low f
  wide : prec f + (prec f + k) + 2 < low f + suc (emax f)
  most : prec f + (prec f + k) ≤ widest f
  least : prec f + 2 ≤ k
  first_factor : prec f + i < low f + suc (emax f)
  second_factor : prec f + j < low f + suc (emax f)

window : (f : Format) (i j : ℕ) → first f ≤ suc i → suc i < last f → first f ≤ suc j → suc j < last f → Room f i j (i + j - low f)
window binary32 i j a b c d = omega arith
window binary64 i j a b c d = omega arith

powers : (a b : ℕ) → b ≤ a → 2 ^ a ≡ 2 ^ (a - b) * 2 ^ b
powers a b h = ap (λ (y : ℕ). 2 ^ y) (omega arith) ∙ pow-add 2 (a - b) b

-- ---- products of what is near
times_within : (B w a u c : ℕ) → Within w a 0 u 0 → c ≤ B → Within (w * B) (a * c) 0 (u * c) 0
times_within B w a u c h l = let g = mul-le-mul_left w l in omega (arith, mul-le-mul_right c h.0, mul-le-mul_right c h.1)

cross_within : (w m h n l : ℕ) → Within w m 0 h 0 → Within w n 0 l 0 → Within (w * w) (m * n + h * l) (m * l + h * n) 0 0
cross_within w m h n l x y =
    let a = side m h in
    let b = side n l in
    let p : dist m h ≤ w = omega arith in
    let q : dist n l ≤ w = omega arith in
    go (beq a.0 b.0) (dist m h * dist n l) (times a.0 b.0 (dist m h) (dist n l) m h n l a.1 b.1) (mul-le-mul p q)
  where
    go : (z : Bool) (d : ℕ) → Differ z d (m * n + h * l) (m * l + h * n) → d ≤ w * w → Within (w * w) (m * n + h * l) (m * l + h * n) 0 0
    go true d e g = omega arith
    go false d e g = omega arith

-- how large the steps are: BW and BE are B times a place
record Sizes (hl hn ml mn R B BW BE : ℕ) : Type 0 where
  hl_R : Within BE hl R 0 0
  hn_hl : Within BW hn hl 0 0
  hn_R : Within BW hn R 0 0
  ml_hl : Within BW ml hl 0 0
  three : Within BW (hn + ml) (R + hl) 0 0
  rests : Within B (mn + hl) (ml + hn) 0 0
  mn_R : Within B mn R 0 0

-- h and l are near to m and n, and R is m * n rounded
sizes_of : (hl hn ml mn R HB HH B BW BE : ℕ) → HH ≤ B → B ≤ HB → BW ≡ 2 * HB → B + 2 * HB ≤ BE → Within HB mn 0 hn 0 → Within HB hn 0 hl 0
    → Within HB ml 0 hl 0 → Within HH (mn + hl) (ml + hn) 0 0 → Within B mn 0 R 0 → Sizes hl hn ml mn R B BW BE
sizes_of hl hn ml mn R HB HH B BW BE a b c d p q r s t = omega arith

-- ---- N units rounded, N a product of two significands: r times E, and less than B off
record Product (f : Format) (k : ℕ) (p : Float) (s : Bool) (N : ℕ) : Type 0 where
  r : ℕ
  is : Is f p s (r * hid f * 2 ^ k) 0
  near : Nearest f (N * 2 ^ k) 0 (r * hid f * 2 ^ k) 0
  beside : Within (2 ^ prec f) N 0 (r * hid f) 0

under : (p m n k : ℕ) → m < 2 ^ p → n < 2 ^ p → m * n * 2 ^ k < 2 ^ (p + (p + k))
under p m n k a b =
    let h = lt_of_le_of_lt (mul-le-mul_left m (le_of_lt b)) (mul-lt-mul_of_pos_right a (pow_pos p)) in
    rw (pow-add 2 p (p + k), pow-add 2 p k) (omega (arith, mul-lt-mul_of_pos_right h (pow_pos k)))

module _ {f : Format} {p : Float} {s : Bool} (k m n : ℕ) (X : Rounds f p s (m * n * 2 ^ k) 0) (few_m : m < 2 ^ prec f) (few_n : n < 2 ^ prec f)
    (full_m : hid f ≤ m) (full_n : hid f ≤ n) (room : prec f + (prec f + k) + 2 < low f + suc (emax f)) where
  large : 2 ^ (prec f + (prec f - 1 + k)) ≤ 2 * dist (m * n * 2 ^ k) 0
  large = le_trans (le_of_eq (pow-add 2 (prec f) (prec f - 1 + k) ∙ ap₂ ◌*◌ (twice f) (pow-add 2 (prec f - 1) k)))
      (omega (arith, mul-le-mul_right (2 ^ k) (mul-le-mul full_m full_n)))

  product : Product f k p s (m * n)
  product =
      let j = prec f - 1 + k in
      let N = m * n * 2 ^ k in
      let l = under (prec f) m n k few_m few_n in
      let C = coarse j N X (omega arith) (lt_of_lt_of_le (add-lt-pow (prec f + (prec f + k)) l l) (pow_mono (omega arith))) large in
      let none : Held f 0 0 = record { head = 0; zeros = 0; gap = inl refl; few = zero-le; under = pow_pos (low f + suc (emax f)) } in
      let w = C.near N 0 0 none (omega arith) in
      let g : C.d ≤ C.c = le_of_mul-le-mul_right {m = C.d} {n = C.c} {k = 2 ^ j} (omega arith) (pow_pos j) in
      let R = (C.c - C.d) * hid f in
      let e : C.c * 2 ^ j + 0 ≡ C.d * 2 ^ j + R * 2 ^ k = rw (pow-add 2 (prec f - 1) k)
      (omega (arith, sub_mul C.c C.d (hid f * 2 ^ k), mul-le-mul_right (hid f * 2 ^ k) g)) in
      let near = again_nearest N 0 (C.c * 2 ^ j) (C.d * 2 ^ j) N 0 (R * 2 ^ k) 0 C.near (omega arith) e in
      record { r = C.c - C.d; is = again C.is e; near = near; beside = within_B R near }
    where
      within_B : (R : ℕ) → Nearest f (m * n * 2 ^ k) 0 (R * 2 ^ k) 0 → Within (2 ^ prec f) (m * n) 0 R 0
      within_B R near =
          let j = prec f + k in
          let N = m * n * 2 ^ k in
          let l = under (prec f) m n k few_m few_n in
          let w = close f (prec f + j) j N 0 (R * 2 ^ k) 0 (omega arith) (omega arith) (omega arith) near in
          unscale_within (2 ^ k) (2 ^ prec f) (m * n) 0 R 0 (pow_pos k) (omega (arith, mod-lt (dist N 0) (pow_pos j), pow-add 2 (prec f) k))

-- ---- of floats
-- what the upper part lacks
lower_part : {f : Format} {x x' : Float} (X : Halved f x x') → prec f + X.near.k < low f + suc (emax f)
    → Is f (sub f x x') X.near.sgn (X.near.q * 2 ^ X.near.k) (X.upper * 2 ^ suc (half f) * 2 ^ X.near.k)
lower_part {f} X room =
    let q = X.near.q in
    let h = X.upper * 2 ^ suc (half f) in
    let w = X.beside in
    sub_is (plus X.near.has) (plus X.has) (omega arith)
    (held_at f 0 X.near.k q h q h (omega arith) (omega (arith, pow_mono {i = half f} {j = prec f} (omega (arith, halves f)))) (omega arith))

module _ {f : Format} {x y x' y' : Float} (X : Halved f x x') (Y : Halved f y y') where
  abbrev m : ℕ
  m = X.near.q

  abbrev n : ℕ
  n = Y.near.q

  abbrev h : ℕ
  h = X.upper * 2 ^ suc (half f)

  abbrev l : ℕ
  l = Y.upper * 2 ^ suc (half f)

  abbrev k : ℕ
  k = X.near.k + Y.near.k - low f

  open_window : Room f X.near.k Y.near.k k
  open_window = window f X.near.k Y.near.k X.near.least X.near.most Y.near.least Y.near.most

  -- a product of counts, in smallest values
  units : (a b : ℕ) → a * 2 ^ X.near.k * (b * 2 ^ Y.near.k) ≡ a * b * 2 ^ k * 2 ^ low f
  units a b =
      let e = sym (pow-add 2 X.near.k Y.near.k) ∙ ap (λ (y : ℕ). 2 ^ y) open_window.unit ∙ pow-add 2 k (low f) in
      omega (arith, ap (λ (y : ℕ). a * b * y) e)

  rounded : Product f k (mul f x y) (unlike X.near.sgn Y.near.sgn) (m * n)
  rounded = product k m n (mul_rounds (plus X.near.has) (plus Y.near.has) (m * n * 2 ^ k) 0 (omega (arith, units m n))) X.near.few Y.near.few
      X.near.full Y.near.full open_window.wide

  abbrev R : ℕ
  R = rounded.r * hid f

  sizes : Sizes (h * l) (h * n) (m * l) (m * n) R (2 ^ prec f) (2 ^ prec f * 2 ^ suc (half f)) (2 ^ prec f * hid f)
  sizes =
      let H = 2 ^ half f in
      let B = 2 ^ prec f in
      let W : B * 2 ^ suc (half f) ≡ 2 * (H * B) = rw (pow-succ' 2 (half f)) (omega arith) in
      sizes_of (h * l) (h * n) (m * l) (m * n) R (H * B) (H * H) B (B * 2 ^ suc (half f)) (B * hid f)
      (le_trans (le_of_eq (sym (pow-add 2 (half f) (half f)))) (pow_mono (halves f).1)) (omega (arith, mul-le-mul_right B (pow_pos (half f)))) W
      (omega (arith, mul-le-mul_left B (pow-lt (halves f).2))) (times_within B H m h n X.beside (le_of_lt Y.near.few))
      (omega (arith, times_within B H n l h Y.beside X.few)) (times_within B H m h l X.beside Y.few)
      (cross_within H m h n l X.beside Y.beside) rounded.beside

  room : (j : ℕ) → j ≤ 2 + prec f → prec f + (j + k) < low f + suc (emax f)
  room j h = omega (arith, open_window.wide)

  few_upper : X.upper * Y.upper ≤ 2 ^ prec f
  few_upper =
      let W = 2 ^ suc (half f) in
      let u : X.upper ≤ W = le_of_mul-le-mul_right
      (le_trans X.few (le_trans (pow_mono (halves f).0) (le_of_eq (pow-add 2 (suc (half f)) (suc (half f)))))) (pow_pos (suc (half f))) in
      le_trans (mul-le-mul_right Y.upper u) (le_trans (le_of_eq (mul_comm W Y.upper)) Y.few)

  -- the steps as the code takes them: each is a multiple of W * W, of E, of W or of 1; W * W is one of E, and E of W
  pub product_error : Multiplied f x y
      (add f (add f (add f (sub f (mul f x' y') (mul f x y)) (mul f x' (sub f y y'))) (mul f (sub f x x') y')) (mul f (sub f x x') (sub f y y')))
  product_error =
      let e = prec f - 1 in
      let c = suc (half f) in
      let u = X.upper in
      let v = Y.upper in
      let r = rounded.r in
      let g = r * 2 ^ (e - c) in
      let E_is = ap (λ (y : ℕ). r * y) (powers e c (omega (arith, halves f))) in
      let WW_is = ap (λ (y : ℕ). u * v * y) (powers (c + c) e (omega (arith, halves f))) in
      let uv = ap (λ (y : ℕ). u * v * y) (pow-add 2 c c) in
      let at_c : prec f + (c + k) < low f + suc (emax f) = room c (omega (arith, halves f)) in
      let at_0 : prec f + (0 + k) < low f + suc (emax f) = room 0 zero-le in
      let x'_is : Is f x' X.near.sgn (h * 2 ^ X.near.k) 0 = plus X.has in
      let y'_is : Is f y' Y.near.sgn (l * 2 ^ Y.near.k) 0 = plus Y.has in
      let xl = lower_part X open_window.first_factor in
      let yl = lower_part Y open_window.second_factor in
      let hl = mul_is x'_is y'_is (omega (arith, units h l)) (held_at f (c + c) k (u * v) 0 (h * l) 0 (omega arith)
      (omega (arith, mul-le-mul_right (2 ^ (c + c)) few_upper)) (room (c + c) (omega (arith, halves f)))) in
      let at_e : prec f + (e + k) < low f + suc (emax f) = room e (omega arith) in
      let hl_R = sub_is hl rounded.is (omega arith) (held_at f e k (u * v * 2 ^ (c + c - e)) r (h * l) R (omega arith) sizes.hl_R at_e) in
      let hn_hl = mul_is x'_is yl (omega (arith, units h n, units h l)) (held_at f c k (u * n) (u * l) (h * n) (h * l) (omega arith) sizes.hn_hl at_c) in
      let hn_R = add_is hl_R hn_hl (omega arith) (held_at f c k (u * n) g (h * n) R (omega arith) sizes.hn_R at_c) in
      let ml_hl = mul_is xl y'_is (omega (arith, units m l, units h l)) (held_at f c k (m * v) (h * v) (m * l) (h * l) (omega arith) sizes.ml_hl at_c) in
      let three = add_is hn_R ml_hl (omega arith)
      (held_at f c k (u * n + m * v) (g + h * v) (h * n + m * l) (R + h * l) (omega arith) sizes.three at_c) in
      let rests = mul_is xl yl (omega (arith, units m n, units h l, units m l, units h n))
      (held_at f 0 k (m * n + h * l) (m * l + h * n) (m * n + h * l) (m * l + h * n) (omega arith) (omega (arith, sizes.rests)) at_0) in
      let error = add_is three rests (omega arith) (held_at f 0 k (m * n) R (m * n) R (omega arith) (omega (arith, sizes.mn_R)) at_0) in
      record {
        s = X.near.sgn;
        t = Y.near.sgn;
        a = m * 2 ^ X.near.k;
        b = n * 2 ^ Y.near.k;
        has_x = X.near.has;
        has_y = Y.near.has;
        n = m * n * 2 ^ k;
        product = units m n;
        least = le_trans (pow_mono {j = e + e + k} (omega (arith, open_window.least)))
            (rw (pow-add 2 (e + e) k, pow-add 2 e e) (mul-le-mul_right (2 ^ k) (mul-le-mul X.near.full Y.near.full)));
        most = lt_of_lt_of_le (under (prec f) m n k X.near.few Y.near.few) (pow_mono open_window.most);
        g = R * 2 ^ k;
        is_p = rounded.is;
        is_e = error;
        near = rounded.near;
        held = add-fits f _ _;
      }
