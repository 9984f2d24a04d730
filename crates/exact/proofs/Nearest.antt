-- A count rounded. No count that the format holds is nearer, on whichever side of zero it lies: one on the other side is no nearer than 0. And what is
-- rounded is a multiple of the place after the last that is kept: so where digits are lost, it is even in the units before. Assumes nothing.
use mathlib.Core.Path.{◌≡◌, sym, ap, ◌∙◌}
use mathlib.Core.Logic.{◌⊎◌, inl, inr}
use Prim.Native.Nat.{ℕ, suc, ◌+◌, ◌-◌, ◌*◌, ◌/◌, ◌%◌, ◌^◌, ◌≤◌, ◌<◌}
use native.Mathlib.Nat.{mul_assoc, le_of_mul-le-mul_right, mul-le-mul_right, lt_of_le_of_lt, le_trans, le_of_eq, mul-div_cancel, pow-succ', mod-lt}
use native.Mathlib.Nat.{add-suc, mul-le-mul_left, eq-zero-or-pos, mod-one, div-add-mod', div-mul-le_self, lt_of_lt_of_le, le_of_lt}
use native.Mathlib.Decide.{dec_le}
use native.Mathlib.Omega.{arith}
use mathlib.Core.Bool.{Bool, true, false, beq}
use lib.Pow.{pow-add, pow_pos, pow-lt, pow_mono, shr_lt}
use lib.Ieee.{Float, Format, prec, emax, low, size}
use lib.Ieee.Digits.{size-lt, size_reaches}
use lib.Ieee.Fits.{two, two-le_pos}
use lib.Ieee.Order.{drop, kept}
use lib.Ieee.Scale.{overflow, grid}
use Rattle.numbers.proofs.Sizes.{pow_lt_back}
use Rattle.numbers.proofs.Grid.{Short, zero_short, dist, kept_near}
use Rattle.numbers.proofs.Rounding.{round_has}
use Rattle.exact.specs.Signed.{Differ, Is, Rounds, Held, Within, Nearest}
use Rattle.exact.proofs.SignedLaws.{either_side, size_is, again, exact, few_digits, held_at}

-- ---- how far two differences lie apart
pub scale_within : (c w a b u v : ℕ) → Within w a b u v → Within (w * c) (a * c) (b * c) (u * c) (v * c)
scale_within c w a b u v h = omega (arith, mul-le-mul_right c h.0, mul-le-mul_right c h.1)

pub unscale_within : (c w a b u v : ℕ) → 0 < c → Within (w * c) (a * c) (b * c) (u * c) (v * c) → Within w a b u v
unscale_within c w a b u v C h = (
  le_of_mul-le-mul_right {m = a + v} {n = b + u + w} {k = c} (omega arith) C,
  le_of_mul-le-mul_right {m = b + u} {n = a + v + w} {k = c} (omega arith) C,
)

pub again_nearest : {f : Format} (a b c d a' b' c' d' : ℕ) → Nearest f a b c d → a + b' ≡ b + a' → c + d' ≡ d + c' → Nearest f a' b' c' d'
again_nearest a b c d a' b' c' d' N e g = λ w u v H W. omega (arith, N w u v H (omega arith))

-- n units with a sign before them, as a difference
pub signed : (z : Bool) (n u : ℕ) → (c : ℕ) × (d : ℕ) × Differ z (n * u) (c * u) (d * u) × (c + d ≡ n)
signed true n u = (n, 0, omega arith, omega arith)
signed false n u = (0, n, omega arith, omega arith)

-- ---- what n is rounded to, with no sign
module _ (f : Format) (n : ℕ) where
  near_count : (w h : ℕ) → Short (prec f) h → Within w n 0 h 0 → Within w n 0 (grid f n (2 ^ low f)) 0
  near_count w h S W =
      let L = 2 ^ low f in
      let k = kept_near (prec f) (n * L) L (two-le_pos (prec f) (two f)) (pow_pos (low f)) h S in
      unscale_within L w n 0 (grid f n L) 0 (pow_pos (low f)) (omega (arith, scale_within L w n 0 h 0 W))

  place_count : (j : ℕ) → 2 ^ (prec f + j) ≤ 2 * n → (r : ℕ) × (grid f n (2 ^ low f) ≡ r * 2 ^ j)
  place_count j h =
      let L = 2 ^ low f in
      let z = size n - prec f in
      let c = kept (prec f) (n * L) L in
      let l : prec f + j < suc (size n) = pow_lt_back (prec f + j) (suc (size n)) (omega (arith, size-lt n)) in
      let e : drop (prec f) (n * L) L ≡ z = ap (λ (y : ℕ). size y - prec f) (mul-div_cancel n (pow_pos (low f))) in
      let b : z ≡ z - j + j = omega arith in
      (c * 2 ^ (z - j), ap (λ (y : ℕ). c * 2 ^ y) (e ∙ b) ∙ ap (λ (y : ℕ). c * y) (pow-add 2 (z - j) j) ∙ sym (mul_assoc c (2 ^ (z - j)) (2 ^ j)))

-- ---- with a sign
signed_near : (f : Format) (z : Bool) (n g a b c d : ℕ) → ((w h : ℕ) → Short (prec f) h → Within w n 0 h 0 → Within w n 0 g 0) → Differ z n a b → Differ z g c d
    → Nearest f a b c d
signed_near f z n g a b c d near x y = λ w u v H W.
    let h = H.head * 2 ^ H.zeros in
    back w z x y (elim (sides w u v h z x H.gap W) [
      | inl l ↦ near w h (few_digits (prec f) H.head H.zeros (two-le_pos (prec f) (two f)) H.few) l
      | inr l ↦ near w 0 (zero_short (prec f)) l
    ])
  where
    sides : (w u v h : ℕ) (z : Bool) → Differ z n a b → (u ≡ v + h) ⊎ (v ≡ u + h) → Within w a b u v → Within w n 0 h 0 ⊎ Within w n 0 0 0
    sides w u v h true x (inl e) W = inl (omega arith)
    sides w u v h true x (inr e) W = inr (omega arith)
    sides w u v h false x (inl e) W = inr (omega arith)
    sides w u v h false x (inr e) W = inl (omega arith)

    back : (w : ℕ) (z : Bool) → Differ z n a b → Differ z g c d → Within w n 0 g 0 → Within w a b c d
    back w true x y W = omega arith
    back w false x y W = omega arith

pub side : (a b : ℕ) → (z : Bool) × Differ z (dist a b) a b
side a b = elim (dec_le b a) [ yes h ↦ (true, omega arith) | no h ↦ (false, omega arith) ]

-- a count of j digits more than are kept is rounded to a multiple of 2 ^ j
pub record Coarse (f : Format) (j : ℕ) (x : Float) (s : Bool) (a b : ℕ) : Type 0 where
  pub c : ℕ
  pub d : ℕ
  pub is : Is f x s (c * 2 ^ j) (d * 2 ^ j)
  pub near : Nearest f a b (c * 2 ^ j) (d * 2 ^ j)

pub coarse : {f : Format} {x : Float} {s : Bool} {a b : ℕ} (j S : ℕ) → Rounds f x s a b → Within S a b 0 0 → S + S < overflow f
    → 2 ^ (prec f + j) ≤ 2 * dist a b → Coarse f j x s a b
coarse {f} {x} {s} {a} {b} j S R W room large =
    let z = beq R.sgn s in
    let n = R.mag in
    let g = grid f n (2 ^ low f) in
    let e : dist a b ≡ n = size_is z n a b R.gap in
    let r = place_count f n j (rw e at large) in
    let o = signed z r.0 (2 ^ j) in
    let y : Differ z g (o.0 * 2 ^ j) (o.1 * 2 ^ j) = rw r.1 o.2 in
    let most : g < overflow f = omega (arith, near_count f n n 0 (zero_short (prec f)) (omega arith)) in
    record {
      c = o.0;
      d = o.1;
      is = record { sgn = R.sgn; mag = g; has = rw R.is (round_has f R.sgn n (2 ^ low f) (pow_pos (low f)) most); gap = y };
      near = signed_near f z n g a b (o.0 * 2 ^ j) (o.1 * 2 ^ j) (near_count f n) R.gap y;
    }

-- ---- in units of 2 ^ k: a - b of them, and c - d of them as near as any
pub record NearOn (f : Format) (k a b c d : ℕ) : Type 0 where
  pub near : Nearest f (a * 2 ^ k) (b * 2 ^ k) (c * 2 ^ k) (d * 2 ^ k)

pub near_on : {f : Format} {k a b c d : ℕ} → NearOn f k a b c d → (w u v : ℕ) → Held f (u * 2 ^ k) (v * 2 ^ k) → Within w a b u v → Within w a b c d
near_on {k = k} {a} {b} {c} {d} N w u v H W =
    unscale_within (2 ^ k) w a b c d (pow_pos k) (N.near (w * 2 ^ k) (u * 2 ^ k) (v * 2 ^ k) H (scale_within (2 ^ k) w a b u v W))

-- a - b units rounded: even, unless it is a - b itself
pub record Rounded (f : Format) (k : ℕ) (x : Float) (s : Bool) (a b : ℕ) : Type 0 where
  pub c : ℕ
  pub d : ℕ
  pub is : Is f x s (c * 2 ^ k) (d * 2 ^ k)
  pub near : NearOn f k a b c d
  pub same_or_even : (a + d ≡ b + c) ⊎ ((c + d) % 2 ≡ 0)

pub rounded : {f : Format} {x : Float} {s : Bool} (k a b S : ℕ) → Rounds f x s (a * 2 ^ k) (b * 2 ^ k) → Within S a b 0 0 → S * 2 ^ k + S * 2 ^ k < overflow f
    → prec f + k < low f + suc (emax f) → Rounded f k x s a b
rounded {f} {x} {s} k a b S R W room K = elim (dec_le (2 ^ (prec f + k)) (dist (a * 2 ^ k) (b * 2 ^ k))) [
  | yes h ↦
      let C = coarse (suc k) (S * 2 ^ k) R (omega (arith, scale_within (2 ^ k) S a b 0 0 W)) room (le_trans (le_of_eq next) (mul-le-mul_left 2 h)) in
      record {
        c = 2 * C.c;
        d = 2 * C.d;
        is = again C.is (twice C.c C.d);
        near = record {
          near = again_nearest (a * 2 ^ k) (b * 2 ^ k) (C.c * 2 ^ suc k) (C.d * 2 ^ suc k) (a * 2 ^ k) (b * 2 ^ k) (2 * C.c * 2 ^ k)
              (2 * C.d * 2 ^ k) C.near (omega arith) (twice C.c C.d);
        };
        same_or_even = inr (omega arith);
      }
  | no h ↦ record {
    c = a;
    d = b;
    is = exact R (held_at f 0 k a b a b (omega arith) (few h) (omega arith));
    near = record { near = λ w u v H h. omega arith };
    same_or_even = inl (omega arith);
  }
]
  where
    next : 2 ^ (prec f + suc k) ≡ 2 * 2 ^ (prec f + k)
    next = ap (λ (y : ℕ). 2 ^ y) (add-suc (prec f) k) ∙ pow-succ' 2 (prec f + k)

    twice : (c d : ℕ) → c * 2 ^ suc k + 2 * d * 2 ^ k ≡ d * 2 ^ suc k + 2 * c * 2 ^ k
    twice c d = rw (pow-succ' 2 k) (omega arith)

    few : (2 ^ (prec f + k) ≤ dist (a * 2 ^ k) (b * 2 ^ k) → ⊥) → Within (2 ^ prec f * 2 ^ 0) a b 0 0
    few h = unscale_within (2 ^ k) (2 ^ prec f * 1) a b 0 0 (pow_pos k) (omega (arith, pow-add 2 (prec f) k))

-- ---- how near that is
-- of a count of j digits more than are kept the nearest is no further than the count cut
pub close : (f : Format) (M j a b c d : ℕ) → M < low f + suc (emax f) → Within (2 ^ M) a b 0 0 → dist a b < 2 ^ (prec f + j) → Nearest f a b c d
    → Within (dist a b % 2 ^ j) a b c d
close f M j a b c d room W small N =
    let n = dist a b in
    let q = n / 2 ^ j in
    let z = side a b in
    let o = signed z.0 q (2 ^ j) in
    let H : Held f (o.0 * 2 ^ j) (o.1 * 2 ^ j) = record {
      head = q;
      zeros = j;
      gap = either_side z.0 (q * 2 ^ j) (o.0 * 2 ^ j) (o.1 * 2 ^ j) o.2;
      few = le_of_lt (shr_lt (prec f) j small);
      under = lt_of_le_of_lt (le_trans (div-mul-le_self n (2 ^ j)) (omega arith)) (pow-lt room);
    } in
    N (n % 2 ^ j) (o.0 * 2 ^ j) (o.1 * 2 ^ j) H
    (rest z.0 n (q * 2 ^ j) (n % 2 ^ j) (o.0 * 2 ^ j) (o.1 * 2 ^ j) (div-add-mod' n (2 ^ j)) z.1 o.2)
  where
    rest : (z : Bool) (n h r u v : ℕ) → h + r ≡ n → Differ z n a b → Differ z h u v → Within r a b u v
    rest true n h r u v e x y = omega arith
    rest false n h r u v e x y = omega arith

-- the error is a part in 2 ^ (prec - 1) at most
pub relative : (f : Format) (M : ℕ) → M < low f + suc (emax f) → (a b c d : ℕ) → Within (2 ^ M) a b 0 0 → Nearest f a b c d
    → dist (a + d) (b + c) * 2 ^ (prec f - 1) ≤ dist a b
relative f M room a b c d W N =
    let p = prec f in
    let n = dist a b in
    let j = size n - p in
    let small : n < 2 ^ (p + j) = lt_of_lt_of_le (size-lt n) (pow_mono (omega arith)) in
    le_trans (mul-le-mul_right (2 ^ (p - 1)) (omega (arith, close f M j a b c d room W small N))) (place p n (two-le_pos p (two f)))
  where
    place : (p n : ℕ) → 0 < p → n % 2 ^ (size n - p) * 2 ^ (p - 1) ≤ n
    place p n P = elim (eq-zero-or-pos (size n - p)) [
      | inl e ↦ let z : n % 2 ^ (size n - p) ≡ 0 = rw e (mod-one n) in omega (arith, ap (λ (y : ℕ). y * 2 ^ (p - 1)) z)
      | inr l ↦ le_trans (mul-le-mul_right (2 ^ (p - 1)) (le_of_lt (mod-lt n (pow_pos (size n - p)))))
          (le_trans (le_of_eq (sym (pow-add 2 (size n - p) (p - 1)))) (size_reaches n (size n - p + (p - 1)) (omega arith)))
    ]
