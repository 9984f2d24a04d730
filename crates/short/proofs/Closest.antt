-- What follows where c - d is as near to a - b as any count that the format holds: it is a - b where that is held, or where c - d is nothing; and between it
-- and another held count a - b lies on its side of the middle. Assumes nothing.
use mathlib.Core.Path.{◌≡◌, sym, ap, ◌∙◌, subst}
use mathlib.Core.Logic.{◌⊎◌, inl, inr}
use Prim.Native.Nat.{ℕ, suc, ◌+◌, ◌-◌, ◌*◌, ◌^◌, ◌≤◌, ◌<◌, zero-le}
use native.Mathlib.Nat.{mul_assoc, le_of_lt}
use native.Mathlib.Decide.{dec_le}
use native.Mathlib.Omega.{arith}
use mathlib.Core.Bool.{Bool, beq}
use lib.Dec.{T, lit≤}
use lib.Pow.{pow-add, pow_pos, pow-lt}
use lib.Ieee.{Float, Format, binary32, binary64, prec, emax, low, fits}
use Rattle.numbers.proofs.Grid.{dist}
use Rattle.numbers.proofs.Counts.{counted, finite_of}
use Rattle.exact.specs.Signed.{Is, Rounds, Held, Within, Nearest}
use Rattle.exact.proofs.SignedLaws.{either_side, size_is, one_value, again_rounds}
use Rattle.exact.proofs.Nearest.{rounded, again_nearest}

-- ---- held counts
pub lowered : (q k z : ℕ) → k ≤ z → q * 2 ^ z ≡ q * 2 ^ (z - k) * 2 ^ k
lowered q k z h = ap (λ (y : ℕ). q * y) (ap (λ (y : ℕ). 2 ^ y) (omega arith) ∙ pow-add 2 (z - k) k) ∙ sym (mul_assoc q (2 ^ (z - k)) (2 ^ k))

-- a count of no more than 2 ^ prec, on either side of zero
low_held : (f : Format) (a b n : ℕ) → (a ≡ b + n) ⊎ (b ≡ a + n) → n ≤ 2 ^ prec f → Held f a b
low_held f a b n e l = record {
  head = n;
  zeros = 0;
  gap = elim e [ inl h ↦ inl (omega arith) | inr h ↦ inr (omega arith) ];
  few = l;
  under = omega (arith, pow-lt (room f));
}
  where
    room : (f : Format) → prec f < low f + suc (emax f)
    room binary32 = lit≤ tt
    room binary64 = lit≤ tt

pub float_held : (f : Format) (x : Float) (s : Bool) (a b : ℕ) → T (fits f x) → Is f x s a b → Held f a b
float_held f x s a b t h =
    let c = counted f x (t, finite_of x h.sgn h.mag (2 ^ low f) h.has) in
    let e = (one_value x h.sgn _ h.mag c.count (2 ^ low f) h.has c.has).1 ∙ c.short.is in
    record {
      head = c.short.head;
      zeros = c.short.zeros;
      gap = subst (λ (n : ℕ). (a ≡ b + n) ⊎ (b ≡ a + n)) e (either_side (beq h.sgn s) h.mag a b h.gap);
      few = le_of_lt c.short.few;
      under = rw c.short.is at c.under;
    }

pub mag_is : {f : Format} {x : Float} {s : Bool} {a b : ℕ} (i : Is f x s a b) → dist a b ≡ i.mag
mag_is {s = s} {a} {b} i = size_is (beq i.sgn s) i.mag a b i.gap

-- ---- what x is, which rounds a - b
pub record Kept (f : Format) (x : Float) (s : Bool) (a b : ℕ) : Type 0 where
  pub c : ℕ
  pub d : ℕ
  pub is : Is f x s c d
  pub near : Nearest f a b c d

pub kept : {f : Format} {x : Float} {s : Bool} {a b : ℕ} (M : ℕ) → Rounds f x s a b → Within (2 ^ M) a b 0 0 → M + 8 + prec f < low f + suc (emax f)
    → Kept f x s a b
kept {f} {x} {s} {a} {b} M R W room =
    let r = rounded 0 a b (2 ^ M) (again_rounds R (omega arith)) W (omega (arith, pow-add 2 M 1, pow-lt {i = M + 1} {j = low f + suc (emax f)} (omega arith)))
    (omega arith) in
    record {
      c = r.c * 2 ^ 0;
      d = r.d * 2 ^ 0;
      is = r.is;
      near = again_nearest (a * 2 ^ 0) (b * 2 ^ 0) (r.c * 2 ^ 0) (r.d * 2 ^ 0) a b (r.c * 2 ^ 0) (r.d * 2 ^ 0) r.near.near (omega arith) (omega arith);
    }

-- ---- the nearest
module _ (f : Format) (a b c d : ℕ) (near : Nearest f a b c d) where
  pub exactly : Held f a b → a + d ≡ b + c
  exactly h = let w = near 0 a b h (omega arith) in omega arith

  -- what is lost is no more than all
  pub lost_le : Within (dist a b) a b c d
  lost_le = near (dist a b) 0 0 (low_held f 0 0 0 (inl (omega arith)) zero-le) (omega arith)

  -- ---- u - v is held too, and lies below c - d, or above it
  module _ (u v : ℕ) (H : Held f u v) where
    pub nearer_above : u + d < v + c → u + c + (b + b) ≤ v + d + (a + a)
    nearer_above l = let w = near (dist (a + v) (b + u)) u v H (omega arith) in omega arith

    pub nearer_below : v + c < u + d → v + d + (a + a) ≤ u + c + (b + b)
    nearer_below l = let w = near (dist (a + v) (b + u)) u v H (omega arith) in omega arith

    -- a - b stays on its side of u - v
    pub stays_above : u + b ≤ v + a → u + d ≤ v + c
    stays_above l = elim (dec_le (u + d) (v + c)) [ yes h ↦ h | no h ↦ let w = nearer_below (omega arith) in absurd (omega arith) ]

    pub stays_below : v + a ≤ u + b → v + c ≤ u + d
    stays_below l = elim (dec_le (v + c) (u + d)) [ yes h ↦ h | no h ↦ let w = nearer_above (omega arith) in absurd (omega arith) ]

  -- nothing comes of nothing alone: 1 is held
  pub nothing : dist c d ≡ 0 → a ≡ b
  nothing e =
      let one : 1 ≤ 2 ^ prec f = pow_pos (prec f) in
      let p = low_held f 1 0 1 (inl (omega arith)) one in
      let m = low_held f 0 1 1 (inr (omega arith)) one in
      elim (dec_le (b + 1) a) [
        | yes h ↦ absurd (omega (arith, stays_above 1 0 p (omega arith)))
        | no h ↦ elim (dec_le (a + 1) b) [ yes l ↦ absurd (omega (arith, stays_below 0 1 m (omega arith))) | no l ↦ omega arith ]
      ]

-- what is less is rounded to no more
pub in_order : (f : Format) (a b c d a' b' c' d' : ℕ) → Nearest f a b c d → Held f c d → Nearest f a' b' c' d' → Held f c' d' → a + b' < b + a'
    → c + d' ≤ d + c'
in_order f a b c d a' b' c' d' N H N' H' l = elim (dec_le (c + d') (d + c')) [
  | yes h ↦ h
  | no h ↦
      let x = nearer_above f a b c d N c' d' H' (omega arith) in
      let y = nearer_below f a' b' c' d' N' c d H (omega arith) in
      absurd (omega arith)
]
