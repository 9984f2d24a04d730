-- The code's tests. A NaN among the operands of a sum makes a NaN; and the blocks of exponents that the bits of a number begin with say whether it
-- is in the window, and how large it is at most. Assumes nothing.
use mathlib.Core.Path.{◌≡◌}
use mathlib.Core.Logic.{◌⊎◌, inl, inr}
use Prim.Native.Nat.{ℕ, suc, ◌+◌, ◌*◌, ◌/◌, ◌%◌, ◌^◌, ◌≤◌, ◌<◌}
use native.Mathlib.Nat.{le_of_lt, lt_of_lt_of_le, eq-zero-or-pos}
use native.Mathlib.Omega.{arith}
use mathlib.Core.Bool.{Bool, true, false, not, cond}
use lib.Dec.{T}
use lib.Pow.{pow_mono, shl_lt}
use lib.Ieee.{Float, nan, inf, fin, Format, binary32, binary64, prec, emax, low, hid, top, add, fits, is_nan, to_bits}
use lib.Ieee.Fits as Fits
use lib.Ieee.Scale.{finite}
use Rattle.exact.specs.Window.{first, last, reach}
use Rattle.exact.specs.Steps.{Near, Under}
use Rattle.exact.proofs.Written.{Written, written, place_under}
use Rattle.short.specs.Steps.{Block}

-- ---- a NaN among the operands makes a NaN
pub sum_numbers : (f : Format) (x y : Float) → T (not (is_nan (add f x y))) → T (not (is_nan x)) × T (not (is_nan y))
unfolding add is_nan
sum_numbers f nan nan h = absurd h
sum_numbers f nan (inf t) h = absurd h
sum_numbers f nan (fin t n d) h = absurd h
sum_numbers f (inf s) nan h = absurd h
sum_numbers f (inf s) (inf t) h = (tt, tt)
sum_numbers f (inf s) (fin t n d) h = (tt, tt)
sum_numbers f (fin s m e) nan h = absurd h
sum_numbers f (fin s m e) (inf t) h = (tt, tt)
sum_numbers f (fin s m e) (fin t n d) h = (tt, tt)

-- ---- the bits without the sign, b % top, by their block
abbrev pub apart : Format → ℕ → ℕ
apart f b = (b / (suc (emax f) / 4 * hid f) + 5) % 8

blocks : (f : Format) (b : ℕ) → (apart f b < 2 → (b % top f < (emax f + reach f) * hid f) × (first f * hid f ≤ b % top f))
    × ((apart f b + 3) % 8 < 5 → b % top f < (emax f + reach f) * hid f)
    × ((apart f b + 3) % 8 < 4 → (b % top f < (emax f + reach f) * hid f) × (b % top f < (emax f + 1) * hid f))
blocks binary32 b = (λ h. omega arith, λ h. omega arith, λ h. omega arith)
blocks binary64 b = (λ h. omega arith, λ h. omega arith, λ h. omega arith)

infinite : (f : Format) (s : Bool) → to_bits f (inf s) % top f < (emax f + reach f) * hid f → ⊥
unfolding to_bits
infinite binary32 true h = omega arith
infinite binary32 false h = omega arith
infinite binary64 true h = omega arith
infinite binary64 false h = omega arith

unsigned : (f : Format) (s : Bool) (b k q : ℕ) → b ≡ cond s (top f) 0 + (k * hid f + q) → prec f + k ≤ low f + suc (emax f) → q < 2 ^ prec f
    → b % top f ≡ k * hid f + q
unsigned binary32 true b k q e h l = omega arith
unsigned binary32 false b k q e h l = omega arith
unsigned binary64 true b k q e h l = omega arith
unsigned binary64 false b k q e h l = omega arith

place : (f : Format) (j k q : ℕ) → k * hid f + q < (emax f + j) * hid f → (k ≡ 0) ⊎ (hid f ≤ q) → prec f + k ≤ low f + j
place binary32 j k q h (inl e) = omega arith
place binary32 j k q h (inr l) = omega arith
place binary64 j k q h (inl e) = omega arith
place binary64 j k q h (inr l) = omega arith

in_window : (f : Format) (k q : ℕ) → first f * hid f ≤ k * hid f + q → k * hid f + q < (emax f + reach f) * hid f → q < 2 ^ prec f
    → (0 < k) × (first f ≤ suc k) × (hid f ≤ q → suc k < last f)
in_window binary32 k q a b c = (omega arith, omega arith, λ l. omega arith)
in_window binary64 k q a b c = (omega arith, omega arith, λ l. omega arith)

-- ---- a number by its block
module _ (f : Format) (x : Float) (F : T (fits f x)) (N : T (not (is_nan x))) where
  finite_low : to_bits f x % top f < (emax f + reach f) * hid f → T (finite x)
  finite_low = go x N
    where
      go : (x : Float) → T (not (is_nan x)) → to_bits f x % top f < (emax f + reach f) * hid f → T (finite x)
      go nan n h = unfold is_nan in n
      go (inf s) n h = infinite f s h
      go (fin s m e) n h = tt

  module _ (h : to_bits f x % top f < (emax f + reach f) * hid f) where
    W : Written f x
    W = written f x F (finite_low h)

    low_bits : to_bits f x % top f ≡ W.k * hid f + W.q
    low_bits = unsigned f W.sgn (to_bits f x) W.k W.q W.bits
        (elim (place_under f W.q W.k (low f + suc (emax f)) W.full W.under) [ inl e ↦ omega (arith, Fits.reach f) | inr l ↦ omega arith ]) W.few

    under : (j : ℕ) → to_bits f x % top f < (emax f + j) * hid f → Under f j x
    under j l = record {
      sgn = W.sgn;
      n = W.q * 2 ^ W.k;
      has = W.has;
      most = le_of_lt (lt_of_lt_of_le (shl_lt (prec f) W.k W.few) (pow_mono (place f j W.k W.q (rw low_bits at l) full)));
    }
      where
        full : (W.k ≡ 0) ⊎ (hid f ≤ W.q)
        full = elim (eq-zero-or-pos W.k) [ inl e ↦ inl e | inr l ↦ inr (W.full l) ]

    near : first f * hid f ≤ to_bits f x % top f → Near f x
    near l =
        let w = in_window f W.k W.q (rw low_bits at l) (rw low_bits at h) W.few in
        let full = W.full w.0 in
        record { sgn = W.sgn; q = W.q; k = W.k; has = W.has; few = W.few; full = full; bits = W.bits; least = w.1; most = w.2 full }

  pub block : Block f x (apart f (to_bits f x))
  block = record {
    few = omega arith;
    near = in_near;
    term = λ h. let b = (blocks f (to_bits f x)).1 h in under b (reach f) b;
    unit = in_unit;
    modest = λ e. record { near = in_near (omega arith); under = in_unit (omega arith) };
  }
    where
      in_near : apart f (to_bits f x) < 2 → Near f x
      in_near h = let b = (blocks f (to_bits f x)).0 h in near b.0 b.1

      in_unit : (apart f (to_bits f x) + 3) % 8 < 4 → Under f 1 x
      in_unit h = let b = (blocks f (to_bits f x)).2 h in under b.0 1 b.1
