-- The upper part of a number, from its bits: they are rounded as the significand is, and a carry goes on into the exponent. Assumes nothing.
use mathlib.Core.Path.{◌≡◌}
use Prim.Native.Nat.{ℕ, suc, ◌+◌, ◌*◌, ◌/◌, ◌^◌, ◌≤◌, ◌<◌}
use native.Mathlib.Omega.{arith}
use mathlib.Core.Bool.{Bool, true, false, not, cond}
use lib.Dec.{T}
use lib.Ieee.{Float, Format, binary32, binary64, prec, emax, low, hid, top, nan_bits, of_bits, to_bits}
use Rattle.exact.specs.Signed.{Within}
use Rattle.exact.specs.Window.{last, half}
use Rattle.exact.specs.Steps.{Near, Halved}
use Rattle.exact.proofs.Written.{bits_number, from_bits}

abbrev pub cut_at : Format → ℕ → ℕ
cut_at f q = (q + 2 ^ half f) / 2 ^ suc (half f) * 2 ^ suc (half f)

-- q, a significand of all its digits, is cut as the bits b are
record Cut (f : Format) (s : Bool) (b k q : ℕ) : Type 0 where
  bits : cut_at f b ≡ cond s (top f) 0 + (k * hid f + cut_at f q)
  few : cut_at f q ≤ 2 ^ prec f
  full : hid f ≤ cut_at f q
  beside : Within (2 ^ half f) q 0 (cut_at f q) 0
  room : prec f + suc k < low f + suc (emax f)

cut : (f : Format) (s : Bool) (b k q : ℕ) → b ≡ cond s (top f) 0 + (k * hid f + q) → q < 2 ^ prec f → hid f ≤ q → suc k < last f → Cut f s b k q
cut binary32 true b k q e h l m = omega arith
cut binary32 false b k q e h l m = omega arith
cut binary64 true b k q e h l m = omega arith
cut binary64 false b k q e h l m = omega arith

module _ (f : Format) (x : Float) (N : Near f x) where
  of_bits_lem : Cut f N.sgn (to_bits f x) N.k N.q
  of_bits_lem = cut f N.sgn (to_bits f x) N.k N.q N.bits N.few N.full N.most

  pub upper_number : T (not (nan_bits f (cut_at f (to_bits f x))))
  upper_number = let C = of_bits_lem in bits_number f N.sgn (cut_at f (to_bits f x)) N.k (cut_at f N.q) C.bits C.few C.room

  pub halved : Halved f x (of_bits f (cut_at f (to_bits f x)))
  halved =
      let C = of_bits_lem in
      record {
        near = N;
        upper = (N.q + 2 ^ half f) / 2 ^ suc (half f);
        has = from_bits f N.sgn (cut_at f (to_bits f x)) N.k (cut_at f N.q) C.bits C.few C.room C.full;
        few = C.few;
        beside = C.beside;
      }
