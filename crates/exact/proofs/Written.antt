-- A finite number as its bits have it: q * 2 ^ k smallest values, q having all its digits or k being 0. Assumes nothing.
use mathlib.Core.Path.{◌≡◌, sym, subst}
use mathlib.Core.Logic.{◌⊎◌, inl, inr}
use Prim.Native.Nat.{ℕ, suc, ◌+◌, ◌-◌, ◌*◌, ◌%◌, ◌^◌, ◌≤◌, ◌<◌}
use native.Mathlib.Nat.{mul-le-mul_right, le_trans, le_of_eq, le_of_lt, lt_of_le_of_lt, eq-zero-or-pos}
use native.Mathlib.Omega.{arith}
use mathlib.Core.Bool.{Bool, true, false, not, cond}
use lib.Arith.{le→nltb}
use lib.Dec.{T}
use lib.Pow.{pow-add, pow-lt}
use lib.Ieee.{Float, nan, inf, fin, Format, binary32, binary64, prec, emax, low, hid, ones, top, fits, is_nan, nan_bits, of_bits, to_bits}
use lib.Ieee.Bits.{nan_bits_above}
use lib.Ieee.Fits.{two, two-le_pos}
use lib.Ieee.Exact.{HasValue, units_val}
use lib.Ieee.Scale.{finite, overflow}
use Rattle.numbers.specs.Nearest.{sign}
use Rattle.numbers.proofs.Sizes.{pow_lt_back}
use Rattle.numbers.proofs.Grid.{canonical}
use Rattle.numbers.proofs.Counts.{counted}
use Rattle.numbers.proofs.BitsOf.{bits_of, bits_under}

pub record Written (f : Format) (x : Float) : Type 0 where
  pub sgn : Bool
  pub q : ℕ
  pub k : ℕ
  pub has : HasValue x sgn (q * 2 ^ k) (2 ^ low f)
  pub few : q < 2 ^ prec f
  pub full : 0 < k → hid f ≤ q
  pub bits : to_bits f x ≡ cond sgn (top f) 0 + (k * hid f + q)
  pub under : q * 2 ^ k < overflow f

pub written : (f : Format) (x : Float) → T (fits f x) → T (finite x) → Written f x
written f x h l =
    let c = counted f x (h, l) in
    let n = canonical (prec f) c.count (two-le_pos (prec f) (two f)) c.short in
    let has : HasValue x (sign x) (n.head * 2 ^ n.zeros) (2 ^ low f) = subst (λ (y : ℕ). HasValue x (sign x) y (2 ^ low f)) n.is c.has in
    record {
      sgn = sign x;
      q = n.head;
      k = n.zeros;
      has = has;
      few = n.few;
      full = n.full;
      bits = bits_of f x (sign x) n.head n.zeros (le_of_lt n.few) n.full has;
      under = subst (λ (y : ℕ). y < overflow f) n.is c.under;
    }

-- where its last digit stands, from its size
pub place_under : (f : Format) (q k M : ℕ) → (0 < k → hid f ≤ q) → q * 2 ^ k < 2 ^ M → (k ≡ 0) ⊎ (prec f - 1 + k < M)
place_under f q k M full h = elim (eq-zero-or-pos k) [
  | inl e ↦ inl e
  | inr l ↦ inr (pow_lt_back (prec f - 1 + k) M (lt_of_le_of_lt (le_trans (le_of_eq (pow-add 2 (prec f - 1) k)) (mul-le-mul_right (2 ^ k) (full l))) h))
]

-- ---- a number from its bits: q may be 2 ^ prec, where a digit is carried into the exponent
finite_bits : (f : Format) (s : Bool) (n k q : ℕ) → n ≡ cond s (top f) 0 + (k * hid f + q) → q ≤ 2 ^ prec f → prec f + suc k < low f + suc (emax f)
    → (k * hid f + q < ones f * hid f) × (n % top f ≤ ones f * hid f)
finite_bits binary32 true n k q e h l = omega arith
finite_bits binary32 false n k q e h l = omega arith
finite_bits binary64 true n k q e h l = omega arith
finite_bits binary64 false n k q e h l = omega arith

module _ (f : Format) (s : Bool) (n k q : ℕ) (is : n ≡ cond s (top f) 0 + (k * hid f + q)) (few : q ≤ 2 ^ prec f)
    (room : prec f + suc k < low f + suc (emax f)) where
  pub bits_number : T (not (nan_bits f n))
  bits_number = rw nan_bits_above (le→nltb (ones f * hid f) (n % top f) (finite_bits f s n k q is few room).1)

  pub from_bits : hid f ≤ q → HasValue (of_bits f n) s (q * 2 ^ k) (2 ^ low f)
  from_bits full = rw (is, bits_under f s q k few (λ l. full) (finite_bits f s n k q is few room).0) (units_val f s q k
      (lt_of_le_of_lt (le_trans (mul-le-mul_right (2 ^ k) few) (le_of_eq (sym (pow-add 2 (prec f) k)))) (pow-lt (omega arith))))

-- a number is no NaN
pub number : (x : Float) (s : Bool) (n L : ℕ) → HasValue x s n L → T (not (is_nan x))
unfolding is_nan
number nan s n L h = h
number (inf t) s n L h = tt
number (fin t m e) s n L h = tt
