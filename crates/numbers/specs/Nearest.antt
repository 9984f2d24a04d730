-- What IEEE 754 asks of F and the root, said without a rounding: the answer is the value of the format that is nearest to the exact number, a tie the even one.
-- `Answers` gathers it, and proofs/Theorems.antt proves `Answers`. So nothing of how lib.Ieee rounds has to be trusted. Definitions only. Assumes nothing.
-- Where an operand of F is a NaN or an infinity nothing is rounded, and F's clauses in `Fused` are the rules themselves: a NaN makes a NaN, 0 times an infinity
-- and infinities of opposite signs make a NaN, and any other infinity stays. So it is with the root of a NaN, of an infinity, of a zero and of a number below
-- zero.
use Rattle.std.specs.Prelude.{◌≡◌, ℕ, zero, suc, ◌-◌, ◌*◌, ◌%◌, ◌^◌, ◌≤◌, ◌<◌, Bool, true}
use Rattle.std.specs.Prelude.{false, ◌&&◌, cond, ℤ, pos, negsuc, neg_ℤ, nat_abs, ◌+ℤ◌, ◌-ℤ◌, ◌*ℤ◌, T, Float}
use Rattle.std.specs.Float.{nan, inf, fin, Format}
use Rattle.std.specs.Float.Ieee.{prec, emax, unlike, lt, ne, fits, to_bits}
use Rattle.std.specs.Float.Ieee.Positive.{num, den, positive}
use Rattle.std.specs.Float.Ieee.Scale.{finite}
use Rattle.numbers.specs.Fused.{fused, root}

-- ---- a finite x is the signed fraction `over x` / den x
abbrev pub sign : Float → Bool
sign nan = false
sign (inf s) = s
sign (fin s m e) = s

abbrev pub signed : Bool → ℕ → ℤ
signed s n = cond s (neg_ℤ (pos n)) (pos n)

abbrev pub over : Float → ℤ
over x = signed (sign x) (num x)

-- a finite number that the format f holds
abbrev pub Value : Format → Float → Type 0
Value f v = T (fits f v) × T (finite v)

-- its significand is even: the last of its bits is 0
abbrev pub Even : Format → Float → Type 0
Even f v = to_bits f v % 2 ≡ 0

-- ---- r is the value of f nearest to some exact number of the sign s. `AsNear r v` says that r is as near to that number as v is, or nearer.
pub record Nearest (f : Format) (AsNear : Float → Float → Type 0) (s : Bool) (r : Float) : Type 0 where
  -- it is a value of the format
  pub value : Value f r
  -- no other lies nearer
  pub near : (v : Float) → Value f v → AsNear r v
  -- where another number lies as near, r is the even one
  pub even : (v : Float) → Value f v → AsNear v r → T (ne v r) → Even f r
  -- a zero has the exact number's sign
  pub signed_zero : num r ≡ 0 → sign r ≡ s

-- ---- as near to a / c: the distance from a / c to x is distance a c x / (c * den x)
abbrev pub distance : ℤ → ℕ → Float → ℕ
distance a c x = nat_abs (a *ℤ pos (den x) -ℤ over x *ℤ pos c)

abbrev pub Near : ℤ → ℕ → Float → Float → Type 0
Near a c r v = distance a c r * den v ≤ distance a c v * den r

-- ---- as near to the root of n / c: where r is below v the root is at most the middle between them, and where r is above v it is at least that.
-- The middle is twice r v / (2 * den r * den v), or below zero where twice r v is 0, and the squares are compared.
abbrev pub at_least_zero : ℤ → ℕ
at_least_zero (pos n) = n
at_least_zero (negsuc n) = 0

abbrev pub twice : Float → Float → ℕ
twice r v = at_least_zero (over r *ℤ pos (den v) +ℤ over v *ℤ pos (den r))

abbrev pub NearRoot : ℕ → ℕ → Float → Float → Type 0
NearRoot n c r v =
    (T (lt r v) → 4 * n * (den r * den v * (den r * den v)) ≤ twice r v * twice r v * c)
    × (T (lt v r) → twice r v * twice r v * c ≤ 4 * n * (den r * den v * (den r * den v)))

-- ---- the exact xy+z is exact x y z / divisor x y z
abbrev pub exact : Float → Float → Float → ℤ
exact x y z = over x *ℤ over y *ℤ pos (den z) +ℤ over z *ℤ pos (den x * den y)

abbrev pub divisor : Float → Float → Float → ℕ
divisor x y z = den x * den y * den z

-- its sign: an exact zero is -0 where both xy and z have a minus, and +0 otherwise
abbrev pub sign_of : ℤ → Bool → Bool
sign_of (pos zero) both = both
sign_of (pos (suc n)) both = false
sign_of (negsuc n) both = true

abbrev pub exact_sign : Float → Float → Float → Bool
exact_sign x y z = sign_of (exact x y z) (unlike (sign x) (sign y) && sign z)

-- ---- the middle between the format's largest number and 2 ^ (emax + 1): from here on it is an infinity
abbrev pub limit : Format → ℕ
limit f = 2 ^ suc (emax f) - 2 ^ (emax f - prec f)

-- ---- the theorems
pub record Answers : Type 0 where
  -- F of finite numbers, below the limit: the nearest value; and from the limit on: the infinity of the exact sign
  pub fused_nearest : (f : Format) (x y z : Float) → T (finite x) → T (finite y) → T (finite z) → nat_abs (exact x y z) < limit f * divisor x y z
      → Nearest f (Near (exact x y z) (divisor x y z)) (exact_sign x y z) (fused f x y z)
  pub fused_over : (f : Format) (x y z : Float) → T (finite x) → T (finite y) → T (finite z) → limit f * divisor x y z ≤ nat_abs (exact x y z)
      → fused f x y z ≡ inf (exact_sign x y z)
  -- the root of a value above zero: the nearest value, which is never an infinity; and a zero is its own root
  pub root_nearest : (f : Format) (x : Float) → Value f x → T (positive x) → Nearest f (NearRoot (num x) (den x)) false (root f x)
  pub root_zero : (f : Format) (x : Float) → T (finite x) → num x ≡ 0 → root f x ≡ x
  -- no two values are nearest to one number, so that each answer is pinned down
  pub fused_only : (f : Format) (a : ℤ) (c : ℕ) (s : Bool) (r r' : Float) → 0 < c → Nearest f (Near a c) s r → Nearest f (Near a c) s r' → r ≡ r'
  pub root_only : (f : Format) (n c : ℕ) (s : Bool) (r r' : Float) → 0 < n → 0 < c → Nearest f (NearRoot n c) s r → Nearest f (NearRoot n c) s r' → r ≡ r'
