-- x - x is a number just where x is finite, since a sum of two finite numbers is never NaN. Assumes nothing.
use Prim.Native.Nat.{ℕ, zero, suc, ◌+◌, ◌-◌, ◌*◌, ◌^◌}
use mathlib.Core.Bool.{Bool, true, false, not, cond, beq, ◌&&◌}
use mathlib.Core.Path.{◌≡◌, refl, ap}
use lib.Dec.{ltb}
use lib.Ieee.{Float, nan, inf, fin, Format, binary64, odd, units, round, sum, add, sub, neg, is_nan, up, down, low, prec, emax}
use lib.Ieee.Scale.{finite}

odd_number : (d : ℕ) (s : Bool) (q k l : ℕ) → is_nan (odd d s q k l) ≡ false
unfolding odd is_nan
odd_number d s zero k l = refl
odd_number d s (suc q) k l = refl

either_number : (b : Bool) (x y : Float) → is_nan x ≡ false → is_nan y ≡ false → is_nan (cond b x y) ≡ false
either_number true x y p q = p
either_number false x y p q = q

infinity_number : (s : Bool) → is_nan (inf s) ≡ false
unfolding is_nan
infinity_number s = refl

units_number : (f : Format) (s : Bool) (q k : ℕ) → is_nan (units f s q k) ≡ false
unfolding units
units_number f s q k =
    either_number (ltb (q * 2 ^ k) (2 ^ (low f + suc (emax f)))) (odd (suc (prec f)) s q k (low f)) (inf s) (odd_number (suc (prec f)) s q k (low f))
    (infinity_number s)

round_number : (f : Format) (s : Bool) (a b : ℕ) → is_nan (round f s a b) ≡ false
unfolding round
round_number f s a b = units_number f s _ _

sum_number : (f : Format) (s : Bool) (a : ℕ) (t : Bool) (b c : ℕ) → is_nan (sum f s a t b c) ≡ false
unfolding sum
sum_number f s a t b c =
    let same = round_number f s (a + b) c in
    let less = round_number f t (b - a) c in
    let more = round_number f (s && ltb b a) (a - b) c in
    either_number (beq s t) (round f s (a + b) c) (cond (ltb a b) (round f t (b - a) c) (round f (s && ltb b a) (a - b) c)) same
    (either_number (ltb a b) (round f t (b - a) c) (round f (s && ltb b a) (a - b) c) less more)

pub difference_number : (x : Float) → not (is_nan (sub binary64 x x)) ≡ finite x
unfolding sub add neg is_nan
difference_number nan = refl
difference_number (inf true) = refl
difference_number (inf false) = refl
difference_number (fin s m e) = ap not (sum_number binary64 s (m * up e * down e) (not s) (m * up e * down e) (down e * down e))
