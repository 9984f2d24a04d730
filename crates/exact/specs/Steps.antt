-- What the steps hand on. Definitions only. Assumes nothing.
use Rattle.std.specs.Prelude.{◌≡◌, ℕ, suc, ◌+◌, ◌*◌, ◌^◌, ◌≤◌, ◌<◌, Bool, cond, T, Float}
use Rattle.std.specs.Float.{Format}
use Rattle.std.specs.Float.Ieee.{prec, low, hid, top, unlike, add, sub, mul, fits, to_bits}
use Rattle.std.specs.Float.Ieee.Exact.{HasValue}
use Rattle.exact.specs.Signed.{Is, Within, Nearest}
use Rattle.exact.specs.Window.{first, last, half, widest}

-- a number in the window: normal, and its exponent's field is suc k
pub record Near (f : Format) (x : Float) : Type 0 where
  pub sgn : Bool
  pub q : ℕ
  pub k : ℕ
  pub has : HasValue x sgn (q * 2 ^ k) (2 ^ low f)
  pub few : q < 2 ^ prec f
  pub full : hid f ≤ q
  pub bits : to_bits f x ≡ cond sgn (top f) 0 + (k * hid f + q)
  pub least : first f ≤ suc k
  pub most : suc k < last f

-- a number that is 2 ^ j at most in size
pub record Under (f : Format) (j : ℕ) (x : Float) : Type 0 where
  pub sgn : Bool
  pub n : ℕ
  pub has : HasValue x sgn n (2 ^ low f)
  pub most : n ≤ 2 ^ (low f + j)

-- r is the upper part of x, which is in the window: x is m units and r is h of them, a multiple of 2 ^ suc half that is near to m
pub record Halved (f : Format) (x r : Float) : Type 0 where
  pub near : Near f x
  pub upper : ℕ
  pub has : HasValue r near.sgn (upper * 2 ^ suc (half f) * 2 ^ near.k) (2 ^ low f)
  pub few : upper * 2 ^ suc (half f) ≤ 2 ^ prec f
  pub beside : Within (2 ^ half f) near.q 0 (upper * 2 ^ suc (half f)) 0

-- e is what the product of x and y, rounded, lacks: it is n smallest values exactly, very many of them, and g rounded
pub record Multiplied (f : Format) (x y e : Float) : Type 0 where
  pub s : Bool
  pub t : Bool
  pub a : ℕ
  pub b : ℕ
  pub has_x : HasValue x s a (2 ^ low f)
  pub has_y : HasValue y t b (2 ^ low f)
  pub n : ℕ
  pub product : a * b ≡ n * 2 ^ low f
  pub least : 2 ^ (3 * prec f) ≤ n
  pub most : n < 2 ^ widest f
  pub g : ℕ
  pub is_p : Is f (mul f x y) (unlike s t) g 0
  pub is_e : Is f e (unlike s t) n g
  pub near : Nearest f n 0 g 0
  pub held : T (fits f e)

-- what s, the sum of a and b, has lost: Knuth's operations
abbrev pub lost : Format → Float → Float → Float → Float
lost f a b s = add f (sub f a (sub f s (sub f s a))) (sub f b (sub f s a))
