-- What the tests tell of a number, and of two. Definitions only. Assumes nothing.
use Rattle.std.specs.Prelude.{◌≡◌, ℕ, ◌+◌, ◌%◌, ◌<◌, true, Float}
use Rattle.std.specs.Float.{Format}
use Rattle.std.specs.Float.Ieee.{eq}
use Rattle.exact.specs.Window.{reach}
use Rattle.exact.specs.Steps.{Near, Under}
use Rattle.short.specs.declared.Sides.{Sides}

-- a number in the window that is 2 at most in size
pub record Modest (f : Format) (x : Float) : Type 0 where
  pub near : Near f x
  pub under : Under f 1 x

-- x lies r blocks above the window's start: two blocks are the window, the first of them ends at 2, and the last three are below it
pub record Block (f : Format) (x : Float) (r : ℕ) : Type 0 where
  pub few : r < 8
  pub near : r < 2 → Near f x
  pub term : (r + 3) % 8 < 5 → Under f (reach f) x
  pub unit : (r + 3) % 8 < 4 → Under f 1 x
  pub modest : r ≡ 0 → Modest f x

-- both sides are one number
abbrev pub Meet : Sides → Type 0
Meet r = eq r.left r.right ≡ true
