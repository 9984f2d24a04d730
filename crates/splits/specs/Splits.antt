-- The upper parts that U's rule asks for. Definitions only. Assumes nothing.
use Rattle.std.specs.Prelude.{Bool, true, ◌≡◌, Float}
use Rattle.std.specs.Float.{binary64}
use Rattle.std.specs.Float.Ieee.{ne, of_bits}
use Rattle.exact.specs.Steps.{Halved, Under}
use Rattle.book.specs.Gates.{−◌, entry}
use Rattle.book.specs.declared.Matrix.{Matrix}
use Rattle.splits.specs.declared.Uppers.{Uppers}

-- an upper part that is there
abbrev pub some : Float → Bool
some h = ne h (of_bits binary64 0)

-- r is p, and the others are there
pub record AllThere (p q u v w e r : Float) : Type 0 where
  pub is : r ≡ p
  pub q_there : some q ≡ true
  pub u_there : some u ≡ true
  pub v_there : some v ≡ true
  pub w_there : some w ≡ true
  pub e_there : some e ≡ true

-- U's numbers are all split, and 2 at most in size where a term has them
pub record UWhole (m : Matrix) (h : Uppers) : Type 0 where
  pub p : Halved binary64 (entry m 0).re h.p
  pub q : Halved binary64 (entry m 1).re h.q
  pub u : Halved binary64 (entry m 2).re h.u
  pub v : Halved binary64 (entry m 2).im h.v
  pub w : Halved binary64 (− (entry m 2).im) h.w
  pub e : Halved binary64 (entry m 3).re h.e
  pub q_most : Under binary64 1 (entry m 1).re
  pub r_most : Under binary64 1 (entry m 1).im
  pub v_most : Under binary64 1 (entry m 2).im
  pub e_most : Under binary64 1 (entry m 3).re
  pub f_most : Under binary64 1 (entry m 3).im

abbrev pub USplit : Matrix → Uppers → Type 0
USplit m h = some h.p ≡ true → UWhole m h
