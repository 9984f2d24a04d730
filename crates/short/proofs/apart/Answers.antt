-- `short::apart` meets its contract. Assumes nothing.
-- Stays: what two answers take by a `let` is of the goal's own record `c`; a lemma would take each of its parts as an argument.
use mathlib.Core.Path.{sym, subst}
use Prim.Native.Nat.{ℕ, ◌+◌, ◌*◌, ◌/◌, ◌^◌, ◌<◌}
use native.Mathlib.Omega.{arith}
use lib.Dec.{T}
use lib.Ieee.{binary64, top, fits, to_bits}
use lib.Ieee.Bits.{to_bits-lt}
use Rattle.short.proofs.Tests.{block}
use Rattle.short.proofs.apart.Goals as goal

room : (b : ℕ) → b < 2 * top binary64 → b / 2 ^ 60 + 5 < 2 ^ 64
room b h = omega arith

pub overflow_add-result : goal.overflow_add-result
overflow_add-result c = let held : (T (fits binary64 c.args.x)) = subst T (sym c.well_formed.0.1) tt in
    omega (arith, room (to_bits binary64 c.args.x) (to_bits-lt binary64 c.args.x held))

pub returns : goal.returns
returns c = let held : (T (fits binary64 c.args.x)) = subst T (sym c.well_formed.0.1) tt in
    block binary64 c.args.x held c.requires
