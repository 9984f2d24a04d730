-- `probabilities::add_squares` meets its contract: one square more in each turn. Assumes nothing.
-- Stays: what two answers take by a `let` is of the goal's own record `c`; a lemma would take each of its parts as an argument.
use Prim.Native.Nat.{◌-◌, ◌<◌}
use native.Mathlib.Omega.{arith}
use Rattle.std.proofs.Common.{length-take, length-append}
use mathlib.Core.Path.{◌≡◌}
use lib.Ieee.{nan}
use lib.ListN.{length, take, drop}
use Rattle.std.proofs.lemmas.Slice.Zip.{zip_turn, zip_end}
use Rattle.probabilities.proofs.Sums.{added_none, added_more, added_all}
use Rattle.probabilities.proofs.add_squares.Goals as goal

pub loop-x-init : goal.loop-x-init
loop-x-init c = added_none _ _ _

pub loop-x-preserved : goal.loop-x-preserved
loop-x-preserved c =
    let n = c.args.to - c.args.from in
    let first : c.into_iter-x-iterator.result.a.rest.now ≡ take n (drop c.args.from c.args.reals.now) = cc in
    let second : c.into_iter-x-iterator.result.b.rest.now ≡ take n (drop c.args.from c.args.imags.now) = cc in
    let t = zip_turn _ _ _ c.into_iter-x-iterator.result c.loop-x.x-iterator c.next.new.self c.next.result first second c.loop-x.yielded_by _ c.in-Some.is
    c.next.ensures.steps in
    let within : length c.loop-x.yielded < n = omega (arith, t.0, length-take n (drop c.args.from c.args.reals.now)) in
    rw length-append (added_more _ _ c.args.from n _ _ within (t.2 nan) (t.3 nan) c.loop-x.invariant)

pub returns : goal.returns
returns c =
    let n = c.args.to - c.args.from in
    let first : c.into_iter-x-iterator.result.a.rest.now ≡ take n (drop c.args.from c.args.reals.now) = cc in
    let second : c.into_iter-x-iterator.result.b.rest.now ≡ take n (drop c.args.from c.args.imags.now) = cc in
    let end = zip_end _ _ _ c.into_iter-x-iterator.result c.loop-x.x-iterator c.next.new.self c.next.result first second c.loop-x.yielded_by c.in-None.is
    c.next.ensures.steps in
    added_all _ c.args.reals.now c.args.imags.now _ _ _ _ c.requires.order c.requires.reals c.requires.imags end c.loop-x.invariant
