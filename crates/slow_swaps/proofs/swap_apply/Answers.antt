-- `slow_swaps::swap_apply` meets its contract: judged by the higher qubit, and then every index from the one with its bits exchanged. Assumes nothing.
use Prim.Native.Nat.{ℕ, ◌^◌, ◌<◌}
use Rattle.std.proofs.Common.{rules}
use Rattle.std.proofs.lemmas.Result.{err_from_is_err_and}
use Rattle.book.specs.Lent.{here, shown_here}
use Rattle.slow.specs.Slow.{Reaches}
use Rattle.slow_swaps.proofs.Judged.{outputs, swap_kept, swap_reaches, swap_done}
use Rattle.slow_swaps.proofs.swap_apply.Goals as goal

pub returns-in_err-judge : goal.returns-in_err-judge
returns-in_err-judge c =
    let p = err_from_is_err_and c.from_residual.result c.from_residual.ensures.1 in
    rw (p.1, p.2) (swap_kept _ c.args.t0 c.args.t1 _ _ (rw c.max.ensures at c.in_err-judge.ensures))

pub fill-requires : goal.fill-requires
fill-requires c =
    let a = c.args in
    let reach : (i : ℕ) → i < 2 ^ a.n → Reaches a.t0 a.t1 (shown_here a.sr a.si) i =
    swap_reaches _ a.t0 a.t1 (shown_here a.sr a.si) (here a.reals a.imags) (rw c.max.ensures at c.in_ok-judge.ensures) in
    record { outputs = outputs _ _ (shown_here a.sr a.si) _ c.in_ok-judge.ensures; each = search (rules, reach) }

pub returns : goal.returns
returns c =
    swap_done _ c.args.t0 c.args.t1 _ _ (rw c.max.ensures at c.in_ok-judge.ensures) c.fill.ensures.size
    (λ i h. let k = c.fill.ensures.places i h in search rules)
