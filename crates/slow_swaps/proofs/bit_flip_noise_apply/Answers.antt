-- `slow_swaps::bit_flip_noise_apply` meets its contract: judged with its two numbers, then X at every index, or the inputs copied. Assumes nothing.
-- Stays: what two answers take by a `let` is of the goal's own record `c`; a lemma would take each of its parts as an argument.
use mathlib.Core.Path.{sym, ◌∙◌}
use Rattle.std.proofs.Common.{rules}
use Rattle.std.proofs.lemmas.Result.{err_from_is_err_and}
use Rattle.book.specs.Lent.{here, shown_here}
use Rattle.slow.specs.Slow.{Sized}
use Rattle.slow_swaps.proofs.Judged.{outputs, inputs, flip_kept, flip_number, flip_reaches, flip_ran, flip_not}
use Rattle.slow_swaps.proofs.bit_flip_noise_apply.Goals as goal

pub returns-in_err-judge : goal.returns-in_err-judge
returns-in_err-judge c =
    let p = err_from_is_err_and c.from_residual.result c.from_residual.ensures.1 in
    rw (p.1, p.2) (flip_kept _ _ c.args.noise _ _ c.in_err-judge.ensures)

pub returns-in_err-numbers : goal.returns-in_err-numbers
returns-in_err-numbers c =
    let p = err_from_is_err_and c.from_residual-in_err-numbers.result c.from_residual-in_err-numbers.ensures.1 in
    rw (p.1, p.2) (flip_number _ _ c.args.noise _ _ c.in_ok-judge.ensures c.in_err-numbers.ensures)

pub fill_pairs-requires : goal.fill_pairs-requires
fill_pairs-requires c =
    let a = c.args in
    record {
      outputs = outputs _ _ (shown_here a.sr a.si) _ c.in_ok-judge.ensures;
      inputs = flip_reaches _ _ a.noise (shown_here a.sr a.si) (here a.reals a.imags) c.in_ok-judge.ensures;
    }

pub returns-then-noise : goal.returns-then-noise
returns-then-noise c =
    let made = c.fill_pairs.ensures in
    flip_ran _ _ c.args.noise _ _ c.in_ok-judge.ensures c.in_ok-numbers.ensures c.if-noise.true made.size
    (λ i h. let k = made.places i h in search (rules, c.of.ensures))

pub copy-requires : goal.copy-requires
copy-requires c =
    let a = c.args in
    let i : Sized a.n (shown_here a.sr a.si) = inputs _ _ _ (here a.reals a.imags) c.in_ok-judge.ensures in
    let o : Sized a.n (here a.reals a.imags) = outputs _ _ (shown_here a.sr a.si) _ c.in_ok-judge.ensures in
    i.reals ∙ sym o.reals

pub copy-requires-2 : goal.copy-requires-2
copy-requires-2 c =
    let a = c.args in
    let i : Sized a.n (shown_here a.sr a.si) = inputs _ _ _ (here a.reals a.imags) c.in_ok-judge.ensures in
    let o : Sized a.n (here a.reals a.imags) = outputs _ _ (shown_here a.sr a.si) _ c.in_ok-judge.ensures in
    i.imags ∙ sym o.imags

pub returns : goal.returns
returns c =
    rw (c.copy.ensures, c.copy-2.ensures)
    (flip_not _ _ c.args.noise _ _ c.in_ok-judge.ensures c.in_ok-numbers.ensures c.if-noise.false)
