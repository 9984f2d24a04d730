-- `slow_pairs::on_pairs` meets its contract: judged, and then every index by the rule. Assumes nothing.
use Rattle.std.proofs.lemmas.Result.{err_from_is_err_and}
use Rattle.book.specs.Lent.{here, shown_here}
use Rattle.slow_pairs.proofs.Judged.{outputs, pair_size, pair_seat, pair_own, pair_reaches, pair_done}
use Rattle.slow_pairs.proofs.on_pairs.Goals as goal

pub returns-in_err-size : goal.returns-in_err-size
returns-in_err-size c =
    let p = err_from_is_err_and c.from_residual.result c.from_residual.ensures.1 in
    rw (p.1, p.2) (pair_size c.args.rule _ _ _ _ _ c.in_err-size.ensures)

pub returns-in_err-seat : goal.returns-in_err-seat
returns-in_err-seat c =
    let p = err_from_is_err_and c.from_residual-in_err-seat.result c.from_residual-in_err-seat.ensures.1 in
    rw (p.1, p.2) (pair_seat c.args.rule _ _ _ _ _ c.in_ok-size.ensures (rw c.most.ensures at c.in_err-seat.ensures))

pub returns-in_err-judge : goal.returns-in_err-judge
returns-in_err-judge c =
    let p = err_from_is_err_and c.from_residual-in_err-judge.result c.from_residual-in_err-judge.ensures.1 in
    rw (p.1, p.2)
    (pair_own c.args.rule _ _ _ _ _ c.in_ok-size.ensures (rw c.most.ensures at c.in_ok-seat.ensures) c.in_err-judge.ensures)

pub fill_pairs-requires : goal.fill_pairs-requires
fill_pairs-requires c =
    let a = c.args in
    let seated = rw c.most.ensures at c.in_ok-seat.ensures in
    record {
      outputs = outputs _ _ c.in_ok-size.ensures;
      inputs = pair_reaches a.rule _ _ a.controls (shown_here a.sr a.si) (here a.reals a.imags) c.in_ok-size.ensures seated;
    }

pub returns : goal.returns
returns c =
    let made = c.fill_pairs.ensures in
    pair_done c.args.rule _ _ c.args.controls _ _ c.in_ok-size.ensures (rw c.most.ensures at c.in_ok-seat.ensures) c.in_ok-judge.ensures made.size made.places
