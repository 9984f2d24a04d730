-- `unitaries::from_single_qubit_gate` meets its contract: its tests in order, and then the loop. Assumes nothing.
use Rattle.std.proofs.lemmas.Result.{err_from_is_err_and}
use Rattle.unitaries.proofs.Judged.{gate_size, gate_length, gate_far, gate_number, gate_ready, gate_filled}
use Rattle.unitaries.proofs.from_single_qubit_gate.Goals as goal

pub returns-in_err-side : goal.returns-in_err-side
returns-in_err-side c =
    let p = err_from_is_err_and c.from_residual.result c.from_residual.ensures.1 in
    rw (p.1, p.2) (gate_size c.args.matrix _ _ _ c.in_err-side.ensures)

pub returns-in_err-length : goal.returns-in_err-length
returns-in_err-length c =
    let p = err_from_is_err_and c.from_residual-in_err-length.result c.from_residual-in_err-length.ensures.1 in
    rw (p.1, p.2) (gate_length c.args.matrix _ _ _ c.in_ok-side.ensures c.in_err-length.ensures)

pub returns-then-n-target : goal.returns-then-n-target
returns-then-n-target c = gate_far c.args.matrix _ _ _ c.in_ok-side.ensures c.in_ok-length.ensures c.if-n-target.true

pub returns-in_err-own : goal.returns-in_err-own
returns-in_err-own c =
    let p = err_from_is_err_and c.from_residual-in_err-own.result c.from_residual-in_err-own.ensures.1 in
    rw (p.1, p.2) (gate_number c.args.matrix _ _ _ c.in_ok-side.ensures c.in_ok-length.ensures c.if-n-target.false c.in_err-own.ensures)

pub fill_crossings-requires : goal.fill_crossings-requires
fill_crossings-requires c = gate_ready c.args.matrix _ _ _ c.in_ok-side.ensures c.in_ok-length.ensures c.if-n-target.false

pub returns : goal.returns
returns c = gate_filled c.args.matrix _ _ _ c.in_ok-side.ensures c.in_ok-length.ensures c.if-n-target.false c.in_ok-own.ensures c.fill_crossings.ensures
