use Rattle.std.proofs.Common.{refl, rules}
use Rattle.bench_run.proofs.Going.{goes_none, goes_then}
use Rattle.bench_run.proofs.take_input.Goals as goal

pub loop-turn-init : goal.loop-turn-init
loop-turn-init g c = (refl, refl, goes_none _ _ _ _ (search rules))

pub loop-turn-preserved : goal.loop-turn-preserved
loop-turn-preserved g c =
    let turn = c.take_turn-turn.ensures in
    (search rules, search rules, goes_then _ _ _ _ _ _ (search rules) c.loop-turn.invariant.2 turn.reads turn.writes c.in_ok-write_all.ensures.bytes)

-- behind the end of the input, and behind a wrong tag
pub returns-then-turn-eq0 : goal.returns-then-turn-eq0
returns-then-turn-eq0 g c =
    let turn = c.take_turn-turn.ensures in
    goes_then _ _ _ _ _ _ (search rules) c.loop-turn.invariant.2 turn.reads turn.writes c.in_ok-write_all.ensures.bytes
