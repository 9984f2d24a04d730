-- A state of at most 11 qubits has at most 2,048 places, before the frames and behind them; and what was written is what the frames make.
use Rattle.std.proofs.Common.{ℕ, ◌-◌, ◌^◌, ◌≤◌, ◌∷◌, length, replicate, ap, arith}
use lib.ListN.{length-map, length-replicate}
use Rattle.book.specs.Answers.{Buffers}
use Rattle.book.specs.Examples.{whole}
use Rattle.first_state.proofs.First.{places}
use Rattle.program.specs.Program.{Run}
use Rattle.bench_run.specs.Turns.{Begins}
use Rattle.bench_run.proofs.Going.{goes_to_its_end}
use Rattle.bench_run.proofs.run_session.Goals as goal

short : {x : Run} {b : Buffers} → Begins x b → length b.reals ≤ 2048
short s =
    let n = s.n in
    let many = length-map (1 ∷ replicate (2 ^ n - 1) 0) whole in
    omega (arith, ap (λ (b : Buffers). length b.reals) s.state, many, length-replicate {A = ℕ} (2 ^ n - 1) 0, (places n s.few).0, (places n s.few).1)

pub write_closing-requires : goal.write_closing-requires
write_closing-requires g c = omega (arith, short c.requires, c.take_input.auto.reals)

pub returns-then-is_cut : goal.returns-then-is_cut
returns-then-is_cut g c = goes_to_its_end _ _ _ _ _ c.requires c.in_ok-end.ensures c.in_ok-write_closing.ensures

pub returns-else-is_cut : goal.returns-else-is_cut
returns-else-is_cut g c = goes_to_its_end _ _ _ _ _ c.requires c.in_ok-end.ensures c.in_ok-write_closing.ensures
