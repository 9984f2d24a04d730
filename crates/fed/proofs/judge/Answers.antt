-- `fed::judge` meets its contract: a seat that is refused stays so, and else the gate's own tests decide. Assumes nothing.
use Prim.Native.Nat.{ℕ}
use mathlib.Core.List.{List, ◌++◌}
use lib.Dec.{T}
use Rattle.std.specs.Prelude.{Ok, Err}
use Rattle.std.specs.Result.{result_and}
use Rattle.book.proofs.Refusals.{numbered}
use Rattle.book.specs.Answers.{Test, Buffers}
use Rattle.book.specs.Kernels.{size_tests, seat_tests}
use Rattle.book.specs.Lent.{shown_here}
use Rattle.book.specs.declared.Controls.{Controls}
use Rattle.seated.proofs.Judged.{seat_refused, own_decides}
use Rattle.seated.specs.Judging.{Ruling, Judges}
use Rattle.fed.proofs.judge.Goals as goal

module _ (most n t : ℕ) (c : Controls) (b : Buffers) (own : List Test) where
  seats_numbered : T (numbered (size_tests n b ++ seat_tests most n t c))
  unfolding size_tests seat_tests
  seats_numbered = tt

  abbrev Seat : Ruling → Type 0
  Seat = Judges (size_tests n b ++ seat_tests most n t c)

  abbrev All : Ruling → Type 0
  All = Judges (size_tests n b ++ (seat_tests most n t c ++ own))

  both : (s : Ruling) {o : Ruling} → Seat s → Judges own o → All (result_and s o)
  both (Ok u) j k = own_decides (size_tests n b) (seat_tests most n t c) own seats_numbered j k
  both (Err r) j k = seat_refused (size_tests n b) (seat_tests most n t c) own seats_numbered j

pub returns : goal.returns
returns g c =
    let a = c.args in
    rw c.and.ensures
    (both g.G.Fed.MOST a.n a.target a.controls (shown_here a.reals a.imags) (g.G.Fed.own a.gate) c.seat-seat.result
    (rw c.MOST.ensures at c.seat-seat.ensures) c.own-own.ensures)
