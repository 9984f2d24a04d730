-- A gate's call that its judge let pass, in the code's terms: what holds of it, and what a sweep then asks and leaves. Assumes nothing.
use Prim.Native.Nat.{ℕ, ◌+◌, ◌^◌, ◌<◌}
use mathlib.Core.List.{List, ◌++◌}
use mathlib.Core.Path.{◌≡◌}
use native.Mathlib.Omega.{arith}
use Rattle.std.specs.Prelude.{Ok}
use Rattle.book.specs.Answers.{Test, Buffers}
use Rattle.book.specs.Kernels.{size_tests, seat_tests}
use Rattle.book.specs.State.{on_pairs}
use Rattle.book.specs.declared.Controls.{Controls}
use Rattle.book.specs.declared.Pair.{Pair}
use Rattle.seated.proofs.Judged.{passed}
use Rattle.seated.proofs.Seats.{seated}
use Rattle.seated.proofs.Shifts.{shl, shl_is, pow_le}
use Rattle.seated.specs.Judging.{Judges, Seated}
use Rattle.pairs.specs.Pairs.{Keyed, Swept}
use Rattle.pairs.proofs.Chosen.{keyed, swept_gate}

pub gate_seated : (most n t : ℕ) (c : Controls) (b : Buffers) (own : List Test) {u : Unit}
    → Judges (size_tests n b ++ (seat_tests most n t c ++ own)) (Ok u) → Seated n t c b
gate_seated most n t c b own j = seated most n t c b own (passed j)

-- ---- what a sweep asks and leaves

module _ {n t : ℕ} {c : Controls} {b : Buffers} (ok : Seated n t c b) where
  bit_is : shl t ≡ 2 ^ t
  bit_is = shl_is t (omega (arith, ok.qubit, ok.fits))

  -- the fixed bits fit
  pub gate_small : c.ones + shl t < 2 ^ 25
  gate_small = omega (arith, bit_is, ok.inside, pow_le n 24 ok.fits, pow_le t 24 (omega (arith, ok.qubit, ok.fits)))

  pub gate_asks : Keyed n (c.ones + shl t) (shl t) 0 b
  gate_asks = rw bit_is (keyed ok)

  pub gate_swept : {rule : Pair → Pair} {b' : Buffers} → Swept rule n (c.ones + shl t) (shl t) 0 b b' → b' ≡ on_pairs rule n t c b
  gate_swept w = swept_gate ok (rw bit_is at w)
