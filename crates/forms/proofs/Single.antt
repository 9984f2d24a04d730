-- Where every qubit is fixed there is one key, and so one pair: the loop over keys after its first turn. Assumes nothing.
use Prim.Native.Nat.{ℕ, ◌+◌, ◌-◌, ◌^◌}
use mathlib.Core.Path.{◌≡◌}
use native.Mathlib.Omega.{arith}
use Rattle.book.specs.Answers.{Buffers}
use Rattle.book.specs.Lent.{SameSize}
use Rattle.book.specs.State.{at}
use Rattle.book.specs.declared.Pair.{Pair}
use Rattle.pairs.specs.Pairs.{TwoPlaces, PairPut, Keyed, Swept}
use Rattle.pairs.proofs.Bits.{or_ge}
use Rattle.pairs.proofs.Keys.{starts, asked, steps, ends}

module _ {n fixed back0 back1 : ℕ} {b : Buffers} (ok : Keyed n fixed back0 back1 b) where
  pub single_asks : TwoPlaces b (fixed - back0) (fixed - back1)
  single_asks = asked ok (starts ok {rule = λ p. p}) ok.below

  pub single_swept : {rule : Pair → Pair} {b' : Buffers} → fixed + 1 ≡ 2 ^ n → PairPut rule (fixed - back0) (fixed - back1) (at b) (at b') × SameSize b b'
      → Swept rule n fixed back0 back1 b b'
  single_swept e st = ends ok (steps ok (starts ok) ok.below st) (omega (arith, or_ge (fixed + 1) fixed))
