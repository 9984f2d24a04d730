-- What a collapse makes of an amplitude of each half, and of a stretch of them. Definitions only. Assumes nothing.
use Rattle.std.specs.Prelude.{ℕ, Bool, cond, Float}
use Rattle.book.specs.Answers.{Buffers}
use Rattle.book.specs.Gates.{◌⊗◌, nought}
use Rattle.book.specs.Lent.{SameSize}
use Rattle.book.specs.State.{amplitude, at}
use Rattle.book.specs.declared.Amplitude.{Amplitude}
use Rattle.pairs.specs.Pairs.{Mapped}

-- an amplitude of the chosen half, and of the other
abbrev pub scaled : Float → Amplitude → Amplitude
scaled r z = amplitude (z.re ⊗ r) (z.im ⊗ r)

abbrev pub cleared : Amplitude → Amplitude
cleared z = amplitude nought nought

abbrev pub half_of : Bool → Float → Amplitude → Amplitude
half_of chosen r z = cond chosen (scaled r z) (cleared z)

-- each place of a stretch became what f makes of it, and no other changed
pub record Remade (f : ℕ → Amplitude → Amplitude) (from to : ℕ) (b b' : Buffers) : Type 0 where
  pub size : SameSize b b'
  pub mapped : Mapped f from to (at b) (at b')
