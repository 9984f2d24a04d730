-- A multiplier's upper part, or a zero in its stead; and an amplitude multiplied by F. Definitions only. Assumes nothing.
use Rattle.std.specs.Prelude.{true, ◌≡◌, Float}
use Rattle.std.specs.Float.{binary64}
use Rattle.std.specs.Float.Ieee.{ne, of_bits}
use Rattle.book.specs.Gates.{F, −◌, ◌⊗◌}
use Rattle.book.specs.State.{amplitude}
use Rattle.book.specs.declared.Amplitude.{Amplitude}
use Rattle.exact.specs.Steps.{Under, Halved}

abbrev pub Split : Float → Float → Type 0
Split k h = ne h (of_bits binary64 0) ≡ true → Halved binary64 k h

-- ... and where it is no zero, s is 2 at most in size
abbrev pub Beside : Float → Float → Float → Type 0
Beside k s h = ne h (of_bits binary64 0) ≡ true → Halved binary64 k h × Under binary64 1 s

-- (x,y) times (k,s), by F
abbrev pub times : Float → Float → Amplitude → Amplitude
times k s z = amplitude (F z.re k ((− z.im) ⊗ s)) (F z.im k (z.re ⊗ s))
