-- What the field of the mask holds. Definitions only. Assumes nothing.
use Rattle.std.specs.Prelude.{ℕ, List}
use Rattle.book.specs.Records.{number}
use Rattle.book.specs.State.{controlled}
use Rattle.book.specs.declared.Controls.{Controls}

abbrev pub mask : List ℕ → Controls
mask contents = controlled (number contents)
