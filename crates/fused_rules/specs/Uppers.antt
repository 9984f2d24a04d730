-- What P makes of s1, whatever s0 is. Definitions only. Assumes nothing.
use Rattle.book.specs.Gates.{p_rule}
use Rattle.book.specs.State.{pair}
use Rattle.book.specs.declared.Amplitude.{Amplitude}
use Rattle.book.specs.declared.Angle.{Angle}

abbrev pub p_upper : Angle → Amplitude → Amplitude
p_upper angle cd = (p_rule angle (pair cd cd)).s1
