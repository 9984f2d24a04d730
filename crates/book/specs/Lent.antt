-- What two lent buffers hold: when a call begins, when it ends, and where it stands. Contracts say it by these words. Definitions only. Assumes nothing.
use Rattle.std.specs.Prelude.{List, ◌≡◌, Float, length}
use Rattle.std.specs.Borrow.{Bor, MutBor}
use denote.Triple.Both.{Both}
use Rattle.book.specs.Answers.{Buffers, buffers}

abbrev pub before : {X Y : Type 0} → Both (MutBor (List Float)) X → Both (MutBor (List Float)) Y → Buffers
before reals imags = buffers reals.entry.now imags.entry.now

abbrev pub after : {X Y : Type 0} → Both X (MutBor (List Float)) → Both Y (MutBor (List Float)) → Buffers
after reals imags = buffers reals.exit.now imags.exit.now

-- in a `requires`, and between two steps
abbrev pub here : MutBor (List Float) → MutBor (List Float) → Buffers
here reals imags = buffers reals.now imags.now

-- the same of two that are only read: in an `ensures`, and in a `requires`
abbrev pub shown : {X Y : Type 0} → Both (Bor (List Float)) X → Both (Bor (List Float)) Y → Buffers
shown reals imags = buffers reals.entry.now imags.entry.now

abbrev pub shown_here : Bor (List Float) → Bor (List Float) → Buffers
shown_here reals imags = buffers reals.now imags.now

-- both buffers keep their lengths
pub record SameSize (b b' : Buffers) : Type 0 where
  pub reals : length b'.reals ≡ length b.reals
  pub imags : length b'.imags ≡ length b.imags
