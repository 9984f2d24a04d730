-- What a standing means in 01's words, and the contract of this crate. Definitions only. Assumes nothing.
use Rattle.std.specs.Prelude.{ℕ, ◌+◌, ◌≡◌, Option, Some, None, Result, Ok, Err}
use Rattle.book.specs.Answers.{Replied, replies}
use Rattle.book.specs.Sessions.{Session, standing}
use Rattle.book.specs.declared.Record.{Record}
use Rattle.book.specs.declared.Reply.{Reply}

-- none for the next record, and else what is said
abbrev pub stands : Result ℕ Reply → Option Replied
stands (Ok k) = None
stands (Err x) = Some (replies x)

-- Where a record stands in any session of this number and count that keeps this value; the next one has the count that a taken gate makes.
pub record Stood (own count : ℕ) (v : Option ℕ) (it : Record) (r : Result ℕ Reply) : Type 0 where
  pub is : (s : Session) → s.number ≡ own → s.count ≡ count → s.value ≡ v → stands r ≡ standing s it
  pub next : (k : ℕ) → r ≡ Ok k → k ≡ count + 1
