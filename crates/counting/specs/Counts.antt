-- What an answer makes of the count, of the value that is kept and of the mark, and what is told of it: the contracts of this crate. Definitions only.
-- Assumes nothing.
use Rattle.std.specs.Prelude.{ℕ, zero, suc, cond, List, ◌≡◌, Option, Some, None, Result, Ok, Err}
use Rattle.book.specs.Answers.{number_of, Said, taken, value, refused, Answer, says, Replied, said, replies, accepts}
use Rattle.book.specs.Sessions.{marked}
use Rattle.book.specs.declared.Refusal.{Refusal}
use Rattle.book.specs.declared.Reply.{Reply}
use Rattle.counting.specs.declared.Counted.{Counted}

-- what is kept after a gate was run, where `v` was kept before it: its value, or none; of one that was refused, v
abbrev pub kept_by : Said → Option ℕ → Option ℕ
kept_by taken v = None
kept_by (value w) v = Some w
kept_by (refused k) v = v

-- A record that was run, of these bytes: what its gate answers is said; a gate that was taken makes the count `next`, its value is kept, and the bytes move
-- the mark.
pub record Counts (count : ℕ) (v : Option ℕ) (mark next : ℕ) (bytes : List ℕ) (answer : Answer) (r : Counted) : Type 0 where
  pub counts : r.count ≡ cond (accepts (says answer)) next count
  pub value : r.value ≡ kept_by (says answer) v
  pub marks : r.mark ≡ cond (accepts (says answer)) (marked mark bytes) mark
  pub reply : replies r.reply ≡ said (says answer)

-- what a judge's ruling, or an answer of any value or none, is refused for: a refusal's number, and 0 for none
abbrev pub refused_for : {A : Type 0} → Result A Refusal → ℕ
refused_for (Ok a) = 0
refused_for (Err r) = number_of r

-- a refusal of this number comes before the reply
abbrev pub behind : ℕ → Replied → Replied
behind zero x = x
behind (suc k) x = said (refused (suc k))

-- A record that was not run: what its size is refused for comes before its reply, and count, value and mark stay.
pub record Passes {A : Type 0} (count : ℕ) (v : Option ℕ) (mark : ℕ) (size : Result A Refusal) (x : Reply) (r : Counted) : Type 0 where
  pub counts : r.count ≡ count
  pub value : r.value ≡ v
  pub marks : r.mark ≡ mark
  pub reply : replies r.reply ≡ behind (refused_for size) (replies x)
