-- What a session and an answer of this crate mean in 01's words, and a delivery's whole contract. Definitions only. Assumes nothing.
use Rattle.std.specs.Prelude.{ℕ, ◌≡◌, Option, Result, Ok, Err}
use Rattle.book.specs.Answers.{number_of, Replied, replies, Gives, gives, denied, first, Buffers}
use Rattle.book.specs.Kernels.{size_tests}
use Rattle.book.specs.Sessions as Book
use Rattle.book.specs.declared.Refusal.{Refusal}
use Rattle.counting.specs.Counts.{behind}
use Rattle.counting.specs.declared.Counted.{Counted}
use Rattle.sessions.specs.declared.Delivered.{Delivered}
use Rattle.sessions.specs.declared.Session.{Session}

abbrev pub meant : Session → Book.Session
meant s = record { n = s.n; number = s.number; count = s.count; value = s.value; mark = s.mark }

abbrev pub resumed : ℕ → ℕ → ℕ → Option ℕ → ℕ → Session
resumed n own count v mark = record { n = n; number = own; count = count; value = v; mark = mark }

-- a session as it is started, or a refusal's number
abbrev pub started_says : Result Session Refusal → Gives Book.Session
started_says (Ok s) = gives (meant s)
started_says (Err x) = denied (number_of x)

-- the next session, and its answer, which carries the count after it
abbrev pub told : Session → Counted → Delivered
told s c = record { next = resumed s.n s.number c.count c.value c.mark; reply = c.reply; count = c.count }

-- a record that is not run: 1 and 2 come before its reply
abbrev pub unsized : Book.Session → Buffers → Replied → Book.Delivery
unsized s b x = Book.kept s b (behind (first (size_tests s.n b)) x)

-- A delivery's whole contract: the next session, the reply, the count after it, and every place of both buffers.
pub record Delivers (d : Book.Delivery) (answer : Delivered) (after : Buffers) : Type 0 where
  pub next : meant answer.next ≡ d.next
  pub reply : replies answer.reply ≡ d.says
  pub count : answer.count ≡ d.next.count
  pub leaves : after ≡ d.left
