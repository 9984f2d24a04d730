-- Exactly-once as the contract of a function that makes deliveries one after the other. Definitions only. Assumes nothing.
use Rattle.std.specs.Prelude.{ℕ, List, [], ◌∷◌, ◌≡◌, take, drop}
use Rattle.book.specs.Answers.{Buffers}
use Rattle.book.specs.ExactlyOnce.{AllOf, seen, Given, Once}
use Rattle.book.specs.Sessions.{Session, fresh, Bench, deliver_all}
use Rattle.book.specs.declared.Record.{Record}

-- Deliveries lie one behind the other in one buffer; each takes the next so many bytes of it, fewer where fewer are left.
abbrev pub cut : List ℕ → List ℕ → List (List ℕ)
cut bytes [] = []
cut bytes (l ∷ ls) = take l bytes ∷ cut (drop l bytes) ls

abbrev pub bench : Session → Buffers → Bench
bench s b = record { session = s; state = b }

-- Deliveries `ds` one after the other, from a session and buffers to a session and buffers: they come to what the book's come to, and exactly once.
-- `ds` is any list, so this is said of each delivery: of the list up to it.
pub record AllOnce (s : Session) (b : Buffers) (ds : List (List ℕ)) (s' : Session) (b' : Buffers) : Type 0 where
  pub run : bench s' b' ≡ deliver_all (bench s b) ds
  pub once : (rs : List Record) → Given s.n s.number b rs → s ≡ fresh s.n s.number → AllOf s.number rs ds → Once s.n b rs (seen ds) s' b'
