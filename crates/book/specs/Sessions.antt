-- Starting a session, a delivery, and a run of deliveries. Definitions only. Assumes nothing.
use Rattle.std.specs.Prelude.{ℕ, zero, suc, ◌+◌, ◌*◌, ◌/◌, ◌%◌, ◌^◌, cond, not, List, [], ◌∷◌, ltb, eqb, Option, Some, None}
use Rattle.book.specs.Answers.{refused, Replied, again, said, first, Buffers, Outcome, outcome_of, accepts}
use Rattle.book.specs.Calls.{call_of}
use Rattle.book.specs.Kernels.{bad_size, most_qubits, size_tests}
use Rattle.book.specs.Records.{write_record, read_record}
use Rattle.book.specs.declared.Record.{Record}

-- a session is n, its number, the count of records taken, the value of the last of them, none where its gate has none, and the mark over their bytes
pub record Session : Type 0 where
  pub n : ℕ
  pub number : ℕ
  pub count : ℕ
  pub value : Option ℕ
  pub mark : ℕ

-- it starts at 0, with none, and with mark 0; a bad n is refusal 1, and gives no session
abbrev pub fresh : ℕ → ℕ → Session
fresh n own = record { n = n; number = own; count = 0; value = None; mark = 0 }

abbrev pub start : ℕ → ℕ → Option Session
start n own = cond (bad_size most_qubits n) None (Some (fresh n own))

-- for each byte the mark is turned left by 5 and the byte is added, dropping any carry out of 32 bits
unfoldable pub marked : ℕ → List ℕ → ℕ
marked mark [] = mark
marked mark (byte ∷ more) = marked ((mark * 2 ^ 5 % 2 ^ 32 + mark / 2 ^ 27 + byte) % 2 ^ 32) more

-- a record was taken, with this value: its bytes move the mark
abbrev pub raised : Session → Record → Option ℕ → Session
raised s r v = record { n = s.n; number = s.number; count = s.count + 1; value = v; mark = marked s.mark (write_record r) }

-- ---- a delivery: the next session, what is said, and what the buffers hold

pub record Delivery : Type 0 where
  pub next : Session
  pub says : Replied
  pub left : Buffers

-- nothing changes
abbrev pub kept : Session → Buffers → Replied → Delivery
kept s b x = record { next = s; says = x; left = b }

-- a gate that was taken raises the count, and the value that it answers is kept
abbrev pub counted : Session → Buffers → Record → Option ℕ → Outcome → Delivery
counted s b r v o =
    cond (accepts o.says)
    (record { next = raised s r v; says = said o.says; left = o.left })
    (kept s b (said o.says))

-- AGAIN for number count-1, the last record taken, tells the value that is kept; for an older number none
abbrev pub told_again : ℕ → Option ℕ → ℕ → Option ℕ
told_again count v number = cond (eqb (number + 1) count) v None

-- 9, 11; then a number below the count answers AGAIN, one above it 10, and only an equal one goes on
abbrev pub standing : Session → Record → Option Replied
standing s r =
    cond (not (eqb r.session s.number)) (Some (said (refused 9)))
    (cond (eqb r.number 65535) (Some (said (refused 11)))
    (cond (ltb r.number s.count) (Some (again (told_again s.count s.value r.number)))
    (cond (ltb s.count r.number) (Some (said (refused 10))) None)))

-- to the gate's own tests, 3 to 7
abbrev pub take_record : Session → Buffers → Record → Option Replied → Delivery
take_record s b r (Some x) = kept s b x
take_record s b r None = let c = call_of s.n r.gate b in counted s b r c.answer (outcome_of [] b c)

-- 1, 2; then 8
abbrev pub take_read : Session → Buffers → ℕ → Option Record → Delivery
take_read s b (suc k) o = kept s b (said (refused (suc k)))
take_read s b zero None = kept s b (said (refused 8))
take_read s b zero (Some r) = take_record s b r (standing s r)

unfoldable pub deliver : Session → Buffers → List ℕ → Delivery
deliver s b bytes = take_read s b (first (size_tests s.n b)) (read_record bytes)

-- ---- one delivery after the other

-- a session, and the buffers beside it
pub record Bench : Type 0 where
  pub session : Session
  pub state : Buffers

abbrev pub deliver_all : Bench → List (List ℕ) → Bench
deliver_all bench [] = bench
deliver_all bench (bytes ∷ more) =
    let d = deliver bench.session bench.state bytes in
    deliver_all (record { session = d.next; state = d.left }) more
