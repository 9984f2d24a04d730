-- The refusal numbers, what a call says, and which refusal is given where several apply. Definitions only. Assumes nothing.
use Rattle.std.specs.Prelude.{ℕ, zero, suc, Bool, true, false, cond, List, [], ◌∷◌, ◌++◌, ◌≡◌, Float, Option, Some, None, Result, Ok, Err}
use Rattle.book.specs.declared.Refusal.{Refusal}
use Rattle.book.specs.declared.Refusal.TheVariants.{Size, Length, Qubit, Same, Form, Number, Chance, Record, Session, Early, Full, Room}
use Rattle.book.specs.declared.Reply.{Reply}
use Rattle.book.specs.declared.Reply.TheVariants.{Again, Said as Says}

-- 01's table
abbrev pub number_of : Refusal → ℕ
number_of Size = 1
number_of Length = 2
number_of Qubit = 3
number_of Same = 4
number_of Form = 5
number_of Number = 6
number_of Chance = 7
number_of Record = 8
number_of Session = 9
number_of Early = 10
number_of Full = 11
number_of Room = 12

-- what a call says, with 01's numbers and values
pub data Said : Type 0 where
  taken : Said
  value : ℕ → Said
  refused : ℕ → Said

-- what a call answers in the code: a value or none, or a refusal
abbrev pub Answer : Type 0
Answer = Result (Option ℕ) Refusal

abbrev pub says : Answer → Said
says (Ok None) = taken
says (Ok (Some v)) = value v
says (Err r) = refused (number_of r)

-- what a delivery says: AGAIN, with the value that it tells or none, or what a call says
pub data Replied : Type 0 where
  again : Option ℕ → Replied
  said : Said → Replied

abbrev pub replies : Reply → Replied
replies (Again v) = again v
replies (Says x) = said (says x)

-- what a call gives that has a result to hand over: it, or a refusal's number
pub data Gives (A : Type 0) : Type 0 where
  gives : A → Gives A
  denied : ℕ → Gives A

-- where there is none, this refusal
abbrev pub or_denied : {A : Type 0} → ℕ → Option A → Gives A
or_denied k (Some a) = gives a
or_denied k None = denied k

-- what the code's result gives
abbrev pub gives_of : {A : Type 0} → Result A Refusal → Gives A
gives_of (Ok a) = gives a
gives_of (Err r) = denied (number_of r)

-- ---- tests

-- A test of the table: where it applies, the refusal has this number.
pub record Test : Type 0 where
  pub applies : Bool
  pub number : ℕ

abbrev pub ◌⇒◌ : Bool → ℕ → Test
b ⇒ k = record { applies = b; number = k }

infix 68 ◌⇒◌
-- the first that applies in this order, and 0 for none
unfoldable pub first : List Test → ℕ
first [] = 0
first (t ∷ ts) = cond t.applies t.number (first ts)

-- ---- calls

-- two lent buffers, real and imaginary
pub record Buffers : Type 0 where
  pub reals : List Float
  pub imags : List Float

abbrev pub buffers : List Float → List Float → Buffers
buffers re im = record { reals = re; imags = im }

-- what a call says, and what it leaves in the buffers
pub record Outcome : Type 0 where
  pub says : Said
  pub left : Buffers

-- A call: its own tests, in 01's order, behind those of the size; and where none applies the value that it answers, if it has one, and what it leaves.
pub record Call : Type 0 where
  pub tests : List Test
  pub answer : Option ℕ
  pub left : Buffers

abbrev pub call : List Test → Option ℕ → Buffers → Call
call tests v left = record { tests = tests; answer = v; left = left }

abbrev pub accepted : Option ℕ → Said
accepted None = taken
accepted (Some v) = value v

-- A refusal returns its number, and the buffers keep what they held. With none the call does its work.
abbrev pub unless : ℕ → Buffers → Call → Outcome
unless zero before c = record { says = accepted c.answer; left = c.left }
unless (suc k) before c = record { says = refused (suc k); left = before }

-- the first of the tests of the size and of the call's own
abbrev pub outcome_of : List Test → Buffers → Call → Outcome
outcome_of sizes before c = unless (first (sizes ++ c.tests)) before c

-- whether a call was taken
abbrev pub accepts : Said → Bool
accepts taken = true
accepts (value v) = true
accepts (refused k) = false

-- A call's whole contract: its answer and every place of its buffers are those of the outcome.
pub record Does (o : Outcome) (answer : Answer) (after : Buffers) : Type 0 where
  pub answers : says answer ≡ o.says
  pub leaves : after ≡ o.left
