-- What the program prints, from its input's bytes alone; and what a piece of the input adds. Definitions only. Assumes nothing.
use Rattle.std.specs.Prelude.{◌≡◌, ℕ, ◌+◌, ◌%◌, ◌^◌, List, [], ◌++◌, length, drop, replicate, Option, Some, None}
use Rattle.book.specs.Answers.{Buffers}
use Rattle.book.specs.Sessions.{Session, deliver_all}
use Rattle.book.specs.Sessions as Book
use Rattle.feeding.specs.Feeding.{Form, form, form_of, cuts, TakesAll}
use Rattle.first_state.specs.First.{first_state}
use Rattle.frames.specs.Streams.{begun, stream_of}
use Rattle.headers.specs.Headers.{header_of}
use Rattle.once.specs.AllOnce.{bench}
use Rattle.once.specs.Answered.{Answered, answers_of}
use Rattle.printing.specs.Printed.{answer_lines, closing}
use Rattle.puts.specs.Put.{Put}
use Rattle.stream.specs.Lines.{bad_header_line}
use Rattle.program.specs.declared.Running.{Running}

-- behind a header: a D line for each delivery, CUT, the A lines, END
abbrev pub lines_of : Session → Buffers → List ℕ → List ℕ
lines_of s b bytes =
    let st = stream_of (begun []) bytes in
    let end = deliver_all (bench s b) st.deliveries in
    answer_lines 0 (answers_of (bench s b) st.deliveries) ++ closing (cuts st.rest) end.session end.state

-- or BAD HEADER alone
abbrev pub printed_by : Option (ℕ × ℕ) → List ℕ → List ℕ
printed_by (Some h) bytes = lines_of (Book.fresh h.0 h.1) (first_state h.0) bytes
printed_by None bytes = bad_header_line

unfoldable pub printed : List ℕ → List ℕ
printed input = printed_by (header_of input) (drop 8 input)

-- ---- piece by piece

-- what is known between two pieces: the number of the next delivery, and the form
pub record Run : Type 0 where
  pub index : ℕ
  pub form : Form

abbrev pub run_of : Running → Run
run_of r = record { index = r.index; form = form_of r.feed }

-- behind the header
abbrev pub fresh : ℕ → ℕ → Run
fresh n own = record { index = 0; form = form (Book.fresh n own) 0 (replicate 97 0) }

-- A piece of the input is taken, and the lines of its answers are put behind a place of the output.
pub record Prints (x : Run) (b : Buffers) (piece before : List ℕ) (at : ℕ) (x' : Run) (b' : Buffers) (next : ℕ) (after : List ℕ) : Type 0 where
  pub answers : List Answered
  pub takes : TakesAll x.form b piece answers x'.form b'
  pub put : Put (answer_lines x.index answers) before at next after
  pub index : x'.index ≡ (x.index + length answers) % 2 ^ 64
