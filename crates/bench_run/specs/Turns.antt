-- What the program hands to write, of what read handed over: the start, a turn's, and what stands behind the last. Definitions only. Assumes nothing.
use Rattle.std.specs.Prelude.{ℕ, ◌+◌, ◌%◌, ◌^◌, ◌≤◌, List, ◌≡◌, length}
use Rattle.std.specs.declared.option.Option.{Option}
use Rattle.std.specs.Io.KnownBytes.{Consumes, Appends}
use Rattle.book.specs.Answers.{Buffers}
use Rattle.feeding.specs.Feeding.{rest_in, cuts, TakesAll}
use Rattle.headers.specs.Headers.{most_in_program}
use Rattle.once.specs.Answered.{Answered}
use Rattle.printing.specs.Printed.{answer_lines, closing}
use Rattle.first_state.specs.First.{first_state}
use Rattle.program.specs.Program.{Run, fresh}

-- The start, behind a good header: a session that starts, and the state real 1 at index 0.
pub record Begins (x : Run) (b : Buffers) : Type 0 where
  pub n : ℕ
  pub own : ℕ
  pub few : n ≤ most_in_program
  pub run : x ≡ fresh n own
  pub state : b ≡ first_state n

-- A turn: what was read is taken, and what is written are the lines of its answers, all of them.
pub record Writes (x : Run) (b : Buffers) (read written : List ℕ) (x' : Run) (b' : Buffers) : Type 0 where
  pub answers : List Answered
  pub takes : TakesAll x.form b read answers x'.form b'
  pub lines : written ≡ answer_lines x.index answers
  pub index : x'.index ≡ (x.index + length answers) % 2 ^ 64

-- The end: CUT, the A lines and END, all of them.
abbrev pub Closes : Run → Buffers → List ℕ → Type 0
Closes x b written = written ≡ closing (cuts (rest_in x.form)) x.form.session b

-- Any number of turns: what a reader handed over is taken, and what a writer took are the lines of its answers, all of them.
pub record Goes (from from' to to' : Option (List ℕ)) (x : Run) (b : Buffers) (x' : Run) (b' : Buffers) : Type 0 where
  pub read : List ℕ
  pub written : List ℕ
  pub consumed : Consumes from from' read
  pub appended : Appends to to' written
  pub writes : Writes x b read written x' b'

-- A reader handed over bytes, and a writer took what is made of them, and nothing else.
abbrev pub WritesOf : (List ℕ → List ℕ) → Option (List ℕ) → Option (List ℕ) → Option (List ℕ) → Option (List ℕ) → Type 0
WritesOf make from from' to to' = (read : List ℕ) × Consumes from from' read × Appends to to' (make read)
