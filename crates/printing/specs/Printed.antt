-- What the program prints, as its bytes. Definitions only. Assumes nothing.
use Rattle.std.specs.Prelude.{ℕ, ◌+◌, ◌%◌, ◌^◌, Bool, cond, List, [], ◌∷◌, ◌++◌, Float}
use Rattle.book.specs.Answers.{Buffers}
use Rattle.book.specs.Sessions.{Session}
use Rattle.delivery_lines.specs.Deliveries.{delivery_line}
use Rattle.once.specs.Answered.{Answered}
use Rattle.stream.specs.Lines.{amplitude_line, end_line, cut_line}

-- a D line for each answer, numbered from i on; a u64 counts them
abbrev pub answer_lines : ℕ → List Answered → List ℕ
answer_lines i [] = []
answer_lines i (a ∷ more) = delivery_line i a.says a.count ++ answer_lines ((i + 1) % 2 ^ 64) more

-- an A line for each place, numbered from i on
abbrev pub state_lines : ℕ → List Float → List Float → List ℕ
state_lines i [] ys = []
state_lines i (x ∷ xs) [] = []
state_lines i (x ∷ xs) (y ∷ ys) = amplitude_line i x y ++ state_lines (i + 1) xs ys

-- behind the last delivery: CUT where a frame was cut short or had a wrong tag, the A lines, END
abbrev pub closing : Bool → Session → Buffers → List ℕ
closing cut s b = cond cut cut_line [] ++ (state_lines 0 b.reals b.imags ++ end_line s)
