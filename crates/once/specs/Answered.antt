-- What deliveries made one after the other answer. Definitions only. Assumes nothing.
use Rattle.std.specs.Prelude.{ℕ, List, [], ◌∷◌}
use Rattle.book.specs.Answers.{Replied}
use Rattle.book.specs.Sessions.{Bench, deliver}

-- what is said, and the count after it
pub record Answered : Type 0 where
  pub says : Replied
  pub count : ℕ

abbrev pub answers_of : Bench → List (List ℕ) → List Answered
answers_of x [] = []
answers_of x (bytes ∷ more) =
    let d = deliver x.session x.state bytes in
    record { says = d.says; count = d.next.count } ∷ answers_of (record { session = d.next; state = d.left }) more
