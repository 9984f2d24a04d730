-- Where the size is an answer, as any call's: what it refuses comes before the reply, and one that is taken leaves it, with a value or without one.
-- Assumes nothing.
use mathlib.Core.Path.{◌≡◌, refl, ◌∙◌}
use Rattle.std.specs.Prelude.{ℕ, Option, Some, None, Ok, Err}
use Rattle.book.specs.Answers.{number_of, Said, taken, value, refused, Answer, says, Replied, said, replies}
use Rattle.book.specs.declared.Refusal.{Refusal}
use Rattle.book.specs.declared.Refusal.TheVariants.{Size, Length, Qubit, Same, Form, Number, Chance, Record, Session, Early, Full, Room}
use Rattle.book.specs.declared.Reply.{Reply}
use Rattle.counting.specs.Counts.{refused_for, behind, Passes}
use Rattle.counting.specs.declared.Counted.{Counted}

abbrev pub behind_said : Said → Replied → Replied
behind_said taken x = x
behind_said (value v) x = x
behind_said (refused k) x = said (refused k)

-- no refusal has the number 0
refusal_first : (r : Refusal) (x : Replied) → behind (number_of r) x ≡ said (refused (number_of r))
refusal_first Size x = refl
refusal_first Length x = refl
refusal_first Qubit x = refl
refusal_first Same x = refl
refusal_first Form x = refl
refusal_first Number x = refl
refusal_first Chance x = refl
refusal_first Record x = refl
refusal_first Session x = refl
refusal_first Early x = refl
refusal_first Full x = refl
refusal_first Room x = refl

answer_first : (size : Answer) (x : Replied) → behind (refused_for size) x ≡ behind_said (says size) x
answer_first (Ok None) x = refl
answer_first (Ok (Some v)) x = refl
answer_first (Err r) x = refusal_first r x

pub passes_answer : {count mark : ℕ} {v : Option ℕ} {size : Answer} {x : Reply} {r : Counted} → Passes count v mark size x r
    → replies r.reply ≡ behind_said (says size) (replies x)
passes_answer {size = size} {x} p = p.reply ∙ answer_first size (replies x)
