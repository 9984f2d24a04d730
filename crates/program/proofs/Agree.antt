-- Each call has one answer: any two results that a contract allows are the same, for a piece up to what is kept of a frame that is begun. Assumes nothing.
use Rattle.std.proofs.Common.{◌≡◌, ℕ, ◌+◌, ◌%◌, ◌^◌, List, length, sym, ap, ◌∙◌, subst}
use Rattle.book.specs.Answers.{Buffers}
use Rattle.feeding.proofs.Agree.{takes_all_agree}
use Rattle.feeding.specs.Feeding.{rest_in}
use Rattle.once.specs.Answered.{Answered}
use Rattle.printing.specs.Printed.{answer_lines}
use Rattle.puts.specs.Put.{Put}
use Rattle.program.specs.Program.{Run, Prints}

-- put_end, and print_all of crate whole_run
pub put_agree : {words before a₁ a₂ : List ℕ} {at n₁ n₂ : ℕ} → Put words before at n₁ a₁ → Put words before at n₂ a₂ → (n₁ ≡ n₂) × (a₁ ≡ a₂)
put_agree p q = (p.behind ∙ sym q.behind, p.stored ∙ sym q.stored)

-- put_piece
pub record Same (x₁ x₂ : Run) (b₁ b₂ : Buffers) (n₁ n₂ : ℕ) (a₁ a₂ : List ℕ) : Type 0 where
  pub rest : rest_in x₁.form ≡ rest_in x₂.form
  pub session : x₁.form.session ≡ x₂.form.session
  pub index : x₁.index ≡ x₂.index
  pub state : b₁ ≡ b₂
  pub next : n₁ ≡ n₂
  pub after : a₁ ≡ a₂

pub prints_agree : {x x₁ x₂ : Run} {b b₁ b₂ : Buffers} {piece before a₁ a₂ : List ℕ} {at n₁ n₂ : ℕ}
    → Prints x b piece before at x₁ b₁ n₁ a₁ → Prints x b piece before at x₂ b₂ n₂ a₂ → Same x₁ x₂ b₁ b₂ n₁ n₂ a₁ a₂
prints_agree {x} {before = before} {a₁ = a₁} {at = at} {n₁ = n₁} p q =
    let (rest, session, told, state) = takes_all_agree p.takes q.takes in
    let first : Put (answer_lines x.index q.answers) before at n₁ a₁ =
    subst (λ (t : List Answered). Put (answer_lines x.index t) before at n₁ a₁) told p.put in
    let (next, after) = put_agree first q.put in
    record {
      rest = rest;
      session = session;
      index = p.index ∙ ap (λ (t : List Answered). (x.index + length t) % 2 ^ 64) told ∙ sym q.index;
      state = state;
      next = next;
      after = after;
    }
