-- The laws of a loop that prints a piece, and of one that prints piece after piece: the lines of answers in two parts are those of the first, and then those of
-- the second with the numbers that follow; a u64 counts them, so the numbers are added modulo 2 ^ 64. Assumes nothing.
use Rattle.std.proofs.Common.{◌≡◌, ℕ, suc, ◌+◌, ◌%◌, ◌^◌, ◌<◌, ◌≤◌, min, List, [], ◌∷◌}
use Rattle.std.proofs.Common.{◌++◌, length, drop, sym, refl, ap, ◌∙◌, append_assoc, mod-eq_of_lt, arith, length-append}
use native.Mathlib.Nat.{mod-add-mod}
use Rattle.book.specs.Answers.{Buffers}
use Rattle.book.specs.Lent.{SameSize}
use Rattle.book.specs.declared.Reply.{Reply}
use Rattle.delivery_lines.specs.Deliveries.{delivery_line}
use Rattle.feeding.proofs.Loop.{Left, begins, turn, ends, none_taken, more}
use Rattle.feeding.specs.Feeding.{Form, Takes, told_of}
use Rattle.std.specs.Prelude.{Option, None}
use Rattle.once.specs.Answered.{Answered}
use Rattle.puts.proofs.Puts.{put_then}
use Rattle.printing.specs.Printed.{answer_lines}
use Rattle.puts.specs.Put.{Put}
use Rattle.stores.specs.Stores.{store}
use Rattle.program.specs.Program.{Run, Prints}

-- ---- answers in two parts

-- the number behind two parts
pub index_on : (i m n : ℕ) → ((i + m) % 2 ^ 64 + n) % 2 ^ 64 ≡ (i + (m + n)) % 2 ^ 64
index_on i m n = let same : i + m + n ≡ i + (m + n) = omega arith in mod-add-mod (i + m) (2 ^ 64) n ∙ ap (λ (k : ℕ). k % 2 ^ 64) same

index_none : (i : ℕ) → i < 2 ^ 64 → (i + 0) % 2 ^ 64 ≡ i
index_none i small = let same : i + 0 ≡ i = omega arith in ap (λ (k : ℕ). k % 2 ^ 64) same ∙ mod-eq_of_lt small

pub lines_on : (i : ℕ) (xs ys : List Answered) → i < 2 ^ 64 → answer_lines i (xs ++ ys) ≡ answer_lines i xs ++ answer_lines ((i + length xs) % 2 ^ 64) ys
lines_on i [] ys small = sym (ap (λ (k : ℕ). answer_lines k ys) (index_none i small))
lines_on i (x ∷ xs) ys small =
    let line = delivery_line i x.says x.count in
    let j = (i + 1) % 2 ^ 64 in
    let same : 1 + length xs ≡ suc (length xs) = omega arith in
    let number : (j + length xs) % 2 ^ 64 ≡ (i + suc (length xs)) % 2 ^ 64 =
    index_on i 1 (length xs) ∙ ap (λ (k : ℕ). (i + k) % 2 ^ 64) same in
    ap (λ (l : List ℕ). line ++ l)
    (lines_on j xs ys (omega arith) ∙ ap (λ (k : ℕ). answer_lines j xs ++ answer_lines k ys) number)
    ∙ sym (append_assoc line (answer_lines j xs) (answer_lines ((i + suc (length xs)) % 2 ^ 64) ys))

-- ---- lines put one behind the other

-- the lines of answers, put behind a place, and the number of the next one
pub record Lined (i : ℕ) (t : List Answered) (l : List ℕ) (at j next : ℕ) (l' : List ℕ) : Type 0 where
  pub put : Put (answer_lines i t) l at next l'
  pub index : j ≡ (i + length t) % 2 ^ 64

lined_none : {i at : ℕ} {l : List ℕ} {next : ℕ} → i < 2 ^ 64 → next ≡ min at (length l) → Lined i [] l at i next l
unfolding store
lined_none {i} small here = record { put = record { behind = omega arith; stored = refl }; index = sym (index_none i small) }

lined_here : {i at : ℕ} {l : List ℕ} → i < 2 ^ 64 → at ≤ length l → Lined i [] l at i at l
lined_here small within = lined_none small (omega arith)

-- nothing is told
module _ (i count : ℕ) {told : Option Reply} where
  pub told_none : {at : ℕ} {l : List ℕ} → told ≡ None → i < 2 ^ 64 → at ≤ length l
      → Put (answer_lines i (told_of told count)) l at at l × (i ≡ (i + length (told_of told count)) % 2 ^ 64)
  told_none is small within = let lined = lined_here small within in rw is (lined.put, lined.index)

lined_then : {i j k at at₁ at₂ : ℕ} {t u : List Answered} {l l₁ l₂ : List ℕ}
    → i < 2 ^ 64 → Lined i t l at j at₁ l₁ → Lined j u l₁ at₁ k at₂ l₂ → Lined i (t ++ u) l at k at₂ l₂
lined_then {i} {t = t} {u = u} small p q =
    let lines = lines_on i t u small ∙ ap (λ (n : ℕ). answer_lines i t ++ answer_lines n u) (sym p.index) in
    let many = length-append t u in
    record {
      put = rw lines (put_then p.put q.put);
      index =
          q.index
          ∙ ap (λ (n : ℕ). (n + length u) % 2 ^ 64) p.index
          ∙ index_on i (length t) (length u)
          ∙ sym (ap (λ (n : ℕ). (i + n) % 2 ^ 64) many);
    }

-- ---- a piece

-- `rest` of the piece is left, and the lines of what was answered before are put
pub record Going (x : Run) (b : Buffers) (piece l : List ℕ) (at : ℕ) (rest : List ℕ) (x' : Run) (b' : Buffers) (next : ℕ) (l' : List ℕ) : Type 0 where
  pub answers : List Answered
  pub left : Left x.form b piece rest answers x'.form b'
  pub lined : Lined x.index answers l at x'.index next l'

pub goes : {x : Run} {b : Buffers} {piece l : List ℕ} {at next : ℕ} → x.index < 2 ^ 64 → next ≡ min at (length l) → Going x b piece l at piece x b next l
goes {x} {b} {piece} small here = record { answers = []; left = begins x.form b piece; lined = lined_none small here }

-- one step
pub goes_on : {x x₁ : Run} {b b₁ b₂ : Buffers} {piece l l₁ l₂ rest behind : List ℕ} {at at₁ at₂ n i : ℕ} {u : List Answered} {f : Form}
    → x.index < 2 ^ 64 → Going x b piece l at rest x₁ b₁ at₁ l₁ → Takes x₁.form b₁ rest n u f b₂ → behind ≡ drop n rest → SameSize b₁ b₂
    → Lined x₁.index u l₁ at₁ i at₂ l₂ → Going x b piece l at behind (record { index = i; form = f }) b₂ at₂ l₂
goes_on {u = u} small g takes back same lined =
    record { answers = g.answers ++ u; left = turn g.left takes back same; lined = lined_then small g.lined lined }

pub gone : {x x' : Run} {b b' : Buffers} {piece l l' rest : List ℕ} {at next : ℕ}
    → Going x b piece l at rest x' b' next l' → rest ≡ [] → Prints x b piece l at x' b' next l'
gone g past = record { answers = g.answers; takes = ends g.left past; put = g.lined.put; index = g.lined.index }

-- ---- piece after piece

pub prints_none : {x : Run} {b : Buffers} {l : List ℕ} {at : ℕ} → x.index < 2 ^ 64 → at ≤ length l → Prints x b [] l at x b at l
prints_none {x} {b} small within =
    let lined = lined_here small within in
    record { answers = []; takes = none_taken x.form b; put = lined.put; index = lined.index }

pub prints_then : {x x₁ x₂ : Run} {b b₁ b₂ : Buffers} {xs ys l l₁ l₂ : List ℕ} {at at₁ at₂ : ℕ}
    → x.index < 2 ^ 64 → Prints x b xs l at x₁ b₁ at₁ l₁ → Prints x₁ b₁ ys l₁ at₁ x₂ b₂ at₂ l₂ → Prints x b (xs ++ ys) l at x₂ b₂ at₂ l₂
prints_then small p q =
    let lined = lined_then {t = p.answers} {u = q.answers} small (record { put = p.put; index = p.index }) (record { put = q.put; index = q.index }) in
    record { answers = p.answers ++ q.answers; takes = more p.takes q.takes; put = lined.put; index = lined.index }
