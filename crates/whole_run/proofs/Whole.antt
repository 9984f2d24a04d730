-- The whole input, piece after piece: what the pieces so far print is what the bytes so far print; and behind them stands what a run from the start ends with.
-- Assumes nothing.
use Prim.Native.Nat.{ℕ, ◌^◌, ◌<◌}
use native.Mathlib.Omega.{arith}
use mathlib.Core.List.{List, [], ◌∷◌, ◌++◌, append-nil, append_assoc}
use mathlib.Core.Path.{◌≡◌, refl, sym, ap, ap₂, ◌∙◌, subst}
use lib.ListN.{length, drop}
use Rattle.book.specs.Answers.{Buffers}
use Rattle.book.specs.Lent.{SameSize}
use Rattle.book.specs.Sessions as Book
use Rattle.book.specs.Sessions.{Bench, deliver_all}
use Rattle.feeding.specs.Feeding.{rest_in, cuts}
use Rattle.headers.specs.Headers.{header_of}
use Rattle.frames.specs.Streams.{Rest, begun, stream_of}
use Rattle.headers.specs.declared.Header.{Header}
use Rattle.std.specs.Prelude.{Option, Some, None, option_map}
use Rattle.once.specs.AllOnce.{bench}
use Rattle.once.specs.Answered.{Answered, answers_of}
use Rattle.puts.proofs.Puts.{put_then}
use Rattle.printing.specs.Printed.{answer_lines, closing}
use Rattle.puts.specs.Put.{Put}
use Rattle.program.proofs.Pieces.{prints_none, prints_then}
use Rattle.stream.specs.Lines.{bad_header_line}
use Rattle.program.proofs.Fresh.{fresh_rest}
use Rattle.first_state.specs.First.{first_state}
use Rattle.program.specs.Program.{lines_of, printed_by, printed, Run, fresh, Prints}

-- ---- piece after piece

-- `rest` of the bytes is left, and the lines of those before it are put
pub record Part (x : Run) (b : Buffers) (bytes l rest : List ℕ) (x' : Run) (b' : Buffers) (next : ℕ) (l' : List ℕ) : Type 0 where
  pub small : x.index < 2 ^ 64
  pub same : SameSize b b'
  pub before : List ℕ
  pub whole : before ++ rest ≡ bytes
  pub prints : Prints x b before l 0 x' b' next l'

pub part_none : {x : Run} {b : Buffers} {bytes l rest : List ℕ} → x.index < 2 ^ 64 → rest ≡ bytes → Part x b bytes l rest x b 0 l
part_none small all =
    record { small = small; same = record { reals = refl; imags = refl }; before = []; whole = all; prints = prints_none small (omega arith) }

pub part_more : {x x₁ x₂ : Run} {b b₁ b₂ : Buffers} {bytes l l₁ l₂ rest piece behind : List ℕ} {at₁ at₂ : ℕ}
    → Part x b bytes l rest x₁ b₁ at₁ l₁ → rest ≡ piece ++ behind → Prints x₁ b₁ piece l₁ at₁ x₂ b₂ at₂ l₂ → SameSize b₁ b₂
    → Part x b bytes l behind x₂ b₂ at₂ l₂
part_more {piece = piece} {behind = behind} p cut q keeps =
    record {
      small = p.small;
      same = record { reals = keeps.reals ∙ p.same.reals; imags = keeps.imags ∙ p.same.imags };
      before = p.before ++ piece;
      whole = append_assoc p.before piece behind ∙ ap (λ (r : List ℕ). p.before ++ r) (sym cut) ∙ p.whole;
      prints = prints_then p.small p.prints q;
    }

pub part_all : {x x' : Run} {b b' : Buffers} {bytes l l' rest : List ℕ} {next : ℕ}
    → Part x b bytes l rest x' b' next l' → length rest ≡ 0 → Prints x b bytes l 0 x' b' next l'
part_all {rest = []} p none = rw (sym (append-nil p.before) ∙ p.whole) at p.prints
part_all {rest = r ∷ rest} p none = absurd (omega arith)

-- ---- and what stands behind them

-- what bytes print, numbered from a number, behind what is left of others, and behind a run
abbrev lines : ℕ → Rest → Bench → List ℕ → List ℕ
lines i r x bytes =
    let st = stream_of r bytes in
    let end = deliver_all x st.deliveries in
    answer_lines i (answers_of x st.deliveries) ++ closing (cuts st.rest) end.session end.state

pub closed : {x x' : Run} {b b' : Buffers} {bytes l l₁ l₂ : List ℕ} {at next : ℕ} → Prints x b bytes l 0 x' b' at l₁
    → Put (closing (cuts (rest_in x'.form)) x'.form.session b') l₁ at next l₂ → x.index ≡ 0 → rest_in x.form ≡ begun []
    → Put (lines_of x.form.session b bytes) l 0 next l₂
closed {x} {x'} {b} {b'} {bytes} p put first fresh =
    let run = bench x.form.session b in
    let put_all_lem = put_then p.put put in
    let same : answer_lines x.index p.answers ++ closing (cuts (rest_in x'.form)) x'.form.session b' ≡ lines_of x.form.session b bytes =
    ap₂ (λ (t : List Answered) (r : Rest). answer_lines x.index t ++ closing (cuts r) x'.form.session b') p.takes.told p.takes.rest
    ∙ ap
    (λ (y : Bench). let st = stream_of (rest_in x.form) bytes in
    answer_lines x.index (answers_of run st.deliveries) ++ closing (cuts st.rest) y.session y.state)
    p.takes.once.run
    ∙ ap₂ (λ (i : ℕ) (r : Rest). lines i r run bytes) first fresh in
    rw same at put_all_lem

-- ---- from the start

pub from_start : (n own : ℕ) (bytes : List ℕ) {x : Run} {b : Buffers} {l l' : List ℕ} {next : ℕ} → x ≡ fresh n own → b ≡ first_state n
    → (x.index ≡ 0 → rest_in x.form ≡ begun [] → Put (lines_of x.form.session b bytes) l 0 next l')
    → Put (lines_of (Book.fresh n own) (first_state n) bytes) l 0 next l'
from_start n own bytes {l = l} {l' = l'} {next = next} is state put =
    subst (λ (ws : List ℕ). Put ws l 0 next l')
    (ap₂ (λ (y : Run) (c : Buffers). lines_of y.form.session c bytes) is state)
    (put (ap (λ (y : Run). y.index) is) (ap (λ (y : Run). rest_in y.form) is ∙ fresh_rest n own))

-- what a header tells
abbrev pub told : Header → ℕ × ℕ
told h = (h.n, h.session)

pub printed_good : (input : List ℕ) {r : Option Header} {h : Header} {next : ℕ} {frames l l' : List ℕ}
    → option_map told r ≡ header_of input → r ≡ Some h → frames ≡ drop 8 input
    → Put (lines_of (Book.fresh h.n h.session) (first_state h.n) frames) l 0 next l' → Put (printed input) l 0 next l'
unfolding printed
printed_good input {r} {h} {next} {frames} {l} {l'} is good behind put =
    subst (λ (ws : List ℕ). Put ws l 0 next l') (ap₂ printed_by (sym (ap (option_map told) good) ∙ is) behind) put

pub printed_bad : (input : List ℕ) {r : Option Header} {next : ℕ} {l l' : List ℕ} → option_map told r ≡ header_of input → r ≡ None
    → Put bad_header_line l 0 next l' → Put (printed input) l 0 next l'
unfolding printed
printed_bad input {r} {next} {l} {l'} is bad put =
    subst (λ (ws : List ℕ). Put ws l 0 next l') (ap (λ (g : Option (ℕ × ℕ)). printed_by g (drop 8 input)) (sym (ap (option_map told) bad) ∙ is)) put
