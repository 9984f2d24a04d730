-- The laws of the program's loop: turns add up, and behind the last stands what the frames make; behind a header, what the whole input makes. Assumes nothing.
use Rattle.std.proofs.Common.{◌≡◌, Result, Ok, Err, IfOk, OnOk, OnErr, length-take, ℕ, ◌+◌, ◌%◌, ◌^◌, ◌<◌, ◌≤◌}
use Rattle.std.proofs.Common.{List, [], ◌++◌, length, take, drop, sym, refl, ap, ◌∙◌, subst, arith, mod-eq_of_lt, length-append, take_at, drop_at}
use mathlib.Core.Path.{ap₂}
use Rattle.std.specs.Prelude.{Option, Some, None, option_map}
use Rattle.std.specs.Result.{result_unwrap_or}
use Rattle.std.specs.Io.KnownBytes.{Consumes, Appends}
use Rattle.std.proofs.KnownBytes.{Consumes-nil, Consumes-trans, Appends-nil, Appends-trans}
use Rattle.book.specs.Answers.{Buffers}
use Rattle.book.specs.Sessions as Book
use Rattle.book.specs.Sessions.{Bench, deliver_all}
use Rattle.feeding.proofs.Loop.{none_taken, more}
use Rattle.feeding.specs.Feeding.{rest_in, cuts}
use Rattle.first_state.specs.First.{first_state}
use Rattle.frames.specs.Streams.{Rest, begun, stream_of}
use Rattle.headers.specs.Headers.{header_of}
use Rattle.headers.specs.declared.Header.{Header}
use Rattle.headers.proofs.Reading.{header_eight, too_short}
use Rattle.once.specs.AllOnce.{bench}
use Rattle.once.specs.Answered.{Answered, answers_of}
use Rattle.printing.specs.Printed.{answer_lines, closing}
use Rattle.program.proofs.Fresh.{fresh_rest}
use Rattle.program.proofs.Pieces.{lines_on, index_on}
use Rattle.program.specs.Program.{Run, fresh, lines_of, printed_by, printed}
use Rattle.stream.specs.Lines.{bad_header_line}
use Rattle.bench_run.specs.Turns.{Begins, Writes, Closes, Goes, WritesOf}

-- ---- turns

same_index : (i : ℕ) → i < 2 ^ 64 → i ≡ (i + 0) % 2 ^ 64
same_index i small = let same : i ≡ i + 0 = omega arith in sym (mod-eq_of_lt small) ∙ ap (λ (k : ℕ). k % 2 ^ 64) same

pub goes_none : (from to : Option (List ℕ)) (x : Run) (b : Buffers) → x.index < 2 ^ 64 → Goes from from to to x b x b
goes_none from to x b small =
    record {
      read = [];
      written = [];
      consumed = Consumes-nil from;
      appended = Appends-nil to;
      writes = record { answers = []; takes = none_taken x.form b; lines = refl; index = same_index x.index small };
    }

writes_then : {x x₁ x₂ : Run} {b b₁ b₂ : Buffers} {r s v w : List ℕ} → x.index < 2 ^ 64 → Writes x b r v x₁ b₁ → Writes x₁ b₁ s w x₂ b₂
    → Writes x b (r ++ s) (v ++ w) x₂ b₂
writes_then {x} small p q =
    let t = p.answers in
    let u = q.answers in
    record {
      answers = t ++ u;
      takes = more p.takes q.takes;
      lines =
          ap₂ (λ (v w : List ℕ). v ++ w) p.lines q.lines
          ∙ ap (λ (n : ℕ). answer_lines x.index t ++ answer_lines n u) p.index
          ∙ sym (lines_on x.index t u small);
      index =
          q.index
          ∙ ap (λ (n : ℕ). (n + length u) % 2 ^ 64) p.index
          ∙ index_on x.index (length t) (length u)
          ∙ sym (ap (λ (n : ℕ). (x.index + n) % 2 ^ 64) (length-append t u));
    }

pub goes_then : (from from₁ from₂ to to₁ to₂ : Option (List ℕ)) {x x₁ x₂ : Run} {b b₁ b₂ : Buffers} {read written : List ℕ} → x.index < 2 ^ 64
    → Goes from from₁ to to₁ x b x₁ b₁ → Consumes from₁ from₂ read → Writes x₁ b₁ read written x₂ b₂ → Appends to₁ to₂ written
    → Goes from from₂ to to₂ x b x₂ b₂
goes_then from from₁ from₂ to to₁ to₂ {read = read} {written = written} small p consumed writes appended =
    record {
      read = p.read ++ read;
      written = p.written ++ written;
      consumed = Consumes-trans from from₁ from₂ p.read read p.consumed consumed;
      appended = Appends-trans to to₁ to₂ p.written written p.appended appended;
      writes = writes_then small p.writes writes;
    }

-- ---- behind the last turn

lines : ℕ → Rest → Bench → List ℕ → List ℕ
lines i r x bytes =
    let st = stream_of r bytes in
    let end = deliver_all x st.deliveries in
    answer_lines i (answers_of x st.deliveries) ++ closing (cuts st.rest) end.session end.state

whole_lines : {x x' : Run} {b b' : Buffers} {read written : List ℕ} → Writes x b read written x' b' → x.index ≡ 0 → rest_in x.form ≡ begun []
    → written ++ closing (cuts (rest_in x'.form)) x'.form.session b' ≡ lines_of x.form.session b read
unfolding lines
whole_lines {x} {x'} {b} {b'} {read} {written} p first new =
    let run = bench x.form.session b in
    ap (λ (v : List ℕ). v ++ closing (cuts (rest_in x'.form)) x'.form.session b') p.lines
    ∙ ap₂ (λ (t : List Answered) (r : Rest). answer_lines x.index t ++ closing (cuts r) x'.form.session b') p.takes.told p.takes.rest
    ∙ ap
    (λ (y : Bench). let st = stream_of (rest_in x.form) read in
    answer_lines x.index (answers_of run st.deliveries) ++ closing (cuts st.rest) y.session y.state)
    p.takes.once.run
    ∙ ap₂ (λ (i : ℕ) (r : Rest). lines i r run read) first new

pub goes_to_its_end : (from from' to to₁ to₂ : Option (List ℕ)) {x x' : Run} {b b' : Buffers} → Begins x b → Goes from from' to to₁ x b x' b'
    → (written : List ℕ) × Closes x' b' written × Appends to₁ to₂ written → WritesOf (lines_of x.form.session b) from from' to to₂
goes_to_its_end from from' to to₁ to₂ {x} {x'} {b} {b'} s g c =
    let first : x.index ≡ 0 = ap (λ (y : Run). y.index) s.run in
    let new = ap (λ (y : Run). rest_in y.form) s.run ∙ fresh_rest s.n s.own in
    let all = Appends-trans to to₁ to₂ g.written c.0 g.appended c.2 in
    (g.read, g.consumed, subst (Appends to to₂) (ap (λ (w : List ℕ). g.written ++ w) c.1 ∙ whole_lines g.writes first new) all)

-- a run that begins
pub from_start : (n own : ℕ) (from from' to to' : Option (List ℕ)) {x : Run} {b : Buffers} → x ≡ fresh n own → b ≡ first_state n
    → WritesOf (lines_of x.form.session b) from from' to to' → WritesOf (lines_of (Book.fresh n own) (first_state n)) from from' to to'
from_start n own from from' to to' is state a =
    subst (λ (make : List ℕ → List ℕ). WritesOf make from from' to to') (ap₂ (λ (y : Run) (c : Buffers). lines_of y.form.session c) is state) a

-- ---- behind the header

clash : {A B : Type 0} {x : A} {h : Option A} → Some x ≡ h → None ≡ h → B
clash {h = Some x} is other = let z : ◌≡◌ {A = ℕ} 0 1 = cc in absurd (omega arith)
clash {h = None} is other = let z : ◌≡◌ {A = ℕ} 0 1 = cc in absurd (omega arith)

-- what a header tells
abbrev pub told : Header → ℕ × ℕ
told h = (h.n, h.session)

-- what the code read is what the definition reads
tells : {r : Option Header} {h : Option Header} {o : Option (ℕ × ℕ)} → option_map told r ≡ o → r ≡ h → option_map told h ≡ o
tells is e = sym (ap (option_map told) e) ∙ is

printed_good : (bs frames : List ℕ) {h : ℕ × ℕ} → length bs ≤ 8 → Some h ≡ header_of bs
    → lines_of (Book.fresh h.0 h.1) (first_state h.0) frames ≡ printed (bs ++ frames)
unfolding printed
printed_good bs frames {h} most is =
    let long : (length bs < 8 → ⊥) = λ (few : length bs < 8). clash is (too_short bs few) in
    let eight : length bs ≡ 8 = omega (arith, long) in
    let header : Some h ≡ header_of (bs ++ frames) = is ∙ sym (ap header_of (take_at bs frames 8 eight)) ∙ header_eight (bs ++ frames) in
    ap₂ printed_by header (sym (drop_at bs frames 8 eight))

printed_bad : (bs : List ℕ) → None ≡ header_of bs → bad_header_line ≡ printed bs
unfolding printed
printed_bad bs is = ap (λ (h : Option (ℕ × ℕ)). printed_by h (drop 8 bs)) is

-- a good header was read whole
header_read : {E : Type 0} (r : Result ℕ E) (got : ℕ) (head : List ℕ) (from from' : Option (List ℕ)) {h : ℕ × ℕ} → got ≡ result_unwrap_or r 0
    → Some h ≡ header_of (take got head) → IfOk r (λ k. Consumes from from' (take k head)) → Consumes from from' (take got head)
header_read (Ok k) got head from from' are is read = subst (λ (m : ℕ). Consumes from from' (take m head)) (sym are) read
header_read (Err e) got head from from' are is read = clash is (too_short (take got head) (omega (arith, length-take got head, are)))

pub ends_well : {A E P Q : Type 0} (r : Result A E) → (P → Q) → OnOk r P → OnOk r Q
ends_well (Ok x) f p = f p
ends_well (Err e) f p = tt

pub answers_good : {A E F : Type 0} (r : Result ℕ E) (out : Result A F) (got : ℕ) (head : List ℕ) (from from₁ from₂ to to' : Option (List ℕ))
    {read : Option Header} {h : Header}
    → got ≡ result_unwrap_or r 0 → length head ≡ 8 → option_map told read ≡ header_of (take got head) → read ≡ Some h
    → IfOk r (λ k. Consumes from from₁ (take k head))
    → OnOk out (WritesOf (lines_of (Book.fresh h.n h.session) (first_state h.n)) from₁ from₂ to to') → OnOk out (WritesOf printed from from₂ to to')
answers_good r out got head from from₁ from₂ to to' are long tell good read =
    let is = tells tell good in
    let whole = header_read r got head from from₁ are is read in
    let bs = take got head in
    let most : length bs ≤ 8 = omega (arith, length-take got head, long) in
    ends_well out
    (λ a. (bs ++ a.0, Consumes-trans from from₁ from₂ bs a.0 whole a.1, subst (Appends to to') (printed_good bs a.0 most is) a.2))

pub answers_bad : {A E F : Type 0} (r : Result ℕ E) (out : Result A F) (got : ℕ) (head : List ℕ) (from from' to to' : Option (List ℕ))
    {read : Option Header}
    → got ≡ result_unwrap_or r 0 → length head ≡ 8 → option_map told read ≡ header_of (take got head) → read ≡ None
    → IfOk r (λ k. Consumes from from' (take k head))
    → OnErr r ((m : ℕ) × (m < length head) × Consumes from from' (take m head))
    → OnOk out (Appends to to' bad_header_line) → OnOk out (WritesOf printed from from' to to')
answers_bad (Ok k) out got head from from' to to' are long tell bad read lost =
    let is = tells tell bad in
    ends_well out
    (λ put. (take got head, subst (λ (m : ℕ). Consumes from from' (take m head)) (sym are) read, subst (Appends to to') (printed_bad (take got head) is) put))
answers_bad (Err e) out got head from from' to to' are long tell bad read lost =
    let few : length (take lost.0 head) < 8 = omega (arith, length-take lost.0 head, lost.1, long) in
    ends_well out
    (λ put. (take lost.0 head, lost.2, subst (Appends to to') (printed_bad (take lost.0 head) (too_short (take lost.0 head) few)) put))
