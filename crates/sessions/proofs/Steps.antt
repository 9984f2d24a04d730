-- A delivery in the code's terms: by what was read, and by where the record stands. 1 and 2 stand before all else, and the gate's own tests begin with
-- them, so the next record's gate decides by itself. Assumes nothing.
use Prim.Native.Nat.{ℕ, zero, suc, ◌+◌}
use mathlib.Core.Bool.{Bool, true, false, cond}
use mathlib.Core.List.{List, ◌++◌}
use Rattle.std.specs.Prelude.{Option, Some, None, Ok, Err}
use mathlib.Core.Path.{◌≡◌, refl, sym, ap, ap₂, ◌∙◌}
use Rattle.book.proofs.Calls.{refused_keeps, sized_right, sized_wrong}
use Rattle.book.proofs.Refusals.{sizes_numbered}
use Rattle.book.specs.Answers.{Said, refused, Answer, Replied, said, replies, first, Buffers, Outcome, Call, accepted, unless, accepts, Does}
use Rattle.book.specs.Calls.{call_of, act}
use Rattle.book.specs.Kernels.{size_tests}
use Rattle.book.specs.Records.{write_record, read_record}
use Rattle.book.specs.Sessions as Book
use Rattle.book.specs.Sessions.{marked, raised, kept, counted, standing, take_record, take_read, deliver}
use Rattle.book.specs.declared.Record.{Record}
use Rattle.book.specs.declared.Reply.{Reply}
use Rattle.seated.specs.Judging.{Ruling, ruled, Judges}
use Rattle.counting.specs.Counts.{kept_by, Counts, refused_for, behind, Passes}
use Rattle.counting.specs.declared.Counted.{Counted}
use Rattle.sessions.specs.Deliveries.{meant, told, unsized, Delivers}
use Rattle.sessions.specs.declared.Delivered.{Delivered}
use Rattle.sessions.specs.declared.Session.{Session}

-- ---- the definition's delivery, in three cases

module _ (s : Book.Session) (b : Buffers) (bytes : List ℕ) where
  -- what is not run
  stays : (x : Replied) → take_read s b 0 (read_record bytes) ≡ kept s b x → deliver s b bytes ≡ unsized s b x
  unfolding deliver
  stays x e = by (first (size_tests s.n b))
    where
      by : (k : ℕ) → take_read s b k (read_record bytes) ≡ kept s b (behind k x)
      by zero = e
      by (suc k) = refl

  pub unread : read_record bytes ≡ None → deliver s b bytes ≡ unsized s b (said (refused 8))
  unread e = stays (said (refused 8)) (ap (take_read s b 0) e)

  module _ (r : Record) (e : read_record bytes ≡ Some r) where
    pub answered : (x : Replied) → Some x ≡ standing s r → deliver s b bytes ≡ unsized s b x
    answered x f = stays x (ap (take_read s b 0) e ∙ ap (take_record s b r) (sym f))

    -- the next record: its gate decides, 1 and 2 too
    pub goes : None ≡ standing s r → deliver s b bytes ≡ counted s b r (call_of s.n r.gate b).answer (act s.n r.gate b)
    unfolding deliver
    goes f = by (first (size_tests s.n b)) refl
      where
        v : Option ℕ
        v = (call_of s.n r.gate b).answer

        by : (k : ℕ) → first (size_tests s.n b) ≡ k → take_read s b k (read_record bytes) ≡ counted s b r v (act s.n r.gate b)
        by zero z =
            ap (take_read s b 0) e ∙ ap (take_record s b r) (sym f)
            ∙ ap (counted s b r v) (sym (sized_right b (call_of s.n r.gate b) (size_tests s.n b) (sizes_numbered s.n b) z))
        by (suc k) z = sym (ap (counted s b r v) (sized_wrong b (call_of s.n r.gate b) (size_tests s.n b) z))

-- ---- the code's answers
-- Each part of a contract is found by `search`, here and for `deliver`: a part that asks less is proved too, and is missed by who goes by it.

pub by_is : {d d' : Book.Delivery} {a : Delivered} {b : Buffers} → d' ≡ d → Delivers d a b → Delivers d' a b
by_is e h = rw e h

-- a judge's ruling is refused for what it is ruled
ruling_is : (size : Ruling) → refused_for size ≡ ruled size
ruling_is (Ok u) = refl
ruling_is (Err r) = refl

-- what a gate's answer makes of the value that is kept: a taken one's own takes its place
kept_by_lem : (k : ℕ) (b : Buffers) (c : Call) (v : Option ℕ) → kept_by (unless k b c).says v ≡ cond (accepts (unless k b c).says) c.answer v
kept_by_lem zero b c v = by c.answer
  where
    by : (x : Option ℕ) → kept_by (accepted x) v ≡ cond (accepts (accepted x)) x v
    by None = refl
    by (Some w) = refl
kept_by_lem (suc k) b c v = refl

module _ (s : Session) (b : Buffers) {a : Delivered} {k : Counted} (e : a ≡ told s k) where
  abbrev counting : ℕ → Option ℕ → ℕ → Book.Session
  counting count v mark = record { n = s.n; number = s.number; count = count; value = v; mark = mark }

  next_is : {count mark : ℕ} {v : Option ℕ} → k.count ≡ count → k.value ≡ v → k.mark ≡ mark
      → meant (told s k).next ≡ counting count v mark
  next_is c x m = λ i. counting (c i) (x i) (m i)

  -- the record was not run
  pub passes : {x : Reply} {size : Ruling} → Judges (size_tests s.n b) size → Passes s.count s.value s.mark size x k
      → Delivers (unsized (meant s) b (replies x)) a b
  passes {x} {size} j p =
      let reply = p.reply ∙ ap (λ (y : ℕ). behind y (replies x)) (ruling_is size ∙ j.is) in
      rw e (record { next = search (next_is p.counts p.value p.marks); reply = search reply; count = search p.counts; leaves = refl })

  -- its gate was run; the bytes of one that was taken are those that it is written as
  pub ran : (bytes : List ℕ) (r : Record) {b' : Buffers} {answer : Answer} {next : ℕ} → Does (act s.n r.gate b) answer b' → next ≡ s.count + 1
      → (accepts (act s.n r.gate b).says ≡ true → write_record r ≡ bytes) → Counts s.count s.value s.mark next bytes answer k
      → Delivers (counted (meant s) b r (call_of s.n r.gate b).answer (act s.n r.gate b)) a b'
  ran bytes r {b'} {answer} {next} d one written c =
      let work = call_of s.n r.gate b in
      let o = act s.n r.gate b in
      let sizes = size_tests s.n b in
      let counts : k.count ≡ cond (accepts o.says) (s.count + 1) s.count =
      c.counts ∙ ap₂ (λ (x : Said) (j : ℕ). cond (accepts x) j s.count) d.answers one in
      let value : k.value ≡ cond (accepts o.says) work.answer s.value =
      c.value ∙ ap (λ (x : Said). kept_by x s.value) d.answers ∙ kept_by_lem (first (sizes ++ work.tests)) b work s.value in
      let mark : k.mark ≡ cond (accepts o.says) (marked s.mark bytes) s.mark =
      c.marks ∙ ap (λ (x : Said). cond (accepts x) (marked s.mark bytes) s.mark) d.answers in
      rw e (by (accepts o.says) o work.answer (refused_keeps b work sizes) written counts value mark (c.reply ∙ ap said d.answers) d.leaves)
    where
      by : (t : Bool) (o : Outcome) (v : Option ℕ) → (t ≡ false → o.left ≡ b) → (t ≡ true → write_record r ≡ bytes)
          → k.count ≡ cond t (s.count + 1) s.count → k.value ≡ cond t v s.value
          → k.mark ≡ cond t (marked s.mark bytes) s.mark → replies k.reply ≡ said o.says → b' ≡ o.left
          → let taken : Book.Delivery = record { next = raised (meant s) r v; says = said o.says; left = o.left } in
          Delivers (cond t taken (kept (meant s) b (said o.says))) (told s k) b'
      by true o v keeps written c x m y l =
          record { next = search (next_is c x (m ∙ ap (marked s.mark) (sym (written refl)))); reply = search; count = search; leaves = search }
      by false o v keeps written c x m y l =
          record { next = search (next_is c x m); reply = search; count = search; leaves = search (l ∙ keeps refl) }
