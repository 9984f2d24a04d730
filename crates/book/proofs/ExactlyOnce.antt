-- Demand 3, proved: by one delivery after the other, with `Holds` between them. Junk, repeats, early records and other sessions' leave everything as it is and
-- make no start longer; the next record of the list is taken, since all are accepted in order, and makes the longest start one longer. Assumes nothing.
use Prim.Native.Nat.{ℕ, zero, suc, ◌+◌, ◌^◌, ◌<◌}
use mathlib.Core.Bool.{Bool, true, false, cond}
use mathlib.Core.List.{List, [], ◌∷◌, ◌++◌, append-nil, append_assoc, flat_map}
use mathlib.Core.Logic.{inl, inr, ⊎_elim}
use Rattle.std.specs.Prelude.{Option, Some, None}
use mathlib.Core.Path.{◌≡◌, refl, sym, ap, ap₂, ◌∙◌, subst}
use native.Mathlib.Nat.{add-zero, zero-add}
use native.Mathlib.Numerals.{add-one}
use native.Mathlib.Omega.{arith}
use borrow.Author.Tests.{lt-ltb, le-ltb, eq-eqb, ne_eqb, ltb-true, ltb-false}
use lib.Dec.{ltb, eqb}
use lib.ListN.{length, take, drop, get_or, take-append-drop}
use Rattle.book.specs.Answers.{refused, again, said, Replied, first, Buffers, Outcome, outcome_of, accepts}
use Rattle.book.specs.Calls.{call_of, act}
use Rattle.book.specs.ExactlyOnce.{Longest, In, Numbered, give, last_value, OneOf, AllOf, cons, seen, Given, ExactlyOnce}
use Rattle.book.specs.Kernels.{bad_size, most_qubits, bad_length, size_tests}
use Rattle.book.specs.Records.{write_record, read_record}
use Rattle.book.specs.Sessions.{Session, fresh, marked, raised, Delivery, kept, counted, told_again, standing}
use Rattle.book.specs.Sessions.{take_record, take_read, deliver, deliver_all}
use Rattle.book.specs.declared.Record.{Record}
use Rattle.book.proofs.Calls.{sized_right}
use Rattle.book.proofs.Found.{longest_none, longest_same, longest_next}
use Rattle.book.proofs.Lengths.{act_fits}
use Rattle.book.proofs.Refusals.{sizes_numbered, sizes_right}

-- ---- the list of records

-- a record of the list stands at its number
record Placed (own j : ℕ) (r : Record) (rs : List Record) : Type 0 where
  i : ℕ
  theirs : r.session ≡ own
  is : r.number ≡ j + i
  within : i < length rs
  start : take (suc i) rs ≡ take i rs ++ (r ∷ [])

placed : (own j : ℕ) (rs : List Record) (r : Record) → Numbered own j rs → In r rs → Placed own j r rs
placed own j [] r w h = elim h [ ]
placed own j (x ∷ rs) r w (inl e) =
    record {
      i = 0;
      theirs = ap (λ (y : Record). y.session) e ∙ w.0;
      is = ap (λ (y : Record). y.number) e ∙ w.1 ∙ sym (add-zero j);
      within = omega arith;
      start = ap (λ (y : Record). y ∷ []) (sym e);
    }
placed own j (x ∷ rs) r w (inr h) =
    let p = placed own (j + 1) rs r w.2 h in
    record {
      i = suc p.i;
      theirs = p.theirs;
      is = omega (arith, p.is);
      within = omega (arith, p.within);
      start = ap (λ (l : List Record). x ∷ l) p.start;
    }

numbered_at : (own j : ℕ) (rs : List Record) (i : ℕ) (d : Record) → Numbered own j rs → i < length rs
    → ((get_or rs i d).session ≡ own) × ((get_or rs i d).number ≡ j + i)
numbered_at own j [] i d w h = absurd (omega arith)
numbered_at own j (x ∷ rs) zero d w h = (w.0, w.1 ∙ sym (add-zero j))
numbered_at own j (x ∷ rs) (suc i) d w h = let at = numbered_at own (j + 1) rs i d w.2 (omega arith) in (at.0, omega (arith, at.1))

-- ---- what records give

-- a gate was taken, and the rest gave e
went : (t : Bool) (rest : Option Buffers) (e : Buffers) → cond t rest None ≡ Some e → (t ≡ true) × (rest ≡ Some e)
went true rest e h = (refl, h)
went false rest e h = let z : ◌≡◌ {A = ℕ} 0 1 = cc in absurd (omega arith)

module _ (n : ℕ) where
  give_start : (xs ys : List Record) (b e : Buffers) → give n b (xs ++ ys) ≡ Some e → (mid : Buffers) × (give n b xs ≡ Some mid) × (give n mid ys ≡ Some e)
  give_start [] ys b e h = (b, refl, h)
  give_start (r ∷ xs) ys b e h =
      let (t, rest) = went (accepts (act n r.gate b).says) (give n (act n r.gate b).left (xs ++ ys)) e h in
      let m = give_start xs ys (act n r.gate b).left e rest in
      (m.0, ap (λ (t : Bool). cond t (give n (act n r.gate b).left xs) None) t ∙ m.1, m.2)

  give_one_more : (xs : List Record) (r : Record) (b mid : Buffers) → give n b xs ≡ Some mid → accepts (act n r.gate mid).says ≡ true
      → give n b (xs ++ (r ∷ [])) ≡ Some (act n r.gate mid).left
  give_one_more [] r b mid h a =
      let p : b ≡ mid = cc h in
      subst (λ (m : Buffers). cond (accepts (act n r.gate m).says) (Some (act n r.gate m).left) None ≡ Some (act n r.gate mid).left) (sym p) (rw a)
  give_one_more (y ∷ xs) r b mid h a =
      let (t, rest) = went (accepts (act n y.gate b).says) (give n (act n y.gate b).left xs) mid h in
      ap (λ (t : Bool). cond t (give n (act n y.gate b).left (xs ++ (r ∷ []))) None) t
      ∙ give_one_more xs r (act n y.gate b).left mid rest a

  -- the last of them has its value from what those before it gave
  last_one_more : (xs : List Record) (r : Record) (b mid : Buffers) (v : Option ℕ) → give n b xs ≡ Some mid
      → last_value n b v (xs ++ (r ∷ [])) ≡ (call_of n r.gate mid).answer
  last_one_more [] r b mid v h = let p : b ≡ mid = cc h in ap (λ (m : Buffers). (call_of n r.gate m).answer) p
  last_one_more (y ∷ xs) r b mid v h =
      let (t, rest) = went (accepts (act n y.gate b).says) (give n (act n y.gate b).left xs) mid h in
      last_one_more xs r (act n y.gate b).left mid (call_of n y.gate b).answer rest

  -- where all are accepted, the next one is
  next_accepted : (rs : List Record) (r : Record) (k : ℕ) (b mid e : Buffers) → take (suc k) rs ≡ take k rs ++ (r ∷ [])
      → give n b rs ≡ Some e → give n b (take k rs) ≡ Some mid → accepts (act n r.gate mid).says ≡ true
  next_accepted rs r k b mid e start all now =
      let x = give_start (take (suc k) rs) (drop (suc k) rs) b e (ap (give n b) (take-append-drop (suc k) rs) ∙ all) in
      let y = give_start (take k rs) (r ∷ []) b x.0 (ap (give n b) (sym start) ∙ x.1) in
      let same : y.0 ≡ mid = cc (y.1, now) in
      subst (λ (m : Buffers). accepts (act n r.gate m).says ≡ true) same
      (went (accepts (act n r.gate y.0).says) (Some (act n r.gate y.0).left) x.0 y.2).0

-- ---- the mark

marked_append : (xs ys : List ℕ) (m : ℕ) → marked m (xs ++ ys) ≡ marked (marked m xs) ys
unfolding marked
marked_append [] ys m = refl
marked_append (x ∷ xs) ys m = marked_append xs ys _

bytes_one_more : (xs : List Record) (r : Record) → flat_map write_record (xs ++ (r ∷ [])) ≡ flat_map write_record xs ++ write_record r
unfolding flat_map
bytes_one_more [] r = append-nil (write_record r)
bytes_one_more (x ∷ xs) r =
    ap (λ (l : List ℕ). write_record x ++ l) (bytes_one_more xs r) ∙ sym (append_assoc (write_record x) (flat_map write_record xs) (write_record r))

-- before any record
pub unmarked : 0 ≡ marked 0 (flat_map write_record [])
unfolding marked flat_map
unmarked = refl

-- a record more moves the mark by its bytes
mark_one_more : (xs : List Record) (r : Record) (m : ℕ) → m ≡ marked 0 (flat_map write_record xs)
    → marked m (write_record r) ≡ marked 0 (flat_map write_record (xs ++ (r ∷ [])))
mark_one_more xs r m e =
    ap (λ (k : ℕ). marked k (write_record r)) e
    ∙ sym (marked_append (flat_map write_record xs) (write_record r) 0) ∙ sym (ap (marked 0) (bytes_one_more xs r))

-- ---- one delivery

module _ (n own : ℕ) (b₀ : Buffers) (rs : List Record) (g : Given n own b₀ rs) where
  -- what holds between deliveries, with the records `xs` seen so far
  record Holds (xs : List Record) (s : Session) (b : Buffers) : Type 0 where
    n_is : s.n ≡ n
    own_is : s.number ≡ own
    longest : Longest s.count rs xs
    state : give n b₀ (take s.count rs) ≡ Some b
    value : s.value ≡ last_value n b₀ None (take s.count rs)
    mark : s.mark ≡ marked 0 (flat_map write_record (take s.count rs))
    fits : bad_length (2 ^ n) b ≡ false

  started : (t : Bool) → cond t None (Some (fresh n own)) ≡ Some g.session → (t ≡ false) × (g.session ≡ fresh n own)
  started true e = let z : ◌≡◌ {A = ℕ} 0 1 = cc in absurd (omega arith)
  started false e = (refl, cc)

  right : (b : Buffers) → bad_length (2 ^ n) b ≡ false → first (size_tests n b) ≡ 0
  right b h = sizes_right n b (started (bad_size most_qubits n) g.fresh).0 h

  -- an accepted gate of a delivery is that of demand 2: 1 and 2 do not apply
  acts : (b : Buffers) → bad_length (2 ^ n) b ≡ false → (r : Record) → outcome_of [] b (call_of n r.gate b) ≡ act n r.gate b
  acts b h r = sym (sized_right b (call_of n r.gate b) (size_tests n b) (sizes_numbered n b) (right b h))

  module _ (s : Session) (b : Buffers) (xs : List Record) (h : Holds xs s b) where
    k : ℕ
    k = s.count

    ready : (bytes : List ℕ) → deliver s b bytes ≡ take_read s b 0 (read_record bytes)
    unfolding deliver
    ready bytes = ap (λ (k : ℕ). take_read s b k (read_record bytes)) (ap (λ (m : ℕ). first (size_tests m b)) h.n_is ∙ right b h.fits)

    -- a delivery that changes nothing, and makes no start longer
    stays : (ys : List Record) (d : Delivery) (x : Replied) → d ≡ kept s b x → Longest k rs ys → Holds ys d.next d.left
    unfolding k
    stays ys d x e m =
        rw e (record { n_is = h.n_is; own_is = h.own_is; longest = m; state = h.state; value = h.value; mark = h.mark; fits = h.fits })

    module _ (r : Record) (p : Placed own 0 r rs) where
      -- the tests 9 and 11, that a record of the list passes
      theirs : eqb r.session s.number ≡ true
      theirs = eq-eqb r.session s.number (p.theirs ∙ sym h.own_is)

      not_full : eqb r.number 65535 ≡ false
      not_full = ne_eqb r.number 65535 (λ e. omega (arith, p.is, p.within, g.few))

      -- a record that is not the next: the longest start stays
      not_next : (r.number ≡ k → ⊥) → Longest k rs (xs ++ (r ∷ []))
      unfolding k
      not_next other =
          longest_same r h.longest
          (λ room e. other (ap (λ (y : Record). y.number) (sym e) ∙ (numbered_at own 0 rs k r g.made room).1 ∙ zero-add k))

      module _ (d : Delivery) (is : d ≡ take_record s b r (standing s r)) where
        answered : (x : Option Replied) → standing s r ≡ x → d ≡ take_record s b r x
        answered x e = is ∙ ap (take_record s b r) e

        repeated : r.number < s.count → Holds (xs ++ (r ∷ [])) d.next d.left
        unfolding k
        repeated m =
            let x = again (told_again s.count s.value r.number) in
            stays (xs ++ (r ∷ [])) d x (answered (Some x) (rw (theirs, not_full, lt-ltb r.number s.count m)))
            (not_next (λ e. omega arith))

        early : s.count < r.number → Holds (xs ++ (r ∷ [])) d.next d.left
        unfolding k
        early m =
            stays (xs ++ (r ∷ [])) d (said (refused 10))
            (answered (Some (said (refused 10))) (rw (theirs, not_full, le-ltb r.number s.count (omega arith), lt-ltb s.count r.number m)))
            (not_next (λ e. omega arith))

        next : r.number ≡ s.count → Holds (xs ++ (r ∷ [])) d.next d.left
        unfolding k
        next m =
            let i_is : p.i ≡ k = omega (arith, p.is) in
            let start : take (suc k) rs ≡ take k rs ++ (r ∷ []) = subst (λ (j : ℕ). take (suc j) rs ≡ take j rs ++ (r ∷ [])) i_is p.start in
            let took : accepts (act n r.gate b).says ≡ true = next_accepted n rs r k b₀ b g.last start g.accepted h.state in
            let does : outcome_of [] b (call_of s.n r.gate b) ≡ act n r.gate b =
            ap (λ (m : ℕ). outcome_of [] b (call_of m r.gate b)) h.n_is ∙ acts b h.fits r in
            let goes : standing s r ≡ None =
            rw (theirs, not_full, le-ltb r.number s.count (omega arith), le-ltb s.count r.number (omega arith)) in
            let value : (call_of s.n r.gate b).answer ≡ (call_of n r.gate b).answer = ap (λ (m : ℕ). (call_of m r.gate b).answer) h.n_is in
            let made : d ≡ record {
              next = raised s r (call_of n r.gate b).answer;
              says = said (act n r.gate b).says;
              left = (act n r.gate b).left;
            } = answered None goes ∙ ap₂ (λ (v : Option ℕ) (o : Outcome). counted s b r v o) value does ∙ rw took in
            rw made
            (record {
              n_is = h.n_is;
              own_is = h.own_is;
              longest = longest_next r h.longest (omega (arith, p.within)) start;
              state = rw (add-one, start) (give_one_more n (take k rs) r b₀ b h.state took);
              value = rw (add-one, start) (sym (last_one_more n (take k rs) r b₀ b None h.state));
              mark = rw (add-one, start) (mark_one_more (take k rs) r s.mark h.mark);
              fits = act_fits n b h.fits r.gate;
            })

        one_record : Holds (xs ++ (r ∷ [])) d.next d.left
        one_record = by (ltb r.number s.count) refl (ltb s.count r.number) refl
          where
            by : (t : Bool) → ltb r.number s.count ≡ t → (u : Bool) → ltb s.count r.number ≡ u → Holds (xs ++ (r ∷ [])) d.next d.left
            by true e u f = repeated (ltb-true _ _ e)
            by false e true f = early (ltb-true _ _ f)
            by false e false f = next (omega (arith, ltb-false r.number s.count e, ltb-false s.count r.number f))

    -- a record of another session: 9, and it is none of the list's
    other_session : (r : Record) → (r.session ≡ own → ⊥) → (d : Delivery) → d ≡ take_record s b r (standing s r)
        → Holds (xs ++ (r ∷ [])) d.next d.left
    unfolding k
    other_session r other d is =
        let nine : standing s r ≡ Some (said (refused 9)) = rw (ne_eqb r.session s.number (λ e. other (e ∙ h.own_is))) in
        stays (xs ++ (r ∷ [])) d (said (refused 9)) (is ∙ ap (take_record s b r) nine)
        (longest_same r h.longest (λ room e. other (ap (λ (y : Record). y.session) (sym e) ∙ (numbered_at own 0 rs k r g.made room).0)))

    one : (bytes : List ℕ) → OneOf own rs bytes → (d : Delivery) → d ≡ take_read s b 0 (read_record bytes)
        → Holds (xs ++ cons (read_record bytes) []) d.next d.left
    unfolding k
    one bytes (inl e) d is =
        subst (λ (x : Option Record). Holds (xs ++ cons x []) d.next d.left) (sym e)
        (subst (λ (ys : List Record). Holds ys d.next d.left) (sym (append-nil xs))
        (stays xs d (said (refused 8)) (is ∙ ap (take_read s b 0) e) h.longest))
    one bytes (inr w) d is =
        let (r, which, e) = w in
        let read : d ≡ take_record s b r (standing s r) = is ∙ ap (take_read s b 0) e in
        subst (λ (x : Option Record). Holds (xs ++ cons x []) d.next d.left) (sym e)
        (⊎_elim
        (λ member. one_record r (placed own 0 rs r g.made member) d read)
        (λ other. other_session r other d read)
        which)

  step : (xs : List Record) (s : Session) (b : Buffers) (bytes : List ℕ) → OneOf own rs bytes → Holds xs s b
      → Holds (xs ++ cons (read_record bytes) []) (deliver s b bytes).next (deliver s b bytes).left
  step xs s b bytes w h = one s b xs h bytes w (deliver s b bytes) (ready s b xs h bytes)

  -- ---- all deliveries

  cons_append : (x : Option Record) (ys : List Record) → cons x [] ++ ys ≡ cons x ys
  cons_append (Some r) ys = refl
  cons_append None ys = refl

  steps : (ds : List (List ℕ)) (xs : List Record) (s : Session) (b : Buffers) → AllOf own rs ds → Holds xs s b
      → let bench = deliver_all (record { session = s; state = b }) ds in
      Holds (xs ++ seen ds) bench.session bench.state
  steps [] xs s b w h = rw append-nil h
  steps (bytes ∷ ds) xs s b w h =
      let d = deliver s b bytes in
      let bench = deliver_all (record { session = d.next; state = d.left }) ds in
      subst (λ (l : List Record). Holds l bench.session bench.state)
      (append_assoc xs (cons (read_record bytes) []) (seen ds) ∙ ap (λ (l : List Record). xs ++ l) (cons_append (read_record bytes) (seen ds)))
      (steps ds (xs ++ cons (read_record bytes) []) d.next d.left w.1 (step xs s b bytes w.0 h))

  begins : Holds [] g.session b₀
  begins =
      subst (λ (s : Session). Holds [] s b₀) (sym (started (bad_size most_qubits n) g.fresh).1)
      (record { n_is = refl; own_is = refl; longest = longest_none rs; state = refl; value = refl; mark = unmarked; fits = g.fits })

seen_append : (ds : List (List ℕ)) (bytes : List ℕ) → seen ds ++ cons (read_record bytes) [] ≡ seen (ds ++ (bytes ∷ []))
seen_append [] bytes = refl
seen_append (d ∷ ds) bytes = by (read_record d) (seen ds) (cons (read_record bytes) []) (seen (ds ++ (bytes ∷ []))) (seen_append ds bytes)
  where
    by : (x : Option Record) (xs ys zs : List Record) → xs ++ ys ≡ zs → cons x xs ++ ys ≡ cons x zs
    by (Some r) xs ys zs e = ap (λ (l : List Record). r ∷ l) e
    by None xs ys zs e = e

-- the session that was started is the fresh one
pub fresh_is : {n own : ℕ} {b : Buffers} {rs : List Record} (g : Given n own b rs) → g.session ≡ fresh n own
fresh_is {n} {own} {b} {rs} g = (started n own b rs g (bad_size most_qubits n) g.fresh).1

pub exactly_once : ExactlyOnce
exactly_once n own b rs g ds bytes all one =
    let bench = deliver_all (record { session = g.session; state = b }) ds in
    let before = steps n own b rs g ds [] g.session b all (begins n own b rs g) in
    let h = step n own b rs g (seen ds) bench.session bench.state bytes one before in
    rw (← seen_append) (record { longest = h.longest; state = h.state; value = h.value; mark = h.mark })

-- ---- a delivery keeps n and the session's number, and all of the session where the count stays

pub record Own (s s' : Session) : Type 0 where
  pub n : s'.n ≡ s.n
  pub number : s'.number ≡ s.number
  pub unmoved : s'.count ≡ s.count → s' ≡ s

pub same_own : (s : Session) → Own s s
same_own s = record { n = refl; number = refl; unmoved = λ e. refl }

module _ (s : Session) (b : Buffers) where
  counted_own : (r : Record) (t : Bool) (v : Option ℕ) (x : Replied) (left : Buffers)
      → Own s (cond t (record { next = raised s r v; says = x; left = left }) (kept s b x)).next
  counted_own r true v x left = record { n = refl; number = refl; unmoved = λ e. absurd (omega arith) }
  counted_own r false v x left = same_own s

  record_own : (r : Record) (x : Option Replied) → Own s (take_record s b r x).next
  record_own r (Some x) = same_own s
  record_own r None =
      let c = call_of s.n r.gate b in
      let o = outcome_of [] b c in
      counted_own r (accepts o.says) c.answer (said o.says) o.left

  read_own : (k : ℕ) (o : Option Record) → Own s (take_read s b k o).next
  read_own (suc k) o = same_own s
  read_own zero None = same_own s
  read_own zero (Some r) = record_own r (standing s r)

pub keeps_its_own : (s : Session) (b : Buffers) (bytes : List ℕ) → Own s (deliver s b bytes).next
unfolding deliver
keeps_its_own s b bytes = read_own s b (first (size_tests s.n b)) (read_record bytes)
