-- A step of the stream as the code makes it: by what the step comes to, what is held behind it, and where the contents of its frame stand. Assumes nothing.
use Prim.Native.Nat.{ℕ, ◌+◌, ◌-◌, ◌≤◌, ◌<◌}
use native.Mathlib.Omega.{arith}
use mathlib.Core.Bool.{Bool, true, false, cond}
use mathlib.Core.List.{List, [], ◌∷◌, ◌++◌}
use Rattle.std.specs.Prelude.{Option, Some, None}
use mathlib.Core.Path.{◌≡◌, refl, sym, ap, ◌∙◌}
use lib.Dec.{ltb}
use lib.ListN.{length, take, drop, length-append, length-drop, drop_of_length-le}
use lib.Seq.{sets-eq, take-append-add, length-take-le, take-add, drop_at}
use Rattle.book.specs.Answers.{Buffers}
use Rattle.book.specs.Sessions as Book
use Rattle.book.specs.Sessions.{deliver_all}
use Rattle.frames.proofs.Nexts as Nexts
use Rattle.frames.proofs.Nexts.{length_of}
use Rattle.frames.proofs.Streams.{step_within}
use Rattle.frames.specs.Frames.{next_of}
use Rattle.frames.specs.Streams.{Rest, begun, passing, stopped, Step, waiting, complete, past, frame_of, step}
use Rattle.frames.specs.declared.Next.{Next}
use Rattle.frames.specs.declared.Next.TheVariants.{Whole, Over, Wrong, More}
use Rattle.gathering.proofs.Kept.{Stands, part, over, wrong, stands}
use Rattle.gathering.specs.Gathering.{most_held, rest_of, kept_of, bytes_of, held_of}
use Rattle.once.specs.AllOnce.{bench}
use Rattle.once.specs.Answered.{answers_of}
use Rattle.sessions.specs.Deliveries.{meant}
use Rattle.stores.specs.Stores.{store}
use Rattle.feeding.specs.Feeding.{form, list_of, told_of, Joins, Makes, Takes}
use Rattle.feeding.specs.declared.Stepped.{Stepped}

clash : ◌≡◌ {A = ℕ} 0 1 → ⊥
clash e = omega arith

-- ---- what a step comes to

pub data Comes (r : Rest) (bs : List ℕ) : Step → Type 0 where
  done : (k : ℕ) (contents : List ℕ) → Comes r bs (complete k contents)
  holds : (h : List ℕ) → r ≡ begun h → next_of (h ++ bs) ≡ More → Comes r bs (waiting bs (begun (h ++ bs)))
  passes : (k : ℕ) → Comes r bs (waiting bs (passing k))
  stops : Comes r bs (waiting bs stopped)

pub comes : (r : Rest) (bs : List ℕ) → Comes r bs (step r bs)
unfolding step
comes r bs = by r refl
  where
    reads : (k : ℕ) (few : Bool) → Comes r bs (cond few (waiting bs (passing (k - length bs))) (complete k []))
    reads k true = passes (k - length bs)
    reads k false = done k []

    begins : (h : List ℕ) → r ≡ begun h → (x : Next) → next_of (h ++ bs) ≡ x → Comes r bs (frame_of x h bs)
    begins h is (Whole len) e = done (3 + len - length h) (take len (drop 3 (h ++ bs)))
    begins h is (Over len) e = reads (3 + len - length h) (ltb (length bs) (3 + len - length h))
    begins h is Wrong e = stops
    begins h is More e = holds h is e

    by : (q : Rest) → r ≡ q → Comes r bs (step q bs)
    by (begun h) is = begins h is (next_of (h ++ bs)) refl
    by (passing k) is = reads k (ltb (length bs) k)
    by stopped is = stops

-- behind a frame nothing is kept
nothing_kept : (r : Rest) (bs : List ℕ) {contents : List ℕ} → Some contents ≡ (step r bs).due → (step r bs).rest ≡ begun []
nothing_kept r bs {contents} = by (comes r bs)
  where
    by : {s : Step} → Comes r bs s → Some contents ≡ s.due → s.rest ≡ begun []
    by (done k c) e = refl
    by (holds h is more) e = absurd (clash (cc))
    by (passes k) e = absurd (clash (cc))
    by stops e = absurd (clash (cc))

-- ---- nothing is due

module _ (held : List ℕ) (kept : ℕ) (piece : List ℕ) (size : length held ≡ most_held) where
  abbrev after : Step
  after = step (rest_of held kept) piece

  -- bytes held are the first of the 97
  held_first : {h : List ℕ} → rest_of held kept ≡ begun h → (h ≡ take kept held) × (length h ≡ kept)
  held_first {h} = by (stands held kept)
    where
      by : {r : Rest} → Stands held kept r → r ≡ begun h → (h ≡ take kept held) × (length h ≡ kept)
      by (part few more) e = let is : h ≡ take kept held = cc in (is, ap length is ∙ length-take-le kept held (omega arith))
      by (over k) e = absurd (clash (cc))
      by wrong e = absurd (clash (cc))

  -- the piece behind them
  put : kept + length piece ≤ length held → store held kept piece ≡ held_of held (begun (take kept held ++ piece))
  unfolding store
  put h =
      let many : length (take kept held ++ piece) ≡ kept + length piece =
      length-append (take kept held) piece ∙ ap (λ (k : ℕ). k + length piece) (length-take-le kept held (omega arith)) in
      sets-eq piece held kept h ∙ ap (λ (k : ℕ). take kept held ++ piece ++ drop k held) (sym many)

  pub record Holds (r : Rest) : Type 0 where
    pub fits : kept + length piece ≤ length held
    pub is : store held kept piece ≡ held_of held r

  pub holds_on : None ≡ after.due → kept_of after.rest < most_held → Holds after.rest
  holds_on = by (comes (rest_of held kept) piece)
    where
      by : {s : Step} → Comes (rest_of held kept) piece s → None ≡ s.due → kept_of s.rest < most_held → Holds s.rest
      by (done k c) e few = absurd (clash (cc))
      by (holds h is more) e few =
          let (first, many) = held_first is in
          let fits : kept + length piece ≤ length held = omega (arith, length-append h piece) in
          record { fits = fits; is = put fits ∙ ap (λ (l : List ℕ). held_of held (begun (l ++ piece))) (sym first) }
      by (passes k) e few = absurd (omega arith)
      by stops e few = absurd (omega arith)

pub stays : (held : List ℕ) (kept : ℕ) (piece : List ℕ) → let after = step (rest_of held kept) piece in
    None ≡ after.due → most_held ≤ kept_of after.rest → held ≡ held_of held after.rest
stays held kept piece = by (comes (rest_of held kept) piece)
  where
    by : {s : Step} → Comes (rest_of held kept) piece s → None ≡ s.due → most_held ≤ kept_of s.rest → held ≡ held_of held s.rest
    by (done k c) e many = absurd (clash (cc))
    by (holds h is more) e many = absurd (omega (arith, Nexts.tells (h ++ piece) more))
    by (passes k) e many = refl
    by stops e many = refl

pub nothing_due : (s : Book.Session) (b : Buffers) (held : List ℕ) (kept : ℕ) (piece : List ℕ) {used next : ℕ} {held' : List ℕ}
    → let after = step (rest_of held kept) piece in
    used ≡ after.used → next ≡ kept_of after.rest → None ≡ after.due → held' ≡ held_of held after.rest
    → Takes (form s kept held) b piece used [] (form s next held') b
nothing_due s b held kept piece u k d h =
    record {
      used = u;
      kept = k;
      held = h;
      run = ap (λ (o : Option (List ℕ)). deliver_all (bench s b) (list_of o)) d;
      told = ap (λ (o : Option (List ℕ)). answers_of (bench s b) (list_of o)) d;
    }

-- ---- a frame is due

-- its contents, delivered
pub made : {s : Book.Session} {b b' : Buffers} (held : List ℕ) (kept : ℕ) (piece : List ℕ) {contents : List ℕ} {used : ℕ} {r : Stepped}
    → Some contents ≡ (step (rest_of held kept) piece).due → used ≡ (step (rest_of held kept) piece).used → Makes s b contents used r b'
    → Takes (form s kept held) b piece r.used (told_of r.told r.session.count) (form (meant r.session) r.kept held) b'
made {s} {b} held kept piece d u m =
    let rest = nothing_kept (rest_of held kept) piece d in
    record {
      used = m.used ∙ u;
      kept = m.kept ∙ ap kept_of (sym rest);
      held = ap (held_of held) (sym rest);
      run = m.run ∙ ap (λ (o : Option (List ℕ)). deliver_all (bench s b) (list_of o)) d;
      told = m.told ∙ ap (λ (o : Option (List ℕ)). answers_of (bench s b) (list_of o)) d;
    }

-- what is told of a frame that is whole
pub record Sized (bs : List ℕ) (len : ℕ) : Type 0 where
  pub is : len ≡ length_of bs
  pub there : 3 + len ≤ length bs
  pub most : 3 + len ≤ most_held

pub sized : (bs : List ℕ) {len : ℕ} → next_of bs ≡ Whole len → Sized bs len
sized bs {len} = by (Nexts.told bs)
  where
    by : {x : Next} → Nexts.Told bs x → x ≡ Whole len → Sized bs len
    by (Nexts.whole there tag few) e = let is : len ≡ length_of bs = cc in record { is = is; there = omega arith; most = omega arith }
    by (Nexts.nothing n) e = absurd (clash (cc))
    by (Nexts.wrong n t) e = absurd (clash (cc))
    by (Nexts.short n l) e = absurd (clash (cc))
    by (Nexts.part l m n) e = absurd (clash (cc))
    by (Nexts.over l t m) e = absurd (clash (cc))

-- where the piece has all of its bytes, none were held
empty : (h : List ℕ) → length h ≡ 0 → h ≡ []
empty [] e = refl
empty (x ∷ h) e = absurd (omega arith)

pub none_held : (r : Rest) (bs : List ℕ) {len : ℕ} → next_of (bytes_of r ++ bs) ≡ Whole len → 3 + len ≤ (step r bs).used → bytes_of r ≡ []
unfolding step
none_held (begun h) bs e many = empty h (omega (arith, rw e at many))
none_held (passing k) bs e many = refl
none_held stopped bs e many = refl

-- contents of a frame, and the frame
contents_of : (bs : List ℕ) (len : ℕ) → 3 ≤ length bs → drop 3 (take (3 + len) bs) ≡ take len (drop 3 bs)
contents_of bs len h = ap (drop 3) (take-add 3 len bs) ∙ drop_at (take 3 bs) (take len (drop 3 bs)) 3 (length-take-le 3 bs h)

-- of an over-long frame there are none
past_none : (k : ℕ) (bs : List ℕ) {contents : List ℕ} → Some contents ≡ (past k bs).due → contents ≡ []
past_none k bs {contents} = by (ltb (length bs) k)
  where
    by : (few : Bool) → Some contents ≡ (cond few (waiting bs (passing (k - length bs))) (complete k [])).due → contents ≡ []
    by true e = absurd (clash (cc))
    by false e = cc

-- The first part of a frame is what was held of it, and the last what completes it.
pub record Parts (held piece : List ℕ) (first last : ℕ) (contents : List ℕ) : Type 0 where
  pub first_is : length (take first held) ≡ first
  pub last_is : length (take last piece) ≡ last
  pub joins : Joins (take first held) (take last piece)
  pub contents_are : drop 3 (take first held ++ take last piece) ≡ contents

module _ (held : List ℕ) (kept : ℕ) (piece : List ℕ) (size : length held ≡ most_held) (len used : ℕ) (low : used < 3 + len) where
  two : {contents : List ℕ} → 3 + len ≤ most_held → used ≤ length piece → drop 3 (take (3 + len - used) held ++ take used piece) ≡ contents
      → Parts held piece (3 + len - used) used contents
  two most within is =
      let first = length-take-le (3 + len - used) held (omega arith) in
      let last = length-take-le used piece within in
      record { first_is = first; last_is = last; joins = record { least = omega arith; most = omega arith }; contents_are = is }

  pub in_two : next_of (bytes_of (rest_of held kept) ++ piece) ≡ Whole len
      → Some (take len (drop 3 (bytes_of (rest_of held kept) ++ piece))) ≡ (step (rest_of held kept) piece).due
      → used ≡ (step (rest_of held kept) piece).used → Parts held piece (3 + len - used) used (take len (drop 3 (bytes_of (rest_of held kept) ++ piece)))
  unfolding step
  in_two = by (stands held kept)
    where
      by : {r : Rest} → Stands held kept r → next_of (bytes_of r ++ piece) ≡ Whole len → Some (take len (drop 3 (bytes_of r ++ piece))) ≡ (step r piece).due
          → used ≡ (step r piece).used → Parts held piece (3 + len - used) used (take len (drop 3 (bytes_of r ++ piece)))
      by (part few more) is d u =
          let h = take kept held in
          let bs = h ++ piece in
          let told = sized bs is in
          let many : length h ≡ kept = length-take-le kept held (omega arith) in
          let takes : used ≡ 3 + len - length h = rw is at u in
          let room = Nexts.room h piece more in
          let first : 3 + len - used ≡ kept = omega (arith, told.is) in
          let whole : length h + used ≡ 3 + len = omega (arith, told.is) in
          two told.most (omega (arith, told.there, length-append h piece))
          (ap (λ (k : ℕ). drop 3 (take k held ++ take used piece)) first
          ∙ ap (drop 3) (sym (take-append-add h piece used))
          ∙ ap (λ (k : ℕ). drop 3 (take k bs)) whole
          ∙ contents_of bs len (omega (arith, told.there)))
      by (over k) is d u =
          let told = sized piece is in
          let bare = past_none (kept - most_held) piece d in
          let there = length-drop 3 piece in
          let short : len ≡ 0 = omega (arith, ap length bare, length-take-le len (drop 3 piece) (omega (arith, told.there))) in
          let most : 3 + len ≤ most_held = told.most in
          let within : used ≤ length piece = omega (arith, step_within (passing (kept - most_held)) piece) in
          let first = length-take-le (3 + len - used) held (omega arith) in
          let last = length-take-le used piece within in
          let all = length-append (take (3 + len - used) held) (take used piece) in
          two most within (drop_of_length-le (take (3 + len - used) held ++ take used piece) {i = 3} (omega arith) ∙ sym bare)
      by wrong is d u = absurd (clash (cc))
