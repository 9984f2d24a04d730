-- The laws of a loop that takes a piece step by step: what is left of the piece, taken from here, comes to what all of it comes to from the start. And of one
-- that takes piece after piece: by where a stream may be cut. They say nothing of where the answers go. Assumes nothing.
use Prim.Native.Nat.{ℕ, ◌+◌, ◌-◌, ◌≤◌, ◌<◌, min}
use native.Mathlib.Numerals.{add-one}
use native.Mathlib.Omega.{arith}
use mathlib.Core.Bool.{Bool, true, false}
use mathlib.Core.List.{List, [], ◌∷◌, ◌++◌, append-nil, append_assoc}
use mathlib.Core.Path.{◌≡◌, refl, sym, ap, ap₂, ◌∙◌, subst}
use borrow.Author.Tests.{eqb-true}
use Rattle.std.specs.Prelude.{◌==◌}
use lib.ListN.{length, take, drop, get_or, drop_of_length-le}
use lib.Seq.{drop-length, drop-cons}
use Rattle.book.specs.Answers.{Buffers}
use Rattle.book.specs.Lent.{SameSize}
use Rattle.book.specs.Sessions.{Bench, deliver, deliver_all}
use Rattle.frames.proofs.Streams.{Settled, step_settled, step_within, step_uses, stream_steps, stream_none, stream_cut}
use Rattle.frames.specs.Streams.{Rest, begun, passing, stopped, Step, step, Stream, ends as over, goes_on, stream_of}
use Rattle.gathering.proofs.Kept.{rest_settled, rest_back}
use Rattle.gathering.specs.Gathering.{rest_of}
use Rattle.once.proofs.Loop.{asked, others}
use Rattle.once.proofs.Runs.{all_once}
use Rattle.once.specs.AllOnce.{cut, bench}
use Rattle.once.specs.Answered.{Answered, answers_of}
use Rattle.feeding.specs.Feeding.{Form, rest_in, list_of, Takes, joined, TakesAll}
use Rattle.feeding.proofs.Steps.{Comes, done, holds, passes, stops, comes}

-- ---- deliveries and then others

pub run_on : (x : Bench) (ds es : List (List ℕ)) → deliver_all x (ds ++ es) ≡ deliver_all (deliver_all x ds) es
run_on x [] es = refl
run_on x (d ∷ ds) es = run_on (bench (deliver x.session x.state d).next (deliver x.session x.state d).left) ds es

pub answers_on : (x : Bench) (ds es : List (List ℕ)) → answers_of x (ds ++ es) ≡ answers_of x ds ++ answers_of (deliver_all x ds) es
answers_on x [] es = refl
answers_on x (d ∷ ds) es =
    let made = deliver x.session x.state d in
    ap (λ (l : List Answered). record { says = made.says; count = made.next.count } ∷ l) (answers_on (bench made.next made.left) ds es)

-- ---- a step and then the others

-- so many deliveries before a stream
abbrev before : List (List ℕ) → Stream → Stream
before ds st = record { deliveries = ds ++ st.deliveries; rest = st.rest }

stepped : (r : Rest) (bs : List ℕ) → Settled r
    → stream_of r bs ≡ before (list_of (step r bs).due) (stream_of (step r bs).rest (drop (step r bs).used bs))
stepped r bs settled = stream_steps r bs ∙ by (comes r bs) (step_settled r bs settled)
  where
    waits : (q : Rest) → Settled q → over q ≡ before [] (stream_of q (drop (length bs) bs))
    waits q s = sym (ap (λ (l : List ℕ). before [] (stream_of q l)) (drop-length bs) ∙ ap (before []) (stream_none q s))

    by : {s : Step} → Comes r bs s → Settled s.rest
        → goes_on s.due s.rest (stream_of s.rest (drop s.used bs)) ≡ before (list_of s.due) (stream_of s.rest (drop s.used bs))
    by (done k contents) s = refl
    by (holds h is more) s = waits (begun (h ++ bs)) s
    by (passes k) s = waits (passing k) s
    by stops s = waits stopped s

module _ {f f' : Form} {b b' : Buffers} {bs : List ℕ} {n : ℕ} {t : List Answered} (h : Takes f b bs n t f' b') where
  abbrev first : Step
  first = step (rest_in f) bs

  settled : Settled (rest_in f)
  settled = rest_settled f.held f.kept

  -- what is kept is what the step leaves
  left_is : rest_in f' ≡ first.rest
  left_is = ap₂ rest_of h.held h.kept ∙ rest_back f.held first.rest (step_settled (rest_in f) bs settled)

  stream_is : stream_of (rest_in f) bs ≡ before (list_of first.due) (stream_of (rest_in f') (drop n bs))
  stream_is =
      stepped (rest_in f) bs settled
      ∙ ap₂ (λ (r : Rest) (k : ℕ). before (list_of first.due) (stream_of r (drop k bs))) (sym left_is) (sym h.used)

  -- while bytes are left, some are used
  pub uses : 0 < length bs → 0 < n
  uses some = omega (arith, h.used, step_uses (rest_in f) bs settled some)

  pub within : n ≤ length bs
  within = omega (arith, h.used, step_within (rest_in f) bs)

  run_is : (ds : List (List ℕ)) → deliver_all (bench f'.session b') ds ≡ deliver_all (bench f.session b) (list_of first.due ++ ds)
  run_is ds = ap (λ (x : Bench). deliver_all x ds) h.run ∙ sym (run_on (bench f.session b) (list_of first.due) ds)

  told_is : (ds : List (List ℕ)) → t ++ answers_of (bench f'.session b') ds ≡ answers_of (bench f.session b) (list_of first.due ++ ds)
  told_is ds =
      ap₂ (λ (l : List Answered) (x : Bench). l ++ answers_of x ds) h.told h.run ∙ sym (answers_on (bench f.session b) (list_of first.due) ds)

-- ---- all of a piece

-- whether bytes are left, as the code tests it
pub some_left : (l : List ℕ) {r : Bool} → r ≡ (length l == 0) → r ≡ false → 0 < length l
some_left [] e f = let z : ◌≡◌ {A = ℕ} 0 1 = cc in absurd (omega arith)
some_left (x ∷ l) e f = omega arith

pub none_left : (l : List ℕ) {r : Bool} → r ≡ (length l == 0) → r ≡ true → l ≡ []
none_left [] e f = refl
none_left (x ∷ l) e f = absurd (omega (arith, eqb-true (length (x ∷ l)) 0 (sym e ∙ f)))

-- `rest` of the piece is left, and `t` was told of what was taken
pub record Left (f : Form) (b : Buffers) (piece rest : List ℕ) (t : List Answered) (f' : Form) (b' : Buffers) : Type 0 where
  pub same : SameSize b b'
  pub kept : (stream_of (rest_in f') rest).rest ≡ (stream_of (rest_in f) piece).rest
  pub run : deliver_all (bench f'.session b') (stream_of (rest_in f') rest).deliveries
      ≡ deliver_all (bench f.session b) (stream_of (rest_in f) piece).deliveries
  pub told : t ++ answers_of (bench f'.session b') (stream_of (rest_in f') rest).deliveries
      ≡ answers_of (bench f.session b) (stream_of (rest_in f) piece).deliveries

pub begins : (f : Form) (b : Buffers) (piece : List ℕ) → Left f b piece piece [] f b
begins f b piece = record { same = record { reals = refl; imags = refl }; kept = refl; run = refl; told = refl }

-- one step
pub turn : {f f₁ f₂ : Form} {b b₁ b₂ : Buffers} {piece rest behind : List ℕ} {n : ℕ} {t u : List Answered}
    → Left f b piece rest t f₁ b₁ → Takes f₁ b₁ rest n u f₂ b₂ → behind ≡ drop n rest → SameSize b₁ b₂ → Left f b piece behind (t ++ u) f₂ b₂
turn {f} {f₁} {f₂} {b} {b₁} {b₂} {piece} {rest} {behind} {n} {t} {u} h s back keeps =
    let here : Stream = stream_of (rest_in f₂) (drop n rest) in
    let whole = stream_is s in
    rw back
    (record {
      same = record { reals = keeps.reals ∙ h.same.reals; imags = keeps.imags ∙ h.same.imags };
      kept = sym (ap (λ (st : Stream). st.rest) whole) ∙ h.kept;
      run =
          run_is s here.deliveries
          ∙ sym (ap (λ (st : Stream). deliver_all (bench f₁.session b₁) st.deliveries) whole)
          ∙ h.run;
      told =
          append_assoc t u (answers_of (bench f₂.session b₂) here.deliveries)
          ∙ ap (λ (l : List Answered). t ++ l)
          (told_is s here.deliveries ∙ sym (ap (λ (st : Stream). answers_of (bench f₁.session b₁) st.deliveries) whole))
          ∙ h.told;
    })

pub ends : {f f' : Form} {b b' : Buffers} {piece rest : List ℕ} {t : List Answered}
    → Left f b piece rest t f' b' → rest ≡ [] → TakesAll f b piece t f' b'
ends {f} {f'} {b} {b'} {piece} {rest} {t} h past =
    let none : stream_of (rest_in f') rest ≡ over (rest_in f') =
    ap (stream_of (rest_in f')) past ∙ stream_none (rest_in f') (rest_settled f'.held f'.kept) in
    record {
      rest = sym (ap (λ (st : Stream). st.rest) none) ∙ h.kept;
      once =
          all_once f.session b (stream_of (rest_in f) piece).deliveries f'.session b'
          (sym (ap (λ (st : Stream). deliver_all (bench f'.session b') st.deliveries) none) ∙ h.run);
      told =
          sym (append-nil t)
          ∙ sym (ap (λ (st : Stream). t ++ answers_of (bench f'.session b') st.deliveries) none)
          ∙ h.told;
    }

-- ---- piece after piece

pub none_taken : (f : Form) (b : Buffers) → TakesAll f b [] [] f b
none_taken f b = ends (begins f b []) refl

pub more : {f f₁ f₂ : Form} {b b₁ b₂ : Buffers} {xs ys : List ℕ} {t u : List Answered}
    → TakesAll f b xs t f₁ b₁ → TakesAll f₁ b₁ ys u f₂ b₂ → TakesAll f b (xs ++ ys) (t ++ u) f₂ b₂
more {f} {f₁} {f₂} {b} {b₁} {b₂} {xs} {ys} {t} {u} p q =
    let x = bench f.session b in
    let ds = (stream_of (rest_in f) xs).deliveries in
    let es = (stream_of (rest_in f₁) ys).deliveries in
    let whole : stream_of (rest_in f) (xs ++ ys) ≡ before ds (stream_of (rest_in f₁) ys) =
    stream_cut (rest_in f) xs ys ∙ ap (λ (r : Rest). before ds (stream_of r ys)) (sym p.rest) in
    record {
      rest = q.rest ∙ sym (ap (λ (st : Stream). st.rest) whole);
      once =
          all_once f.session b (stream_of (rest_in f) (xs ++ ys)).deliveries f₂.session b₂
          (q.once.run
          ∙ ap (λ (y : Bench). deliver_all y es) p.once.run
          ∙ sym (run_on x ds es)
          ∙ sym (ap (λ (st : Stream). deliver_all x st.deliveries) whole));
      told =
          ap₂ (λ (l m : List Answered). l ++ m) p.told (q.told ∙ ap (λ (y : Bench). answers_of y es) p.once.run)
          ∙ sym (answers_on x ds es)
          ∙ sym (ap (λ (st : Stream). answers_of x st.deliveries) whole);
    }

-- the pieces lie one behind the other in one buffer; `i` of them are taken, which were `before`, and `rest` of the buffer is left
pub record Pieces (bytes lengths : List ℕ) (f : Form) (b : Buffers) (rest : List ℕ) (i : ℕ) (t : List Answered) (f' : Form) (b' : Buffers) : Type 0 where
  pub same : SameSize b b'
  pub before : List ℕ
  pub taken : TakesAll f b before t f' b'
  pub left : before ++ joined (cut rest (drop i lengths)) ≡ joined (cut bytes lengths)

pub no_pieces : (bytes lengths : List ℕ) (f : Form) (b : Buffers) → Pieces bytes lengths f b bytes 0 [] f b
no_pieces bytes lengths f b = record { same = record { reals = refl; imags = refl }; before = []; taken = none_taken f b; left = refl }

pub next_piece : {bytes lengths rest part behind : List ℕ} {f f₁ f₂ : Form} {b b₁ b₂ : Buffers} {i size : ℕ} {t u : List Answered}
    → Pieces bytes lengths f b rest i t f₁ b₁ → i < length lengths → size ≡ min (get_or lengths i 0) (length rest)
    → part ≡ take size rest → behind ≡ drop size rest
    → TakesAll f₁ b₁ part u f₂ b₂ → SameSize b₁ b₂ → Pieces bytes lengths f b behind (i + 1) (t ++ u) f₂ b₂
next_piece {bytes} {lengths} {rest} {part} {behind} {f} {f₁} {f₂} {b} {b₁} {b₂} {i} {size} {t} {u} h room is cut_off left_over took keeps =
    let l = get_or lengths i 0 in
    record {
      same = record { reals = keeps.reals ∙ h.same.reals; imags = keeps.imags ∙ h.same.imags };
      before = h.before ++ part;
      taken = more h.taken took;
      left =
          append_assoc h.before part (joined (cut behind (drop (i + 1) lengths)))
          ∙ ap (λ (x : List ℕ). h.before ++ x)
          (ap₂ (λ (x y : List ℕ). x ++ joined (cut y (drop (i + 1) lengths))) (asked rest l is cut_off) (others rest l is left_over)
          ∙ ap (λ (ls : List ℕ). joined (cut rest ls)) (ap (λ (k : ℕ). l ∷ drop k lengths) (add-one i) ∙ sym (drop-cons lengths i 0 room)))
          ∙ h.left;
    }

pub all_pieces : {bytes lengths rest : List ℕ} {f f' : Form} {b b' : Buffers} {i : ℕ} {t : List Answered}
    → Pieces bytes lengths f b rest i t f' b' → length lengths ≤ i → TakesAll f b (joined (cut bytes lengths)) t f' b'
all_pieces {bytes} {lengths} {rest} {f} {f'} {b} {b'} {i} {t} h past =
    let none : joined (cut rest (drop i lengths)) ≡ [] = ap (λ (ls : List ℕ). joined (cut rest ls)) (drop_of_length-le lengths past) in
    let all = sym (append-nil h.before) ∙ ap (λ (l : List ℕ). h.before ++ l) (sym none) ∙ h.left in
    subst (λ (l : List ℕ). TakesAll f b l t f' b') all h.taken
