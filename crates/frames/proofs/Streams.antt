-- A stream cut anywhere gives what it gives whole: a step that completes a frame is the same with more bytes behind, and one that does not goes on in the next
-- piece where it stopped. Assumes nothing.
use Prim.Native.Nat.{ℕ, zero, suc, ◌+◌, ◌-◌, ◌≤◌, ◌<◌}
use native.Mathlib.Nat.{sub-zero}
use native.Mathlib.Omega.{arith}
use mathlib.Core.Bool.{Bool, true, false}
use mathlib.Core.List.{List, [], ◌∷◌, ◌++◌, append_assoc, append-nil}
use Rattle.std.specs.Prelude.{Some, None}
use mathlib.Core.Path.{◌≡◌, refl, sym, ap, ap₂, ◌∙◌}
use lib.Dec.{ltb}
use lib.ListN.{length, take, drop, length-append, length-drop}
use lib.Seq.{take-append-le, drop-append-le, drop-append-add}
use borrow.Author.Tests.{lt-ltb, le-ltb, ltb-true, ltb-false}
use Rattle.frames.specs.Frames.{next_of}
use Rattle.frames.specs.Streams.{Rest, begun, passing, stopped, Step, waiting, complete, past, frame_of, step, Stream, ends, goes_on, stream_in, stream_of}
use Rattle.frames.specs.declared.Next.{Next}
use Rattle.frames.specs.declared.Next.TheVariants.{More}
use Rattle.frames.proofs.Nexts.{length_of, next_none, Told, nothing, wrong, short, part, over, whole, told, room, wrong_on, over_on, whole_on}

-- what a stream leaves: bytes that begin a frame and do not complete it, or some bytes still to pass
abbrev pub Settled : Rest → Type 0
Settled (begun h) = next_of h ≡ More
Settled (passing k) = 0 < k
Settled stopped = Unit

-- the same, with so many bytes used before
abbrev later : ℕ → Step → Step
later k s = record { used = k + s.used; due = s.due; rest = s.rest }

-- ---- a step, and the same step with more bytes behind

data Behind (r : Rest) (bs : List ℕ) : Type 0 where
  done : (k : ℕ) (contents : List ℕ) → step r bs ≡ complete k contents → k ≤ length bs → (Settled r → 0 < k)
      → ((ys : List ℕ) → step r (bs ++ ys) ≡ complete k contents) → Behind r bs
  waits : (r' : Rest) → step r bs ≡ waiting bs r' → (Settled r → Settled r')
      → ((ys : List ℕ) → step r (bs ++ ys) ≡ later (length bs) (step r' ys)) → Behind r bs

waiting_on : (bs ys : List ℕ) (r : Rest) → waiting (bs ++ ys) r ≡ later (length bs) (waiting ys r)
waiting_on bs ys r = ap (λ (k : ℕ). record { used = k; due = None; rest = r }) (length-append bs ys)

-- ---- bytes of an over-long frame

past_done : (k : ℕ) (bs : List ℕ) → k ≤ length bs → past k bs ≡ complete k []
past_done k bs h = rw (le-ltb (length bs) k h)

past_waits : (k : ℕ) (bs : List ℕ) → length bs < k → past k bs ≡ waiting bs (passing (k - length bs))
past_waits k bs h = rw (lt-ltb (length bs) k h)

past_on : (k l : ℕ) (bs ys : List ℕ) → k ≡ length bs + l → past k (bs ++ ys) ≡ later (length bs) (past l ys)
past_on k l bs ys e = by (ltb (length ys) l) refl
  where
    many : length (bs ++ ys) ≡ length bs + length ys
    many = length-append bs ys

    by : (few : Bool) → ltb (length ys) l ≡ few → past k (bs ++ ys) ≡ later (length bs) (past l ys)
    by true t =
        let left : k - length (bs ++ ys) ≡ l - length ys = omega (arith, many) in
        let h = ltb-true (length ys) l t in
        past_waits k (bs ++ ys) (omega (arith, many))
        ∙ ap (λ (m : ℕ). waiting (bs ++ ys) (passing m)) left
        ∙ waiting_on bs ys (passing (l - length ys))
        ∙ ap (later (length bs)) (sym (past_waits l ys h))
    by false t =
        let h = ltb-false (length ys) l t in
        past_done k (bs ++ ys) (omega (arith, many))
        ∙ ap (λ (m : ℕ). complete m []) e
        ∙ ap (later (length bs)) (sym (past_done l ys h))

-- for any step that comes to reading past
past_behind : (r : Rest) (k : ℕ) (bs : List ℕ) → step r bs ≡ past k bs → (Settled r → 0 < k)
    → ((ys : List ℕ) → step r (bs ++ ys) ≡ past k (bs ++ ys)) → Behind r bs
unfolding step
past_behind r k bs is pos on = by (ltb (length bs) k) refl
  where
    by : (few : Bool) → ltb (length bs) k ≡ few → Behind r bs
    by true t =
        let h = ltb-true (length bs) k t in
        waits (passing (k - length bs)) (is ∙ past_waits k bs h) (λ _. omega arith) (λ ys. on ys ∙ past_on k (k - length bs) bs ys (omega arith))
    by false t =
        let h = ltb-false (length bs) k t in
        done k [] (is ∙ past_done k bs h) h pos (λ ys. on ys ∙ past_done k (bs ++ ys) (omega (arith, length-append bs ys)))

-- ---- a frame that is begun

module _ (h bs : List ℕ) where
  -- of the bytes held and those that came
  of : (ys : List ℕ) → next_of (h ++ (bs ++ ys)) ≡ next_of (h ++ bs ++ ys)
  of ys = ap next_of (sym (append_assoc h bs ys))

  frame : {x : Next} → next_of (h ++ bs) ≡ x → step (begun h) bs ≡ frame_of x h bs
  unfolding step
  frame e = ap (λ (x : Next). frame_of x h bs) e

  frame_on : {x : Next} (ys : List ℕ) → next_of (h ++ bs ++ ys) ≡ x → step (begun h) (bs ++ ys) ≡ frame_of x h (bs ++ ys)
  unfolding step
  frame_on ys e = ap (λ (x : Next). frame_of x h (bs ++ ys)) (of ys ∙ e)

  -- where it is not complete, it goes on in the next piece
  more_on : next_of (h ++ bs) ≡ More → (ys : List ℕ) → step (begun h) (bs ++ ys) ≡ later (length bs) (step (begun (h ++ bs)) ys)
  unfolding step
  more_on more ys = frame_on ys refl ∙ by (told (h ++ bs ++ ys))
    where
      all : length (h ++ bs) ≡ length h + length bs
      all = length-append h bs

      fits : length (h ++ bs) < 3 + length_of (h ++ bs ++ ys)
      fits = room (h ++ bs) ys more

      by : {x : Next} → Told (h ++ bs ++ ys) x → frame_of x h (bs ++ ys) ≡ later (length bs) (frame_of x (h ++ bs) ys)
      by (nothing e) = ap (waiting (bs ++ ys)) (ap begun (sym (append_assoc h bs ys))) ∙ waiting_on bs ys (begun (h ++ bs ++ ys))
      by (short s l) = ap (waiting (bs ++ ys)) (ap begun (sym (append_assoc h bs ys))) ∙ waiting_on bs ys (begun (h ++ bs ++ ys))
      by (part l m n) = ap (waiting (bs ++ ys)) (ap begun (sym (append_assoc h bs ys))) ∙ waiting_on bs ys (begun (h ++ bs ++ ys))
      by (wrong s t) = waiting_on bs ys stopped
      by (over l t m) =
          let len = length_of (h ++ bs ++ ys) in
          past_on (3 + len - length h) (3 + len - length (h ++ bs)) bs ys (omega (arith, all, fits))
      by (whole l t m) =
          let len = length_of (h ++ bs ++ ys) in
          let used : 3 + len - length h ≡ length bs + (3 + len - length (h ++ bs)) = omega (arith, all, fits) in
          ap₂ complete used (ap (λ (l : List ℕ). take len (drop 3 l)) (sym (append_assoc h bs ys)))

-- a frame takes at least a byte more than were there
begins : (h bs : List ℕ) → next_of h ≡ More → 0 < 3 + length_of (h ++ bs) - length h
begins h bs more = let fits = room h bs more in omega arith

behind : (r : Rest) (bs : List ℕ) → Behind r bs
unfolding step
behind stopped bs = waits stopped refl (λ _. tt) (λ ys. waiting_on bs ys stopped)
behind (passing k) bs = past_behind (passing k) k bs refl (λ pos. pos) (λ ys. refl)
behind (begun h) bs = by (told (h ++ bs)) refl
  where
    more : next_of (h ++ bs) ≡ More → Behind (begun h) bs
    more e = waits (begun (h ++ bs)) (frame h bs e) (λ _. e) (more_on h bs e)

    by : {x : Next} → Told (h ++ bs) x → next_of (h ++ bs) ≡ x → Behind (begun h) bs
    by (nothing t) e = more e
    by (short s l) e = more e
    by (part l m n) e = more e
    by (wrong s t) e =
        waits stopped (frame h bs e) (λ _. tt) (λ ys. frame_on h bs ys (wrong_on (h ++ bs) ys s t) ∙ waiting_on bs ys stopped)
    by (over l t m) e =
        past_behind (begun h) (3 + length_of (h ++ bs) - length h) bs (frame h bs e) (begins h bs) (λ ys. frame_on h bs ys (over_on (h ++ bs) ys l t m))
    by (whole l t m) e =
        let len = length_of (h ++ bs) in
        let all = length-append h bs in
        done (3 + len - length h) (take len (drop 3 (h ++ bs))) (frame h bs e) (omega (arith, all)) (begins h bs)
        (λ ys. frame_on h bs ys (whole_on (h ++ bs) ys l t m) ∙ ap (complete (3 + len - length h)) (same ys))
      where
        same : (ys : List ℕ) → take (length_of (h ++ bs)) (drop 3 (h ++ (bs ++ ys))) ≡ take (length_of (h ++ bs)) (drop 3 (h ++ bs))
        same ys =
            let len = length_of (h ++ bs) in
            ap (λ (l : List ℕ). take len (drop 3 l)) (sym (append_assoc h bs ys))
            ∙ ap (take len) (drop-append-le 3 (h ++ bs) ys (omega arith))
            ∙ take-append-le len (drop 3 (h ++ bs)) ys (omega (arith, length-drop 3 (h ++ bs)))

-- ---- steps

pub step_settled : (r : Rest) (bs : List ℕ) → Settled r → Settled (step r bs).rest
step_settled r bs s = by (behind r bs)
  where
    by : Behind r bs → Settled (step r bs).rest
    by (done k contents e h pos on) = rw e (next_none [] refl)
    by (waits r' e keeps on) = rw e (keeps s)

pub step_within : (r : Rest) (bs : List ℕ) → (step r bs).used ≤ length bs
step_within r bs = by (behind r bs)
  where
    by : Behind r bs → (step r bs).used ≤ length bs
    by (done k contents e h pos on) = rw e h
    by (waits r' e keeps on) = rw e (omega arith)

-- while there are bytes, some are used
pub step_uses : (r : Rest) (bs : List ℕ) → Settled r → 0 < length bs → 0 < (step r bs).used
step_uses r bs s there = by (behind r bs)
  where
    by : Behind r bs → 0 < (step r bs).used
    by (done k contents e h pos on) = rw e (pos s)
    by (waits r' e keeps on) = rw e there

-- ---- streams

none_begun : Settled (begun [])
none_begun = next_none [] refl

over_at : (f : ℕ) (bs : List ℕ) → length bs ≤ 0 → stream_in (suc f) (begun []) bs ≡ ends (begun [])
unfolding step
over_at f [] h = rw none_begun
over_at f (b ∷ bs) h = absurd (omega arith)

-- no more steps than bytes are needed behind a frame
enough : (f g : ℕ) (bs : List ℕ) → length bs ≤ f → length bs ≤ g → stream_in f (begun []) bs ≡ stream_in g (begun []) bs
enough zero zero bs h l = refl
enough zero (suc g) bs h l = sym (over_at g bs h)
enough (suc f) zero bs h l = over_at f bs l
enough (suc f) (suc g) bs h l = by (behind (begun []) bs) (λ k l₁ l₂. enough f g (drop k bs) l₁ l₂)
  where
    by : Behind (begun []) bs
        → ((k : ℕ) → length (drop k bs) ≤ f → length (drop k bs) ≤ g → stream_in f (begun []) (drop k bs) ≡ stream_in g (begun []) (drop k bs))
        → stream_in (suc f) (begun []) bs ≡ stream_in (suc g) (begun []) bs
    by (done k contents e m pos on) rest =
        let used = pos none_begun in
        rw e (ap (goes_on (Some contents) (begun [])) (rest k (omega (arith, length-drop k bs)) (omega (arith, length-drop k bs))))
    by (waits r' e keeps on) rest = rw e

-- a stream is its first step and the stream behind it
pub stream_steps : (r : Rest) (bs : List ℕ)
    → stream_of r bs ≡ goes_on (step r bs).due (step r bs).rest (stream_of (step r bs).rest (drop (step r bs).used bs))
unfolding stream_of
stream_steps r bs = by (behind r bs)
  where
    by : Behind r bs → stream_in (suc (length bs)) r bs
        ≡ goes_on (step r bs).due (step r bs).rest (stream_in (suc (length (drop (step r bs).used bs))) (step r bs).rest (drop (step r bs).used bs))
    by (done k contents e m pos on) =
        rw e
        (ap (goes_on (Some contents) (begun []))
        (enough (length bs) (suc (length (drop k bs))) (drop k bs) (omega (arith, length-drop k bs)) (omega arith)))
    by (waits r' e keeps on) = rw e

stepped : (r : Rest) (bs : List ℕ) {s : Step} → step r bs ≡ s → stream_of r bs ≡ goes_on s.due s.rest (stream_of s.rest (drop s.used bs))
stepped r bs e = stream_steps r bs ∙ ap (λ (s : Step). goes_on s.due s.rest (stream_of s.rest (drop s.used bs))) e

-- where nothing more came
step_none : (r : Rest) → Settled r → step r [] ≡ waiting [] r
unfolding step
step_none (begun h) s = frame h [] (ap next_of (append-nil h) ∙ s) ∙ ap (λ (l : List ℕ). waiting [] (begun l)) (append-nil h)
step_none (passing k) s = past_waits k [] s ∙ ap (λ (l : ℕ). waiting [] (passing l)) (sub-zero k)
step_none stopped s = refl

pub stream_none : (r : Rest) → Settled r → stream_of r [] ≡ ends r
stream_none r s = stepped r [] (step_none r s)

-- each delivery takes a byte at least
few_in : (f : ℕ) (r : Rest) (bs : List ℕ) → Settled r → length (stream_in f r bs).deliveries ≤ length bs
few_in zero r bs s = omega arith
few_in (suc f) r bs s = by (behind r bs) (λ k. few_in f (begun []) (drop k bs) none_begun)
  where
    by : Behind r bs → ((k : ℕ) → length (stream_in f (begun []) (drop k bs)).deliveries ≤ length (drop k bs))
        → length (stream_in (suc f) r bs).deliveries ≤ length bs
    by (done k contents e m pos on) rest = let used = pos s in rw e (omega (arith, rest k, length-drop k bs))
    by (waits r' e keeps on) rest = rw e (omega arith)

pub stream_few : (r : Rest) (bs : List ℕ) → Settled r → length (stream_of r bs).deliveries ≤ length bs
unfolding stream_of
stream_few r bs s = few_in (suc (length bs)) r bs s

-- ---- cut in two

infix 40 ◌and_then◌
-- a stream, and what more bytes give behind it
abbrev pub ◌and_then◌ : Stream → List ℕ → Stream
first and_then ys =
    let second = stream_of first.rest ys in
    record { deliveries = first.deliveries ++ second.deliveries; rest = second.rest }

-- if what is behind the first frame can be cut
cut_step : (r : Rest) (xs ys : List ℕ)
    → ((k : ℕ) → (Settled r → 0 < k) → k ≤ length xs → stream_of (begun []) (drop k xs ++ ys) ≡ stream_of (begun []) (drop k xs) and_then ys)
    → stream_of r (xs ++ ys) ≡ stream_of r xs and_then ys
cut_step r xs ys rest = by (behind r xs)
  where
    by : Behind r xs → stream_of r (xs ++ ys) ≡ stream_of r xs and_then ys
    by (done k contents e m pos on) =
        stepped r (xs ++ ys) (on ys)
        ∙ ap (λ (l : List ℕ). goes_on (Some contents) (begun []) (stream_of (begun []) l)) (drop-append-le k xs ys m)
        ∙ ap (goes_on (Some contents) (begun [])) (rest k pos m)
        ∙ ap (λ (s : Stream). s and_then ys) (sym (stepped r xs e))
    by (waits r' e keeps on) =
        let s = step r' ys in
        stepped r (xs ++ ys) (on ys)
        ∙ ap (λ (l : List ℕ). goes_on s.due s.rest (stream_of s.rest l)) (drop-append-add xs ys s.used)
        ∙ sym (stream_steps r' ys)
        ∙ ap (λ (s : Stream). s and_then ys) (sym (stepped r xs e))

cut_fresh : (f : ℕ) (xs ys : List ℕ) → length xs ≤ f → stream_of (begun []) (xs ++ ys) ≡ stream_of (begun []) xs and_then ys
cut_fresh zero xs ys h = cut_step (begun []) xs ys (λ k pos m. let used = pos none_begun in absurd (omega arith))
cut_fresh (suc f) xs ys h =
    cut_step (begun []) xs ys (λ k pos m. let used = pos none_begun in cut_fresh f (drop k xs) ys (omega (arith, length-drop k xs)))

-- A stream cut anywhere: what the first part gives, and then what the second gives behind what was left.
pub stream_cut : (r : Rest) (xs ys : List ℕ) → stream_of r (xs ++ ys) ≡ stream_of r xs and_then ys
stream_cut r xs ys = cut_step r xs ys (λ k pos m. cut_fresh (length (drop k xs)) (drop k xs) ys (omega arith))
