-- What is kept between two pieces: that what is kept of a step stands for the step's rest, and nothing else does. By the tests on the
-- number that is kept. Assumes nothing.
use Prim.Native.Nat.{ℕ, zero, suc, ◌+◌, ◌-◌, ◌≤◌, ◌<◌}
use native.Mathlib.Omega.{arith}
use mathlib.Core.Bool.{Bool, true, false}
use mathlib.Core.List.{List, [], ◌∷◌, ◌++◌}
use mathlib.Core.Path.{◌≡◌, refl, sym, ap, ◌∙◌}
use lib.Dec.{eqb, ltb}
use lib.ListN.{length, take, drop, length-append, length-drop}
use lib.Seq.{take-append_seam, length-take-le}
use borrow.Author.Tests.{lt-ltb, le-ltb, eq-eqb, ne_eqb, ltb-true, ltb-false, eqb-true, eqb-false}
use Rattle.frames.proofs.Nexts.{length_of, next_none, tells, room}
use Rattle.frames.proofs.Streams.{Settled}
use Rattle.frames.specs.Frames.{next_of}
use Rattle.frames.specs.Streams.{Rest, begun, passing, stopped, Step}
use Rattle.frames.specs.declared.Next.{Next}
use Rattle.frames.specs.declared.Next.TheVariants.{Whole, Over, Wrong, More}
use Rattle.wire.specs.Bytes.{Bytes}
use Rattle.gathering.specs.Gathering.{most_held, if_begun, rest_of, kept_of, held_of, due_of, Gathers}
use Rattle.gathering.specs.declared.Gathered.{Gathered}

-- ---- the length of a frame that goes on

small : (bs : List ℕ) → Bytes bs → length_of bs < 65536
small [] h = omega arith
small (t ∷ []) h = omega arith
small (t ∷ a ∷ []) h = omega (arith, h 1)
small (t ∷ a ∷ b ∷ bs) h = omega (arith, h 1, h 2)

bytes_append : (xs ys : List ℕ) → Bytes xs → Bytes ys → Bytes (xs ++ ys)
bytes_append [] ys h l i = l i
bytes_append (x ∷ xs) ys h l zero = h 0
bytes_append (x ∷ xs) ys h l (suc i) = bytes_append xs ys (λ j. h (suc j)) l i

-- the bytes that are there are of the frame, and its length is a number of two bytes
pub record Framed (h : List ℕ) (len : ℕ) : Type 0 where
  pub within : length h ≤ 3 + len
  pub two : len < 65536

pub goes_on : (h bs : List ℕ) {len : ℕ} → next_of h ≡ More → Bytes h → Bytes bs → len ≡ length_of (h ++ bs) → Framed h len
goes_on h bs more b c is = record { within = omega (arith, room h bs more); two = omega (arith, small (h ++ bs) (bytes_append h bs b c)) }

-- ---- what a number and 97 bytes stand for, test by test

module _ (held : List ℕ) (kept : ℕ) where
  pub rest_passing : most_held < kept → rest_of held kept ≡ passing (kept - most_held)
  unfolding rest_of
  rest_passing h = rw (le-ltb kept most_held (omega arith), ne_eqb kept most_held (λ e. omega arith))

  pub rest_stopped : kept ≡ most_held → rest_of held kept ≡ stopped
  unfolding rest_of
  rest_stopped e = rw (le-ltb kept most_held (omega arith), eq-eqb kept most_held e)

  pub rest_held : {x : Next} → kept < most_held → next_of (take kept held) ≡ x → rest_of held kept ≡ if_begun x (take kept held)
  unfolding rest_of
  rest_held h e = rw (lt-ltb kept most_held h, e)

-- bytes that begin no frame count as a wrong tag
pub no_begun : (x : Next) (h : List ℕ) → (x ≡ More → ⊥) → if_begun x h ≡ stopped
no_begun (Whole len) h k = refl
no_begun (Over len) h k = refl
no_begun Wrong h k = refl
no_begun More h k = absurd (k refl)

-- ---- what is kept is what is left

-- the three ways to keep
pub data Stands (held : List ℕ) (kept : ℕ) : Rest → Type 0 where
  part : kept < most_held → next_of (take kept held) ≡ More → Stands held kept (begun (take kept held))
  over : most_held < kept → Stands held kept (passing (kept - most_held))
  wrong : Stands held kept stopped

module _ (held : List ℕ) (kept : ℕ) where
  pub stands : Stands held kept (rest_of held kept)
  stands = below (ltb kept most_held) refl
    where
      begins : kept < most_held → (x : Next) → next_of (take kept held) ≡ x → Stands held kept (if_begun x (take kept held))
      begins h More e = part h e
      begins h (Whole len) e = wrong
      begins h (Over len) e = wrong
      begins h Wrong e = wrong

      above : most_held ≤ kept → (t : Bool) → eqb kept most_held ≡ t → Stands held kept (rest_of held kept)
      above h true e = rw (rest_stopped held kept (eqb-true kept most_held e)) wrong
      above h false e =
          let ne = eqb-false kept most_held e in
          let l : most_held < kept = omega arith in
          rw (rest_passing held kept l) (over l)

      below : (t : Bool) → ltb kept most_held ≡ t → Stands held kept (rest_of held kept)
      below true e = let h = ltb-true kept most_held e in rw (rest_held held kept h refl) (begins h (next_of (take kept held)) refl)
      below false e = above (ltb-false kept most_held e) (eqb kept most_held) refl

  pub rest_settled : Settled (rest_of held kept)
  rest_settled = by stands
    where
      by : {r : Rest} → Stands held kept r → Settled r
      by (part h e) = e
      by (over h) = omega arith
      by wrong = tt

  -- nothing is left of a frame only where nothing is kept
  pub none_only : length held ≡ most_held → rest_of held kept ≡ begun [] → kept ≡ 0
  none_only l = by stands
    where
      by : {r : Rest} → Stands held kept r → r ≡ begun [] → kept ≡ 0
      by (part h _) e =
          let none : take kept held ≡ [] = cc in
          omega (arith, length-take-le kept held (omega arith), ap length none)
      by (over h) e = let z : ◌≡◌ {A = ℕ} 0 1 = cc in absurd (omega arith)
      by wrong e = let z : ◌≡◌ {A = ℕ} 0 1 = cc in absurd (omega arith)

pub none_kept : (held : List ℕ) → rest_of held 0 ≡ begun []
none_kept held = rest_held held 0 (omega arith) (next_none [] refl)

-- what is left is kept
pub rest_back : (held : List ℕ) (r : Rest) → Settled r → rest_of (held_of held r) (kept_of r) ≡ r
rest_back held (begun h) more =
    let same = take-append_seam h (drop (length h) held) in
    rest_held (held_of held (begun h)) (length h) (tells h more) (ap next_of same ∙ more) ∙ ap begun same
rest_back held (passing k) some =
    let same : most_held + k - most_held ≡ k = omega arith in
    rest_passing held (most_held + k) (omega arith) ∙ ap passing same
rest_back held stopped _ = rest_stopped held most_held refl

pub held_length : (held : List ℕ) (r : Rest) → Settled r → length held ≡ most_held → length (held_of held r) ≡ most_held
held_length held (begun h) more l = simp (length-append, length-drop) (omega (arith, tells h more))
held_length held (passing k) some l = l
held_length held stopped _ l = l

-- ---- one answer

-- a step leaves no choice of what is used, kept and due
pub gathers_agree : {s : Step} {bs : List ℕ} {a b : Gathered} → Gathers s bs a → Gathers s bs b
    → (a.used ≡ b.used) × (a.kept ≡ b.kept) × (due_of a.due bs ≡ due_of b.due bs)
gathers_agree x y = (x.used ∙ sym y.used, x.kept ∙ sym y.kept, x.due ∙ sym y.due)
