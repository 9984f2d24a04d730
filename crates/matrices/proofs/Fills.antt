-- Stretches of filled places: one behind another is one stretch, one over another is the later one, and one of all places is the table. Assumes nothing.
use Prim.Native.Nat.{ℕ, ◌+◌, ◌-◌, ◌≤◌, ◌<◌}
use mathlib.Core.List.{List}
use mathlib.Core.Logic.{inl, inr, ⊎_elim}
use mathlib.Core.Path.{◌≡◌, refl, ap, ap₂, ◌∙◌, subst}
use native.Mathlib.Decide.{dec_lt}
use native.Mathlib.Omega.{arith}
use lib.Ieee.{Float, binary64, nan, of_bits}
use lib.ListN.{length, set, length-set}
use lib.Seq.{get_or-set_same, get_or-set_other}
use Rattle.book.specs.Answers.{Buffers, buffers}
use Rattle.book.specs.Gates.{nought}
use Rattle.book.specs.Lent.{SameSize}
use Rattle.book.specs.State.{State, amplitude, at, held}
use Rattle.book.specs.declared.Amplitude.{Amplitude}
use Rattle.book.proofs.Tables.{held_only}
use Rattle.matrices.specs.Filled.{Holds, Filled}

-- the code's 0.0
pub zero_is : amplitude (of_bits binary64 0) (of_bits binary64 0) ≡ amplitude nought nought
unfolding of_bits
zero_is = refl

-- one place stored to
pub stored : (re im : List Float) (i : ℕ) (z : Amplitude) → Holds (i + 1) (buffers re im)
    → Filled i 1 (λ j. z) (buffers re im) (buffers (set re i z.re) (set im i z.im))
stored re im i z h =
    record {
      size = record { reals = length-set re i z.re; imags = length-set im i z.im };
      here = λ j l.
          subst (λ (k : ℕ). at (buffers (set re i z.re) (set im i z.im)) k ≡ z) (let e : i ≡ i + j = omega arith in e)
          (ap₂ amplitude (get_or-set_same re i z.re nan (omega (arith, h.reals))) (get_or-set_same im i z.im nan (omega (arith, h.imags))));
      others = λ k w.
          let ne : k ≡ i → ⊥ = λ e. ⊎_elim (λ x. omega arith) (λ x. omega arith) w in
          ap₂ amplitude (get_or-set_other re i k z.re nan ne) (get_or-set_other im i k z.im nan ne);
    }

-- a stretch of no places
pub empty : {from count : ℕ} (f : State) (b : Buffers) → count ≡ 0 → Filled from count f b b
empty f b e =
    record { size = record { reals = refl; imags = refl }; here = λ j l. absurd (omega arith); others = λ i w. refl }

pub nothing : (from : ℕ) (f : State) (b : Buffers) → Filled from 0 f b b
nothing from f b = empty f b refl

pub same_holds : {n : ℕ} {b b' : Buffers} → SameSize b b' → Holds n b → Holds n b'
same_holds w h = record { reals = omega (arith, w.reals, h.reals); imags = omega (arith, w.imags, h.imags) }

pub holds : {from count n : ℕ} {f : State} {b b' : Buffers} → Filled from count f b b' → Holds n b → Holds n b'
holds w h = same_holds w.size h

pub fewer : {n m : ℕ} {b : Buffers} → n ≤ m → Holds m b → Holds n b
fewer l h = record { reals = omega (arith, h.reals); imags = omega (arith, h.imags) }

-- the place behind those that are filled
pub held_next : {place size : ℕ} {f : State} {b b' : Buffers} → place < size → Filled 0 place f b b' → Holds size b → Holds (place + 1) b'
held_next l w h = holds w (fewer (omega arith) h)

pub same_size : {b b' b'' : Buffers} → SameSize b b' → SameSize b' b'' → SameSize b b''
same_size x y = record { reals = y.reals ∙ x.reals; imags = y.imags ∙ x.imags }

-- THE LAW: a stretch, and then the one behind it, are one stretch
pub join : {from count start more : ℕ} {f g : State} {b b' b'' : Buffers} → start ≡ from + count
    → Filled from count f b b' → Filled start more g b' b'' → ((j : ℕ) → j < more → g j ≡ f (count + j)) → Filled from (count + more) f b b''
join {from} {count} {start} {more} {f} {g} {b} {b'} {b''} behind x y same =
    record {
      size = same_size x.size y.size;
      here = λ j l. by j l (dec_lt j count);
      others = λ i w.
          ⊎_elim
          (λ a. y.others i (inl (omega arith)) ∙ x.others i (inl a))
          (λ a. y.others i (inr (omega arith)) ∙ x.others i (inr (omega arith))) w;
    }
  where
    by : (j : ℕ) → j < count + more → Dec (j < count) → at b'' (from + j) ≡ f j
    by j l (yes a) = y.others (from + j) (inl (omega arith)) ∙ x.here j a
    by j l (no a) =
        let k = j - count in
        let is : count + k ≡ j = omega arith in
        let place : start + k ≡ from + j = omega arith in
        subst (λ (i : ℕ). at b'' i ≡ f j) place (y.here k (omega arith) ∙ same k (omega arith) ∙ ap f is)

-- one place more
pub one_more : {from count start : ℕ} {f : State} {z : Amplitude} {b b' b'' : Buffers} → start ≡ from + count
    → Filled from count f b b' → Filled start 1 (λ j. z) b' b'' → z ≡ f count → Filled from (count + 1) f b b''
one_more {count = count} {f = f} behind x y e = join behind x y (λ j l. e ∙ ap f (let s : count ≡ count + j = omega arith in s))

-- a loop that counted to its end
pub done : {from j count : ℕ} {f : State} {b b' : Buffers} → (j ≤ count) × Filled from j f b b' → count ≤ j → Filled from count f b b'
done {from} {j} {count} {f} {b} {b'} w l = subst (λ (k : ℕ). Filled from k f b b') (let e : j ≡ count = omega arith in e) w.1

-- what stands, stands after a turn that did nothing yet
pub stands : {from count : ℕ} {f : State} {b b' : Buffers} → Filled from count f b b' → Filled from count f b' b'
stands x = record { size = record { reals = refl; imags = refl }; here = x.here; others = λ i w. refl }

-- the same stretch filled again
pub again : {from count : ℕ} {f g : State} {b b' b'' : Buffers} → Filled from count f b b' → Filled from count g b' b'' → Filled from count g b b''
again x y = record { size = same_size x.size y.size; here = y.here; others = λ i w. y.others i w ∙ x.others i w }

-- what a stretch holds, told another way
pub told : {from count : ℕ} {f g : State} {b b' : Buffers} → Filled from count f b b' → ((j : ℕ) → j < count → f j ≡ g j) → Filled from count g b b'
told x e = record { size = x.size; here = λ j l. x.here j l ∙ e j l; others = x.others }

-- all places: the buffers are the table
pub whole : {count : ℕ} {f g : State} {b b' : Buffers} → Filled 0 count f b b' → length b.reals ≡ count → length b.imags ≡ count
    → ((i : ℕ) → i < count → f i ≡ g i) → b' ≡ held count g
whole {count} {f} {g} {b} {b'} w lr li e =
    held_only count g b' (w.size.reals ∙ lr) (w.size.imags ∙ li)
    (λ i l. subst (λ (k : ℕ). at b' k ≡ f i) (let s : 0 + i ≡ i = omega arith in s) (w.here i l) ∙ e i l)
