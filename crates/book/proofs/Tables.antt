-- Buffers and the states that they hold: the table of a state holds it, place by place, and is the only one of its length that does. Assumes nothing.
use Prim.Native.Nat.{ℕ, zero, suc, ◌+◌, ◌<◌}
use mathlib.Core.List.{List}
use mathlib.Core.Path.{◌≡◌, sym, ap, ap₂, ◌∙◌}
use native.Mathlib.Nat.{zero-add}
use native.Mathlib.Omega.{arith}
use lib.Ieee.{nan}
use lib.ListN.{length, get_or}
use lib.Seq.{ext_get_or}
use Rattle.book.specs.Answers.{Buffers, buffers}
use Rattle.book.specs.State.{State, amplitude, at, tabulate, held}
use Rattle.book.specs.declared.Amplitude.{Amplitude}
use Rattle.book.proofs.Lengths.{tabulate_length}

pub tabulate_at : {A : Type 0} (f : ℕ → A) (from count i : ℕ) (d : A) → i < count → get_or (tabulate f from count) i d ≡ f (from + i)
unfolding tabulate
tabulate_at f from zero i d l = absurd (omega arith)
tabulate_at f from (suc count) zero d l = ap f (omega arith)
tabulate_at f from (suc count) (suc i) d l = tabulate_at f (suc from) count i d (omega arith) ∙ ap f (omega arith)

-- a list is the table if each element is
tabulate_only : {A : Type 0} (d : A) (l : List A) (f : ℕ → A) (count : ℕ) → length l ≡ count → ((i : ℕ) → i < count → get_or l i d ≡ f i)
    → l ≡ tabulate f 0 count
tabulate_only d l f count e h =
    ext_get_or d l (tabulate f 0 count) (e ∙ sym (tabulate_length f 0 count))
    (λ i il. h i (omega arith) ∙ sym (tabulate_at f 0 count i d (omega arith) ∙ ap f (zero-add i)))

pub at_held : (size : ℕ) (s : State) (i : ℕ) → i < size → at (held size s) i ≡ s i
unfolding held
at_held size s i l =
    ap₂ amplitude
    (tabulate_at (λ k. (s k).re) 0 size i nan l ∙ ap (λ (k : ℕ). (s k).re) (zero-add i))
    (tabulate_at (λ k. (s k).im) 0 size i nan l ∙ ap (λ (k : ℕ). (s k).im) (zero-add i))

pub held_only : (size : ℕ) (s : State) (b : Buffers) → length b.reals ≡ size → length b.imags ≡ size
    → ((i : ℕ) → i < size → at b i ≡ s i) → b ≡ held size s
unfolding held
held_only size s b lr li places =
    ap₂ buffers
    (tabulate_only nan b.reals (λ i. (s i).re) size lr (λ i il. ap (λ (z : Amplitude). z.re) (places i il)))
    (tabulate_only nan b.imags (λ i. (s i).im) size li (λ i il. ap (λ (z : Amplitude). z.im) (places i il)))

pub held_same : (size : ℕ) (s s' : State) → ((i : ℕ) → i < size → s i ≡ s' i) → held size s ≡ held size s'
unfolding held
held_same size s s' same =
    held_only size s' (held size s) (tabulate_length _ 0 size) (tabulate_length _ 0 size) (λ i l. at_held size s i l ∙ same i l)
