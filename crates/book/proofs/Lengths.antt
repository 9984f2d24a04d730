-- A gate, taken or refused, leaves buffers of the length that n asks: each is a table of 2 ^ n places, or what was there. Assumes nothing.
use Prim.Native.Nat.{ℕ, zero, suc, ◌^◌}
use mathlib.Core.Bool.{Bool, true, false, cond, ◌&&◌}
use mathlib.Core.List.{◌++◌}
use mathlib.Core.Path.{◌≡◌, refl, ap}
use borrow.Author.Tests.{eq-eqb}
use lib.Dec.{eqb}
use lib.Ieee.{le}
use lib.ListN.{length}
use Rattle.book.specs.Answers.{first, Buffers, Call, unless}
use Rattle.book.specs.Calls.{call_of, act}
use Rattle.book.specs.Gates.{x_rule}
use Rattle.book.specs.Kernels.{bad_length, size_tests, swapped}
use Rattle.book.specs.Measuring.{measured}
use Rattle.book.specs.State.{State, tabulate, held, uncontrolled, on_pairs}
use Rattle.book.specs.declared.Controls.{Controls}
use Rattle.book.specs.declared.Gate.{Gate}
use Rattle.book.specs.declared.Gate.TheVariants.{H, X, Y, Z, P, Rx, Ry, Rz, U, Swap, Measure, BitFlip}
use Rattle.book.specs.declared.Pair.{Pair}

pub tabulate_length : {A : Type 0} (f : ℕ → A) (from count : ℕ) → length (tabulate f from count) ≡ count
unfolding tabulate
tabulate_length f from zero = refl
tabulate_length f from (suc count) = ap suc (tabulate_length f (suc from) count)

abbrev Fits : ℕ → Buffers → Type 0
Fits n b = bad_length (2 ^ n) b ≡ false

pub held_fits : (n : ℕ) (s : State) → Fits n (held (2 ^ n) s)
unfolding held
held_fits n s =
    let size = 2 ^ n in
    let re = tabulate (λ i. (s i).re) 0 size in
    let im = tabulate (λ i. (s i).im) 0 size in
    rw (eq-eqb (length re) size (tabulate_length _ 0 size), eq-eqb (length im) size (tabulate_length _ 0 size))

pub pairs_fit : (rule : Pair → Pair) (n target : ℕ) (controls : Controls) (b : Buffers) → Fits n (on_pairs rule n target controls b)
unfolding on_pairs
pairs_fit rule n target controls b = held_fits n _

unless_fits : (n k : ℕ) (b : Buffers) (c : Call) → Fits n b → Fits n c.left → Fits n (unless k b c).left
unless_fits n zero b c h w = w
unless_fits n (suc k) b c h w = h

either_fits : (n : ℕ) (t : Bool) (x y : Buffers) → Fits n x → Fits n y → Fits n (cond t x y)
either_fits n true x y h g = h
either_fits n false x y h g = g

pub swapped_fits : (n t0 t1 : ℕ) (b : Buffers) → Fits n (swapped n t0 t1 b)
unfolding swapped
swapped_fits n t0 t1 b = held_fits n _

measured_fits : (n target outcome : ℕ) (b : Buffers) → Fits n (measured n target outcome b)
unfolding measured
measured_fits n target outcome b = held_fits n _

module _ (n : ℕ) (b : Buffers) (h : Fits n b) where
  left_fits : (g : Gate) → Fits n (call_of n g b).left
  left_fits (H t c) = pairs_fit _ n t c b
  left_fits (X t c) = pairs_fit _ n t c b
  left_fits (Y t c) = pairs_fit _ n t c b
  left_fits (Z t c) = pairs_fit _ n t c b
  left_fits (P t c a) = pairs_fit _ n t c b
  left_fits (Rx t c a) = pairs_fit _ n t c b
  left_fits (Ry t c a) = pairs_fit _ n t c b
  left_fits (Rz t c a) = pairs_fit _ n t c b
  left_fits (U t c g) = pairs_fit _ n t c b
  left_fits (Swap t0 t1) = swapped_fits n t0 t1 b
  left_fits (Measure t f) =
      either_fits n (eqb f.outcome 1 && eqb f.reset 1) _ _ (pairs_fit x_rule n t uncontrolled _) (measured_fits n t f.outcome b)
  left_fits (BitFlip t a) = either_fits n (le a.draw a.prob) _ _ (pairs_fit x_rule n t uncontrolled b) h

  pub act_fits : (g : Gate) → Fits n (act n g b).left
  act_fits g = unless_fits n (first (size_tests n b ++ (call_of n g b).tests)) b (call_of n g b) h (left_fits g)
