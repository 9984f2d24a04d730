-- What a gate leaves at a place, by the three cases of 01: it is in no chosen pair, the lower place of one, or the upper. Assumes nothing.
use Prim.Native.Nat.{ℕ, ◌+◌, ◌-◌, ◌^◌}
use mathlib.Core.Bool.{true, false}
use mathlib.Core.Path.{◌≡◌}
use Rattle.book.specs.State.{State, bit, chosen, choice, pair, placed}
use Rattle.book.specs.declared.Controls.{Controls}
use Rattle.book.specs.declared.Pair.{Pair}

module _ (rule : Pair → Pair) (t : ℕ) (c : Controls) (s : State) where
  pub placed_neither : (i : ℕ) → chosen c i ≡ false → placed rule t c s i ≡ s i
  unfolding placed choice
  placed_neither i h = rw h

  pub placed_lower : (i : ℕ) → chosen c i ≡ true → bit t i ≡ 0 → placed rule t c s i ≡ (rule (pair (s i) (s (i + 2 ^ t)))).s0
  unfolding placed choice
  placed_lower i h e = rw (h, e)

  pub placed_upper : (i : ℕ) → chosen c i ≡ true → bit t i ≡ 1 → placed rule t c s i ≡ (rule (pair (s (i - 2 ^ t)) (s i))).s1
  unfolding placed choice
  placed_upper i h e = rw (h, e)
