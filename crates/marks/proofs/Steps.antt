-- The mark over what is left of some bytes: none, or a byte and those behind it. Assumes nothing.
use Rattle.std.proofs.Common.{◌≡◌, ℕ, ◌+◌, ◌*◌, ◌/◌, ◌%◌, ◌^◌, ◌<◌, ◌≤◌, List, length, get_or, drop, sym, ap, ◌∙◌, add-one, drop_of_length-le, drop-cons}
use Rattle.book.specs.Sessions.{marked}

module _ (bytes : List ℕ) where
  pub left_none : (mark i : ℕ) → length bytes ≤ i → marked mark (drop i bytes) ≡ mark
  unfolding marked
  left_none mark i h = ap (marked mark) (drop_of_length-le bytes {i = i} h)

  pub left_step : (mark next i : ℕ) → i < length bytes → next ≡ (mark * 2 ^ 5 % 2 ^ 32 + mark / 2 ^ 27 + get_or bytes i 0) % 2 ^ 32
      → marked next (drop (i + 1) bytes) ≡ marked mark (drop i bytes)
  unfolding marked
  left_step mark next i h e =
      ap (λ (m : ℕ). marked m (drop (i + 1) bytes)) e ∙ rw add-one (sym (ap (marked mark) (drop-cons bytes i 0 h)))
