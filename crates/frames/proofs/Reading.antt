-- The number that two bytes are. Assumes nothing.
use Prim.Native.Nat.{ℕ, ◌+◌, ◌*◌, ◌≤◌}
use native.Mathlib.Nat.{add-zero, zero-add}
use native.Mathlib.Omega.{arith}
use mathlib.Core.Path.{◌≡◌, ap, ◌∙◌}
use mathlib.Core.List.{List}
use lib.ListN.{length, take, drop, get_or}
use Rattle.book.specs.Records.{number}
use Rattle.wire.proofs.Numbers.{number_more}

module _ (s : List ℕ) where
  pub two_is : (at : ℕ) → at + 2 ≤ length s → number (take 2 (drop at s)) ≡ get_or s at 0 * 256 + get_or s (at + 1) 0
  two_is at h =
      let first : number (take 1 (drop at s)) ≡ get_or s (at + 0) 0 = number_more s at 0 (omega arith) ∙ zero-add (get_or s (at + 0) 0) in
      let same : get_or s (at + 0) 0 ≡ get_or s at 0 = ap (λ (i : ℕ). get_or s i 0) (add-zero at) in
      let second : number (take 2 (drop at s)) ≡ number (take 1 (drop at s)) * 256 + get_or s (at + 1) 0 = number_more s at 1 (omega arith) in
      omega arith
