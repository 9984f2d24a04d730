-- A stretch of both buffers filled with 0.0. Assumes nothing.
use Prim.Native.Nat.{ℕ, ◌+◌, ◌-◌, ◌≤◌, ◌<◌}
use mathlib.Core.List.{List}
use mathlib.Core.Logic.{◌⊎◌, ⊎_elim}
use mathlib.Core.Path.{◌≡◌, ap, ap₂, ◌∙◌}
use native.Mathlib.Omega.{arith}
use borrow.Rule.Slice.PartMut.{put_mid}
use lib.Ieee.{Float, binary64, nan, of_bits}
use lib.ListN.{length, get_or, take, drop, replicate}
use Rattle.std.proofs.Common.{rules, length-drop, length-take}
use Rattle.std.proofs.lemmas.List.{places, length-replicate, get_or-replicate}
use Rattle.book.specs.Answers.{Buffers, buffers}
use Rattle.book.specs.Gates.{nought}
use Rattle.book.specs.State.{amplitude}
use Rattle.matrices.proofs.Fills.{zero_is}
use Rattle.matrices.specs.Filled.{Holds, Filled}

-- one buffer
record Part (from count : ℕ) (v : Float) (xs ys : List Float) : Type 0 where
  size : length ys ≡ length xs
  here : (j : ℕ) → j < count → get_or ys (from + j) nan ≡ v
  others : (i : ℕ) → (i < from) ⊎ (from + count ≤ i) → get_or ys i nan ≡ get_or xs i nan

part : (from count : ℕ) (v : Float) (xs mid : List Float) → from + count ≤ length xs
    → mid ≡ replicate (length (take (from + count - from) (drop from xs))) v → Part from count v xs (put_mid from (from + count - from) xs mid)
part from count v xs mid l e =
    let size : length (take (from + count - from) (drop from xs)) ≡ from + count - from =
    omega (arith, length-take (from + count - from) (drop from xs), length-drop from xs) in
    let same : mid ≡ replicate (from + count - from) v = e ∙ ap (λ (k : ℕ). replicate k v) size in
    let long : length mid ≡ from + count - from = ap length same ∙ length-replicate (from + count - from) v in
    record {
      size = search (rules, places);
      here = λ j k.
          let within : j < from + count - from = omega arith in
          let place : get_or (put_mid from (from + count - from) xs mid) (from + j) nan ≡ get_or mid j nan = search (rules, places) in
          place ∙ ap (λ (ys : List Float). get_or ys j nan) same ∙ get_or-replicate (from + count - from) j v nan within;
      others = λ i w. ⊎_elim (λ x. search (rules, places)) (λ x. search (rules, places)) w;
    }

pub row_cleared : (from side : ℕ) {b : Buffers} (xs ys : List Float) → Holds (from + side) b
    → xs ≡ replicate (length (take (from + side - from) (drop from b.reals))) (of_bits binary64 0)
    → ys ≡ replicate (length (take (from + side - from) (drop from b.imags))) (of_bits binary64 0)
    → Filled from side (λ j. amplitude nought nought) b
    (buffers (put_mid from (from + side - from) b.reals xs) (put_mid from (from + side - from) b.imags ys))
row_cleared from side {b} xs ys h p q =
    let re = part from side (of_bits binary64 0) b.reals xs h.reals p in
    let im = part from side (of_bits binary64 0) b.imags ys h.imags q in
    record {
      size = record { reals = re.size; imags = im.size };
      here = λ j l. ap₂ amplitude (re.here j l) (im.here j l) ∙ zero_is;
      others = λ i w. ap₂ amplitude (re.others i w) (im.others i w);
    }
