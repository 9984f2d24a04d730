-- The rising sum over a half: a stretch of the half is added, a stretch of the other half adds nothing; so block by block, for either half. Assumes nothing.
use Prim.Native.Nat.{ℕ, min, zero, suc, ◌+◌, ◌-◌, ◌*◌, ◌%◌, ◌^◌, ◌≤◌, ◌<◌}
use mathlib.Core.Path.{◌≡◌, refl, sym, ap, ap₂, ◌∙◌}
use native.Mathlib.Nat.{zero-mul, one-mul, mod-eq_of_lt}
use native.Mathlib.Omega.{arith}
use borrow.Author.Tests.{eq-eqb, ne_eqb}
use lib.Ieee.{Float, binary64, nan, of_bits}
use lib.ListN.{length, get_or, take, drop}
use Rattle.std.proofs.Common.{get_or-drop, get_or-take, length-drop, length-take}
use native.Mathlib.Numerals.{add-one}
use mathlib.Core.List.{List}
use lib.Pow.{pow_mono}
use Rattle.book.specs.Answers.{Buffers, buffers}
use Rattle.book.specs.Gates.{◌⊕◌}
use Rattle.book.specs.Measuring.{square, summed, probability}
use Rattle.book.specs.State.{State, amplitude, at, bit, uncontrolled}
use Rattle.probabilities.specs.Stretches.{Stretch, added}
use Rattle.seated.proofs.Shifts.{shl, shl_is}
use Rattle.seated.specs.Judging.{Seated}
use Rattle.pairs.proofs.Blocks.{Base, first, room, next, low, high, ended}

-- ---- a stretch

pub added_none : (s : State) (from : ℕ) (start : Float) → start ≡ added s from start 0
unfolding added
added_none s from start = refl

-- one place more, as the two slices have it
pub added_more : (re im : List Float) (from n k : ℕ) (start : Float) {sum x y : Float} → k < n → x ≡ get_or (take n (drop from re)) k nan
    → y ≡ get_or (take n (drop from im)) k nan → sum ≡ added (at (buffers re im)) from start k
    → sum ⊕ square (amplitude x y) ≡ added (at (buffers re im)) from start (k + 1)
unfolding added
added_more re im from n k start l p q e =
    let part : (xs : List Float) → get_or (take n (drop from xs)) k nan ≡ get_or xs (from + k) nan = λ xs. rw (get_or-take, get_or-drop) in
    rw (add-one, p, q, e, part re, part im)

-- and the slices' end
pub added_all : (s : State) (re im : List Float) (from to m : ℕ) (start : Float) {sum : Float} → from ≤ to → to ≤ length re → to ≤ length im
    → m ≡ min (length (take (to - from) (drop from re))) (length (take (to - from) (drop from im))) → sum ≡ added s from start m
    → sum ≡ added s from start (to - from)
added_all s re im from to m start l p q end e =
    let size : m ≡ to - from = omega (
      arith,
      length-take (to - from) (drop from re),
      length-take (to - from) (drop from im),
      length-drop from re,
      length-drop from im,
    ) in
    e ∙ ap (added s from start) size

-- ---- the sum over the indices with target bit o

module _ (t o : ℕ) (s : State) where
  sum_none : of_bits binary64 0 ≡ summed t o s 0
  unfolding summed of_bits
  sum_none = refl

  sum_takes : (i : ℕ) → bit t i ≡ o → summed t o s (suc i) ≡ summed t o s i ⊕ square (s i)
  unfolding summed
  sum_takes i e = rw (eq-eqb (bit t i) o e)

  sum_passes : (i : ℕ) → (bit t i ≡ o → ⊥) → summed t o s (suc i) ≡ summed t o s i
  unfolding summed
  sum_passes i e = rw (ne_eqb (bit t i) o e)

  -- a stretch of the half is added
  sum_adds : (a k : ℕ) → ((i : ℕ) → a ≤ i → i < a + k → bit t i ≡ o) → summed t o s (a + k) ≡ added s a (summed t o s a) k
  unfolding added
  sum_adds a zero own = ap (summed t o s) (omega arith)
  sum_adds a (suc k) own =
      ap (summed t o s) (let e : a + suc k ≡ suc (a + k) = omega arith in e)
      ∙ sum_takes (a + k) (own (a + k) (omega arith) (omega arith))
      ∙ ap (λ (x : Float). x ⊕ square (s (a + k))) (sum_adds a k (λ i x y. own i x (omega arith)))

  -- a stretch of the other half adds nothing
  sum_skips : (a k : ℕ) → ((i : ℕ) → a ≤ i → i < a + k → bit t i ≡ o → ⊥) → summed t o s (a + k) ≡ summed t o s a
  sum_skips a zero other = ap (summed t o s) (omega arith)
  sum_skips a (suc k) other =
      ap (summed t o s) (let e : a + suc k ≡ suc (a + k) = omega arith in e)
      ∙ sum_passes (a + k) (other (a + k) (omega arith) (omega arith))
      ∙ sum_skips a k (λ i x y. other i x (omega arith))

-- ---- block by block

-- a block adds its stretch of the half
block_adds : {n t base : ℕ} (o : ℕ) (s : State) → Base n t base → t < n → base < 2 ^ n → o < 2
    → summed t o s (base + 2 ^ t + 2 ^ t) ≡ added s (base + o * 2 ^ t) (summed t o s base) (2 ^ t)
block_adds {n} {t} {base} zero s u q l h =
    sum_skips t 0 s (base + 2 ^ t) (2 ^ t) (λ i x y e. omega (arith, high u q l i x y))
    ∙ sum_adds t 0 s base (2 ^ t) (low u q l)
    ∙ ap (λ (k : ℕ). added s k (summed t 0 s base) (2 ^ t)) (let e : base ≡ base + 0 * 2 ^ t = omega (arith, zero-mul (2 ^ t)) in e)
block_adds {n} {t} {base} (suc zero) s u q l h =
    sum_adds t 1 s (base + 2 ^ t) (2 ^ t) (high u q l)
    ∙ ap₂ (λ (k : ℕ) (x : Float). added s k x (2 ^ t)) (let e : base + 2 ^ t ≡ base + 1 * 2 ^ t = omega (arith, one-mul (2 ^ t)) in e)
    (sum_skips t 1 s base (2 ^ t) (λ i x y e. omega (arith, low u q l i x y)))
block_adds (suc (suc o)) s u q l h = absurd (omega arith)

-- the half's stretch begins at the block's start or middle
half_begins : (o p : ℕ) → o < 2 → o * p ≤ p
half_begins zero p h = omega (arith, zero-mul p)
half_begins (suc zero) p h = omega (arith, one-mul p)
half_begins (suc (suc o)) p h = absurd (omega arith)

pub half_offset : (o t : ℕ) → o < 2 → t ≤ 24 → o * 2 ^ t % 2 ^ 64 ≡ o * 2 ^ t
half_offset o t h l = mod-eq_of_lt (omega (arith, half_begins o (2 ^ t) h, pow_mono {i = t} {j = 24} l))

-- the sum so far, at a block's start
pub record Summing (n t o : ℕ) (b : Buffers) (base : ℕ) (sum : Float) : Type 0 where
  pub block : Base n t base
  pub so_far : sum ≡ summed t o (at b) base

module _ {n t o : ℕ} {b : Buffers} (ok : Seated n t uncontrolled b) where
  pub sums_start : Summing n t o b 0 (of_bits binary64 0)
  sums_start = record { block = first n t; so_far = sum_none t o (at b) }

  pub sums_end : {base : ℕ} {sum : Float} → Summing n t o b base sum → 2 ^ n ≤ base → sum ≡ summed t o (at b) (2 ^ n)
  sums_end u l = u.so_far ∙ ap (summed t o (at b)) (ended u.block l)

  module _ {base : ℕ} {sum : Float} (u : Summing n t o b base sum) (l : base < 2 ^ n) where
    pub block_room : base + 2 ^ t + 2 ^ t ≤ 2 ^ n
    block_room = room u.block ok.qubit l

    module _ (either : o < 2) where
      -- its stretch of the half lies in the buffers
      pub half_room : base + o * 2 ^ t + 2 ^ t ≤ 2 ^ n
      half_room = omega (arith, block_room, half_begins o (2 ^ t) either)

      pub block_stretch : Stretch (base + o * 2 ^ t) (base + o * 2 ^ t + 2 ^ t) b
      block_stretch = record { order = omega arith; reals = omega (arith, half_room, ok.reals); imags = omega (arith, half_room, ok.imags) }

      pub block_done : {next_sum : Float} → next_sum ≡ added (at b) (base + o * 2 ^ t) sum (2 ^ t) → Summing n t o b (base + 2 ^ t + 2 ^ t) next_sum
      block_done e =
          let carried = ap (λ (x : Float). added (at b) (base + o * 2 ^ t) x (2 ^ t)) u.so_far in
          record { block = next u.block ok.qubit l; so_far = e ∙ carried ∙ sym (block_adds o (at b) u.block ok.qubit l either) }

pub small : {n t : ℕ} {b : Buffers} → Seated n t uncontrolled b → t ≤ 24
small ok = omega (arith, ok.fits, ok.qubit)

-- ---- the same over the code's shifts

pub bit_is : {n t : ℕ} {b : Buffers} → Seated n t uncontrolled b → shl t ≡ 2 ^ t
bit_is {t = t} ok = shl_is t (small ok)

module _ {n t o : ℕ} {b : Buffers} (ok : Seated n t uncontrolled b) where
  pub at_end : {base : ℕ} {sum : Float} → Summing n t o b base sum → shl n ≤ base → sum ≡ summed t o (at b) (2 ^ n)
  at_end u l = sums_end ok u (rw (shl_is n ok.fits) at l)

  module _ (either : o < 2) {base : ℕ} {sum : Float} (u : Summing n t o b base sum) (l : base < shl n) where
    pub stretch : let from = base + o * 2 ^ t % 2 ^ 64 in Stretch from (from + shl t) b
    stretch = rw (half_offset o t either (small ok), bit_is ok) (block_stretch ok u (rw (shl_is n ok.fits) at l) either)

    pub next_block : {next_sum : Float}
        → (let from = base + o * 2 ^ t % 2 ^ 64 in next_sum ≡ added (at b) from sum (from + shl t - from))
        → Summing n t o b (base + (shl t + shl t)) next_sum
    next_block e =
        let from = base + o * 2 ^ t in
        let size : from + 2 ^ t - from ≡ 2 ^ t = omega arith in
        let place : base + 2 ^ t + 2 ^ t ≡ base + (2 ^ t + 2 ^ t) = omega arith in
        let so_far = rw size at (rw (half_offset o t either (small ok), bit_is ok) at e) in
        rw (bit_is ok, ← place) (block_done ok u (rw (shl_is n ok.fits) at l) either so_far)

-- ---- the probability of another outcome

-- no index has a bit of 2 or more
pub chance_none : (n t outcome : ℕ) (s : State) → 2 ≤ outcome → of_bits binary64 0 ≡ probability n t outcome s
unfolding probability
chance_none n t outcome s l =
    sum_none t outcome s
    ∙ sym (sum_skips t outcome s 0 (2 ^ n) (λ i a b e. omega (arith, l)))
    ∙ ap (summed t outcome s) (let e : 0 + 2 ^ n ≡ 2 ^ n = omega arith in e)
