-- Runs of pairs: keys that lie stride apart are gone over together, in one lent part of both buffers. Definitions only. Assumes nothing.
use Rattle.std.specs.Prelude.{ℕ, ◌+◌, ◌-◌, ◌*◌, ◌%◌, ◌^◌, ◌≤◌, ◌<◌, ◌≡◌, length}
use Rattle.book.specs.Answers.{Buffers}
use Rattle.book.specs.Lent.{SameSize}
use Rattle.book.specs.State.{State, at}
use Rattle.book.specs.declared.Pair.{Pair}
use Rattle.pairs.specs.Pairs.{Paired, Keyed}

-- ---- the lent part: its pairs are at i and i + d, for each stride-th i below run

abbrev pub Spaced : ℕ → ℕ → ℕ → Type 0
Spaced stride run i = (i % stride ≡ 0) × (i < run)

-- no place is in two pairs, and the pairs go by twos
pub record Run (run d stride : ℕ) (b : Buffers) : Type 0 where
  pub equal : length b.imags ≡ length b.reals
  pub small : length b.reals ≤ 2 ^ 24
  pub some : 0 < stride
  pub narrow : stride ≤ 2 ^ 24
  pub room : (i : ℕ) → Spaced stride run i → i + d < length b.reals
  pub apart : (i j : ℕ) → Spaced stride run i → Spaced stride run j → i ≡ j + d → ⊥
  pub even : (i : ℕ) → i % (stride * 2) ≡ 0 → i < run → i + stride < run

-- the rule was put to each of its pairs
pub record RunDone (rule : Pair → Pair) (run d stride : ℕ) (b b' : Buffers) : Type 0 where
  pub same : SameSize b b'
  pub pairs : Paired rule (Spaced stride run) (λ i. i) (λ i. i + d) 0 run (at b) (at b')

-- ---- two pairs at once

pub record FourPlaces (b : Buffers) (s0 s1 stride : ℕ) : Type 0 where
  pub order : s0 < s1
  pub some : 0 < stride
  pub apart : s0 + stride ≡ s1 → ⊥
  pub reals : s1 + stride < length b.reals
  pub imags : s1 + stride < length b.imags
  pub small : length b.reals ≤ 2 ^ 24

pub record WrittenTwo (s0 s1 stride : ℕ) (p q : Pair) (s s' : State) : Type 0 where
  pub lower : s' s0 ≡ p.s0
  pub upper : s' s1 ≡ p.s1
  pub lower_next : s' (s0 + stride) ≡ q.s0
  pub upper_next : s' (s1 + stride) ≡ q.s1
  pub others : (i : ℕ) → (i ≡ s0 → ⊥) → (i ≡ s1 → ⊥) → (i ≡ s0 + stride → ⊥) → (i ≡ s1 + stride → ⊥) → s' i ≡ s i

-- ---- the runs: the fixed bits are wide, a multiple of the run's length, and the ones below stride

pub record Cut (n wide run stride : ℕ) : Type 0 where
  pub k : ℕ
  pub r : ℕ
  pub y : ℕ
  pub stride_is : stride ≡ 2 ^ k
  pub run_is : run ≡ 2 ^ r
  pub below : k < r
  pub within : r ≤ n
  pub wide_is : wide ≡ y * 2 ^ r

pub record Runs (n wide run stride back0 back1 : ℕ) (b : Buffers) : Type 0 where
  pub keyed : Keyed n (wide + (stride - 1)) back0 back1 b
  pub cut : Cut n wide run stride
