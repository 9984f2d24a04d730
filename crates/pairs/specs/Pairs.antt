-- Pairs of places found by keys, and what a rule put to each of them leaves. Definitions only. Assumes nothing.
use Rattle.std.specs.Prelude.{ℕ, ◌+◌, ◌-◌, ◌≤◌, ◌<◌, ◌^◌, ◌⊎◌, ◌≡◌, length}
use Rattle.std.specs.Int.Bits.{bit_and}
use Rattle.book.specs.Answers.{Buffers}
use Rattle.book.specs.Lent.{SameSize}
use Rattle.book.specs.State.{State, at, bit, pair}
use Rattle.book.specs.declared.Amplitude.{Amplitude}
use Rattle.book.specs.declared.Pair.{Pair}

-- ---- one pair

-- s0 and s1 are two places of both buffers
pub record TwoPlaces (b : Buffers) (s0 s1 : ℕ) : Type 0 where
  pub apart : s0 < s1
  pub reals : s1 < length b.reals
  pub imags : s1 < length b.imags

abbrev pub pair_at : Buffers → ℕ → ℕ → Pair
pair_at b s0 s1 = pair (at b s0) (at b s1)

-- the rule was put to the pair at s0 and s1, and no other place changed
pub record PairPut (rule : Pair → Pair) (s0 s1 : ℕ) (s s' : State) : Type 0 where
  pub lower : s' s0 ≡ (rule (pair (s s0) (s s1))).s0
  pub upper : s' s1 ≡ (rule (pair (s s0) (s s1))).s1
  pub others : (i : ℕ) → (i ≡ s0 → ⊥) → (i ≡ s1 → ⊥) → s' i ≡ s i

-- ---- many pairs: each key has one, at the places s0 and s1 of the key

-- no place is in two pairs
pub record Apart (Key : ℕ → Type 0) (s0 s1 : ℕ → ℕ) : Type 0 where
  pub lower : (v w : ℕ) → Key v → Key w → s0 v ≡ s0 w → v ≡ w
  pub upper : (v w : ℕ) → Key v → Key w → s1 v ≡ s1 w → v ≡ w
  pub cross : (v w : ℕ) → Key v → Key w → s0 v ≡ s1 w → ⊥

-- the rule was put to the pair of each key from a on and below b, and no other place changed
pub record Paired (rule : Pair → Pair) (Key : ℕ → Type 0) (s0 s1 : ℕ → ℕ) (a b : ℕ) (s s' : State) : Type 0 where
  pub lower : (w : ℕ) → Key w → a ≤ w → w < b → s' (s0 w) ≡ (rule (pair (s (s0 w)) (s (s1 w)))).s0
  pub upper : (w : ℕ) → Key w → a ≤ w → w < b → s' (s1 w) ≡ (rule (pair (s (s0 w)) (s (s1 w)))).s1
  pub others : (i : ℕ) → ((w : ℕ) → Key w → a ≤ w → w < b → (i ≡ s0 w) ⊎ (i ≡ s1 w) → ⊥) → s' i ≡ s i

-- ---- keys by their bits: those that have all bits of fixed; the pair lies back0 and back1 below its key

abbrev pub Has : ℕ → ℕ → Type 0
Has fixed w = bit_and w fixed ≡ fixed

-- What a sweep over the keys of n qubits asks.
pub record Keyed (n fixed back0 back1 : ℕ) (b : Buffers) : Type 0 where
  pub some : 1 ≤ n
  pub fits : n ≤ 24
  pub reals : length b.reals ≡ 2 ^ n
  pub imags : length b.imags ≡ 2 ^ n
  pub below : fixed < 2 ^ n
  pub reach : back0 ≤ fixed
  pub order : back1 < back0
  pub apart : (i : ℕ) → Has fixed (i + back0) → Has fixed (i + back1) → ⊥

-- What it leaves: the rule was put to the pair of each key.
pub record Swept (rule : Pair → Pair) (n fixed back0 back1 : ℕ) (b b' : Buffers) : Type 0 where
  pub same : SameSize b b'
  pub pairs : Paired rule (Has fixed) (λ w. w - back0) (λ w. w - back1) 0 (2 ^ n) (at b) (at b')

-- ---- places one by one: each place from a on and below b became what f makes of it, and no other changed
pub record Mapped (f : ℕ → Amplitude → Amplitude) (a b : ℕ) (s s' : State) : Type 0 where
  pub inside : (i : ℕ) → a ≤ i → i < b → s' i ≡ f i (s i)
  pub before : (i : ℕ) → i < a → s' i ≡ s i
  pub after : (i : ℕ) → b ≤ i → s' i ≡ s i

-- where the target's bit is 1 each place became what f makes of it, and the others stayed
pub record UppersTurned (f : ℕ → Amplitude → Amplitude) (n t : ℕ) (b b' : Buffers) : Type 0 where
  pub same : SameSize b b'
  pub lower : (i : ℕ) → i < 2 ^ n → bit t i ≡ 0 → at b' i ≡ at b i
  pub upper : (i : ℕ) → i < 2 ^ n → bit t i ≡ 1 → at b' i ≡ f i (at b i)
