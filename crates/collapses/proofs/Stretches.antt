-- Stretches of places turned: one place more, one stretch behind the other, and all places of the buffers. Assumes nothing.
use Prim.Native.Nat.{ℕ, ◌+◌, ◌-◌, ◌^◌, ◌≤◌, ◌<◌}
use mathlib.Core.Bool.{Bool}
use mathlib.Core.List.{List}
use mathlib.Core.Path.{◌≡◌, refl, sym, ap, ◌∙◌, subst}
use native.Mathlib.Decide.{ℕ_discrete}
use native.Mathlib.Omega.{arith}
use borrow.Author.Tests.{eq-eqb, ne_eqb}
use lib.Dec.{eqb}
use lib.Ieee.{Float}
use lib.ListN.{length, set, length-set}
use Rattle.book.proofs.Tables.{held_only}
use Rattle.book.specs.Answers.{Buffers, buffers}
use Rattle.book.specs.Measuring.{collapsed}
use Rattle.book.specs.State.{State, amplitude, at, held, bit, uncontrolled}
use Rattle.book.specs.declared.Amplitude.{Amplitude}
use Rattle.pairs.proofs.Halves.{turn_none, turn_join, turn_one}
use Rattle.probabilities.specs.Stretches.{Stretch}
use Rattle.collapses.specs.Halves.{half_of, Remade}
use Rattle.probabilities.proofs.Sums.{bit_is}
use Rattle.seated.proofs.Shifts.{shl, shl_is}
use Rattle.seated.specs.Judging.{Seated}
use Rattle.pairs.proofs.Blocks.{Base, first, room, next, low, high, ended}

module _ (f : ℕ → Amplitude → Amplitude) where
  pub none : (from : ℕ) (b : Buffers) → Remade f from from b b
  none from b = record { size = record { reals = refl; imags = refl }; mapped = turn_none f from (at b) }

  pub join : {from mid to : ℕ} {b b' b'' : Buffers} → from ≤ mid → mid ≤ to → Remade f from mid b b' → Remade f mid to b' b'' → Remade f from to b b''
  join x y p q =
      record {
        size = record { reals = q.size.reals ∙ p.size.reals; imags = q.size.imags ∙ p.size.imags };
        mapped = turn_join f x y p.mapped q.mapped;
      }

  -- one place stored to in both buffers
  pub one_more : {from i to : ℕ} {b₀ : Buffers} {re im : List Float} {x y : Float} → Stretch from to b₀ → from ≤ i → i < to → Remade f from i b₀ (buffers re im)
      → amplitude x y ≡ f i (at (buffers re im) i) → Remade f from (i + 1) b₀ (buffers (set re i x) (set im i y))
  one_more {i = i} {re = re} {im = im} {x = x} {y = y} ok l m p e =
      join l (omega arith) p
      (record {
        size = record { reals = length-set re i x; imags = length-set im i y };
        mapped = turn_one f i (buffers re im) x y (omega (arith, p.size.reals, ok.reals)) (omega (arith, p.size.imags, ok.imags)) e;
      })

  -- all places: the buffers are the table
  pub whole : (n : ℕ) {b b' : Buffers} (g : State) → length b.reals ≡ 2 ^ n → length b.imags ≡ 2 ^ n → Remade f 0 (2 ^ n) b b'
      → ((i : ℕ) → f i (at b i) ≡ g i) → b' ≡ held (2 ^ n) g
  whole n {b} {b'} g lr li p e =
      held_only (2 ^ n) g b' (p.size.reals ∙ lr) (p.size.imags ∙ li) (λ i l. p.mapped.inside i (omega arith) l ∙ e i)

-- the same turn, told by another function
pub told : {f g : ℕ → Amplitude → Amplitude} {from to : ℕ} {b b' : Buffers} → Remade f from to b b'
    → ((i : ℕ) (z : Amplitude) → from ≤ i → i < to → f i z ≡ g i z) → Remade g from to b b'
told {b = b} p e =
    record {
      size = p.size;
      mapped =
          record {
            inside = λ i x y. p.mapped.inside i x y ∙ e i (at b i) x y;
            before = p.mapped.before;
            after = p.mapped.after;
          };
    }

pub still : {f : ℕ → Amplitude → Amplitude} {from to a e : ℕ} {b b' : Buffers} → Remade f a e b b' → Stretch from to b → Stretch from to b'
still p ok = record { order = ok.order; reals = omega (arith, p.size.reals, ok.reals); imags = omega (arith, p.size.imags, ok.imags) }

-- ---- block by block

-- what a place becomes
abbrev pub collapsed_at : ℕ → ℕ → Float → ℕ → Amplitude → Amplitude
collapsed_at t outcome r i z = half_of (eqb (bit t i) outcome) r z

pub record Collapsing (n t outcome : ℕ) (r : Float) (b₀ : Buffers) (base : ℕ) (b : Buffers) : Type 0 where
  pub block : Base n t base
  pub remade : Remade (collapsed_at t outcome r) 0 base b₀ b

eqb_sym : (x y : ℕ) → eqb x y ≡ eqb y x
eqb_sym x y = by (ℕ_discrete x y)
  where
    by : Dec (x ≡ y) → eqb x y ≡ eqb y x
    by (yes e) = eq-eqb x y e ∙ sym (eq-eqb y x (sym e))
    by (no n) = ne_eqb x y n ∙ sym (ne_eqb y x (λ e. n (sym e)))

module _ {n t outcome : ℕ} {r : Float} {b₀ : Buffers} (ok : Seated n t uncontrolled b₀) where
  pub collapse_starts : Collapsing n t outcome r b₀ 0 b₀
  collapse_starts = record { block = first n t; remade = none (collapsed_at t outcome r) 0 b₀ }

  module _ {base : ℕ} {b : Buffers} (u : Collapsing n t outcome r b₀ base b) (l : base < 2 ^ n) where
    pub block_room : base + 2 ^ t + 2 ^ t ≤ 2 ^ n
    block_room = room u.block ok.qubit l

    pub lower_half : Stretch base (base + 2 ^ t) b
    lower_half =
        still u.remade (record { order = omega arith; reals = omega (arith, block_room, ok.reals); imags = omega (arith, block_room, ok.imags) })

    pub upper_half : {f : ℕ → Amplitude → Amplitude} {b₁ : Buffers} → Remade f base (base + 2 ^ t) b b₁ → Stretch (base + 2 ^ t) (base + 2 ^ t + 2 ^ t) b₁
    upper_half p =
        still p
        (still u.remade (record { order = omega arith; reals = omega (arith, block_room, ok.reals); imags = omega (arith, block_room, ok.imags) }))

    -- both halves of a block
    pub block_done : {b₁ b₂ : Buffers} → Remade (λ i. half_of (eqb outcome 0) r) base (base + 2 ^ t) b b₁
        → Remade (λ i. half_of (eqb outcome 1) r) (base + 2 ^ t) (base + 2 ^ t + 2 ^ t) b₁ b₂ → Collapsing n t outcome r b₀ (base + 2 ^ t + 2 ^ t) b₂
    block_done p q =
        let f = collapsed_at t outcome r in
        let told_by : (k i : ℕ) (z : Amplitude) → bit t i ≡ k → half_of (eqb outcome k) r z ≡ f i z =
        λ k i z e. ap (λ (x : Bool). half_of x r z) (eqb_sym outcome k ∙ ap (λ (x : ℕ). eqb x outcome) (sym e)) in
        record {
          block = next u.block ok.qubit l;
          remade =
              join f (omega arith) (omega arith)
              (join f (omega arith) (omega arith) u.remade (told p (λ i z x y. told_by 0 i z (low u.block ok.qubit l i x y))))
              (told q (λ i z x y. told_by 1 i z (high u.block ok.qubit l i x y)));
        }

  pub collapse_ends : {base : ℕ} {b : Buffers} → Collapsing n t outcome r b₀ base b → 2 ^ n ≤ base → b ≡ held (2 ^ n) (collapsed t outcome r (at b₀))
  collapse_ends {b = b} u l =
      whole (collapsed_at t outcome r) n (collapsed t outcome r (at b₀)) ok.reals ok.imags
      (subst (λ (k : ℕ). Remade (collapsed_at t outcome r) 0 k b₀ b) (ended u.block l) u.remade) (λ i. refl)

-- ---- the same over the code's shifts

module _ {n t outcome : ℕ} {r : Float} {b₀ : Buffers} (ok : Seated n t uncontrolled b₀) where
  pub at_end : {base : ℕ} {b : Buffers} → Collapsing n t outcome r b₀ base b → shl n ≤ base → b ≡ held (2 ^ n) (collapsed t outcome r (at b₀))
  at_end u l = collapse_ends ok u (rw (shl_is n ok.fits) at l)

  module _ {base : ℕ} {b : Buffers} (u : Collapsing n t outcome r b₀ base b) (l : base < shl n) where
    pub lower : Stretch base (base + shl t) b
    lower = rw (bit_is ok) (lower_half ok u (rw (shl_is n ok.fits) at l))

    module _ {b₁ : Buffers} (p : Remade (λ i. half_of (eqb outcome 0) r) base (base + shl t) b b₁) where
      pub upper : Stretch (base + shl t) (base + shl t + shl t) b₁
      upper = rw (bit_is ok) (upper_half ok u (rw (shl_is n ok.fits) at l) (rw (bit_is ok) at p))

      pub next_block : {b₂ : Buffers} → Remade (λ i. half_of (eqb outcome 1) r) (base + shl t) (base + shl t + shl t) b₁ b₂
          → Collapsing n t outcome r b₀ (base + (shl t + shl t)) b₂
      next_block q =
          let place : base + 2 ^ t + 2 ^ t ≡ base + (2 ^ t + 2 ^ t) = omega arith in
          rw (bit_is ok, ← place) (block_done ok u (rw (shl_is n ok.fits) at l) (rw (bit_is ok) at p) (rw (bit_is ok) at q))
