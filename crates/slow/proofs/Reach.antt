-- What a deed reads is there: an index, its partner on either side, and the index with two bits exchanged. By the laws of bits. Assumes nothing.
use Prim.Native.Nat.{ℕ, ◌+◌, ◌-◌, ◌*◌, ◌%◌, ◌^◌, ◌≤◌, ◌<◌}
use mathlib.Core.Bool.{true, false}
use mathlib.Core.Logic.{◌⊎◌, inl, inr, ⊎_elim}
use mathlib.Core.Path.{◌≡◌, sym, ap, ap₂, ◌∙◌, subst}
use native.Mathlib.Nat.{mod-eq_of_lt}
use native.Mathlib.Decide.{dec_lt}
use native.Mathlib.Omega.{arith}
use borrow.Author.Tests.{eq-eqb, ne_eqb}
use lib.Bits.{bit_and}
use lib.Pow.{pow-lt}
use Rattle.book.proofs.Bits.{bit_le, halves, up_lt}
use Rattle.book.proofs.Places.{placed_lower, placed_upper}
use Rattle.book.proofs.Twice.{exchange}
use Rattle.book.specs.Answers.{Buffers}
use Rattle.book.specs.Kernels.{exchanged}
use Rattle.book.specs.State.{State, at, bit, chosen, pair, placed}
use Rattle.book.specs.declared.Amplitude.{Amplitude}
use Rattle.book.specs.declared.Controls.{Controls}
use Rattle.book.specs.declared.Pair.{Pair}
use Rattle.matrices.specs.Filled.{Holds, Filled}
use Rattle.seated.proofs.Shifts.{shl, shl_is, pow_le}
use Rattle.slow.specs.Slow.{Sized, Reaches}

module _ {target second : ℕ} {b : Buffers} {i : ℕ} (r : Reaches target second b i) where
  within : (j : ℕ) → j < 2 ^ r.n → Holds (j + 1) b
  within j l = record { reals = omega (arith, r.sized.reals); imags = omega (arith, r.sized.imags) }

  pub here_is : Holds (i + 1) b
  here_is = within i r.inside

  pub above : bit target i ≡ 0 → Holds (i + 2 ^ target + 1) b
  above z = within (i + 2 ^ target) (up_lt r.n target i r.one r.inside z)

  pub below : Holds (i - 2 ^ target + 1) b
  below = within (i - 2 ^ target) (omega (arith, r.inside))

  pub other : Holds (exchanged target second i + 1) b
  other = within (exchanged target second i) (exchange r.n target second i r.one r.two r.inside).within

  pub power : shl target ≡ 2 ^ target
  power = shl_is target (omega (arith, r.one, r.sized.fits))

  pub small : i < 2 ^ 24
  small = omega (arith, r.inside, pow_le r.n 24 r.sized.fits)

  pub room : i + 2 ^ target < 2 ^ 25
  room =
      let l : target < 24 = omega (arith, r.one, r.sized.fits) in
      let h : 2 ^ target < 2 ^ 24 = pow-lt l in
      omega (arith, small)

  pub two_small : (target < 24) × (second < 24) × (i < 2 ^ 24)
  two_small = (omega (arith, r.one, r.sized.fits), omega (arith, r.two, r.sized.fits), small)

-- the code's `1 << n` of a state of n qubits
pub size : {n : ℕ} {b : Buffers} → Sized n b → shl n ≡ 2 ^ n
size {n} s = shl_is n s.fits

-- one place more: what holds of each before it holds of it too
pub filled_more : (P : ℕ → Amplitude → Type 0) (i : ℕ) {z : Amplitude} {b b' : Buffers} → ((k : ℕ) → k < i → P k (at b k)) → P i z
    → Filled i 1 (λ j. z) b b' → (k : ℕ) → k < i + 1 → P k (at b' k)
filled_more P i {b' = b'} so_far p w k l = by (dec_lt k i)
  where
    start : i + 0 ≡ i
    start = omega arith

    by : Dec (k < i) → P k (at b' k)
    by (yes h) = subst (P k) (sym (w.others k (inl h))) (so_far k h)
    by (no h) =
        let same : i ≡ k = omega arith in
        let stored = ap (at b') (sym start) ∙ w.here 0 (omega arith) in
        subst (λ (j : ℕ). P j (at b' j)) same (subst (P i) (sym stored) p)

-- the mask bits are all 1, or not
is_chosen : (c : Controls) (i : ℕ) → bit_and i c.ones ≡ c.ones → chosen c i ≡ true
unfolding chosen
is_chosen c i e = eq-eqb (bit_and i c.ones) c.ones e

pub not_chosen : (c : Controls) (i : ℕ) → (bit_and i c.ones ≡ c.ones → ⊥) → chosen c i ≡ false
unfolding chosen
not_chosen c i e = ne_eqb (bit_and i c.ones) c.ones e

-- a bit that is not 0
pub set : (t i : ℕ) → (bit t i ≡ 0 → ⊥) → bit t i ≡ 1
set t i e = ⊎_elim (λ z. absurd (e z)) (λ o. o) (halves t i)

-- what the rule makes of the place and its partner, d away
module _ (rule : Pair → Pair) (t : ℕ) (c : Controls) (s : State) (i : ℕ) (h : bit_and i c.ones ≡ c.ones)
    {d : ℕ} (e : d ≡ 2 ^ t) {x y : Amplitude} {p : Pair} where
  pub lower_place : bit t i ≡ 0 → x ≡ s i → y ≡ s (i + d) → p ≡ rule (pair x y) → p.s0 ≡ placed rule t c s i
  lower_place z f g is =
      ap (λ (q : Pair). q.s0) (is ∙ ap₂ (λ (u v : Amplitude). rule (pair u v)) f (g ∙ ap (λ (k : ℕ). s (i + k)) e))
      ∙ sym (placed_lower rule t c s i (is_chosen c i h) z)

  pub upper_place : bit t i ≡ 1 → x ≡ s (i - d) → y ≡ s i → p ≡ rule (pair x y) → p.s1 ≡ placed rule t c s i
  upper_place o f g is =
      ap (λ (q : Pair). q.s1) (is ∙ ap₂ (λ (u v : Amplitude). rule (pair u v)) (f ∙ ap (λ (k : ℕ). s (i - k)) e) g)
      ∙ sym (placed_upper rule t c s i (is_chosen c i h) o)

-- ---- the index with two bits exchanged, as the code has it: a bit times a power below 2 ^ 24 is far from where a word ends

module _ (q t i : ℕ) (l : t < 24) where
  below_24 : bit q i * 2 ^ t < 2 ^ 24
  below_24 = let h : 2 ^ t < 2 ^ 24 = pow-lt l in ⊎_elim (λ e. rw e (omega arith)) (λ e. rw e (omega arith)) (halves q i)

  kept : bit q i * 2 ^ t % 2 ^ 64 ≡ bit q i * 2 ^ t
  kept = mod-eq_of_lt (omega (arith, below_24))

pub record Moves (t0 t1 i : ℕ) : Type 0 where
  pub up0 : bit t1 i * 2 ^ t0 % 2 ^ 64 ≡ bit t1 i * 2 ^ t0
  pub up1 : bit t0 i * 2 ^ t1 % 2 ^ 64 ≡ bit t0 i * 2 ^ t1
  pub down0 : bit t0 i * 2 ^ t0 % 2 ^ 64 ≡ bit t0 i * 2 ^ t0
  pub down1 : bit t1 i * 2 ^ t1 % 2 ^ 64 ≡ bit t1 i * 2 ^ t1
  pub most : bit t1 i * 2 ^ t0 + bit t0 i * 2 ^ t1 + bit t0 i * 2 ^ t0 + bit t1 i * 2 ^ t1 < 2 ^ 26
  pub less : bit t0 i * 2 ^ t0 + bit t1 i * 2 ^ t1 ≤ i + bit t1 i * 2 ^ t0 + bit t0 i * 2 ^ t1

moved_less : (t0 t1 i : ℕ) → bit t0 i * 2 ^ t0 + bit t1 i * 2 ^ t1 ≤ i + bit t1 i * 2 ^ t0 + bit t0 i * 2 ^ t1
moved_less t0 t1 i = by (halves t0 i) (halves t1 i)
  where
    by : (bit t0 i ≡ 0) ⊎ (bit t0 i ≡ 1) → (bit t1 i ≡ 0) ⊎ (bit t1 i ≡ 1)
        → bit t0 i * 2 ^ t0 + bit t1 i * 2 ^ t1 ≤ i + bit t1 i * 2 ^ t0 + bit t0 i * 2 ^ t1
    by (inl e) (inl f) = rw (e, f) (omega arith)
    by (inl e) (inr f) = rw (e, f) (omega (arith, bit_le t1 i f))
    by (inr e) (inl f) = rw (e, f) (omega (arith, bit_le t0 i e))
    by (inr e) (inr f) = rw (e, f) (omega arith)

pub moves : (t0 t1 i : ℕ) → t0 < 24 → t1 < 24 → Moves t0 t1 i
moves t0 t1 i l m =
    record {
      up0 = kept t1 t0 i l;
      up1 = kept t0 t1 i m;
      down0 = kept t0 t0 i l;
      down1 = kept t1 t1 i m;
      most = omega (arith, below_24 t1 t0 i l, below_24 t0 t1 i m, below_24 t0 t0 i l, below_24 t1 t1 i m);
      less = moved_less t0 t1 i;
    }
