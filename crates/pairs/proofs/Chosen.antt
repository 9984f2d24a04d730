-- The pairs that a target and its controls choose are those of the keys that have the controls' bits and the target's. Assumes nothing.
use Prim.Native.Nat.{ℕ, ◌+◌, ◌-◌, ◌^◌, ◌<◌}
use mathlib.Core.Bool.{Bool, true, false}
use mathlib.Core.Logic.{⊎_elim}
use mathlib.Core.Path.{◌≡◌, refl, sym, ap, ◌∙◌, subst}
use native.Mathlib.Nat.{sub-zero, add-zero}
use native.Mathlib.Omega.{arith}
use borrow.Author.Tests.{eq-eqb, eqb-true}
use lib.Bits.{bit_and}
use lib.Pow.{pow_pos}
use Rattle.book.proofs.Places.{placed_neither, placed_lower, placed_upper}
use Rattle.book.specs.Answers.{Buffers}
use Rattle.book.specs.State.{State, at, bit, chosen, pair, placed, on_pairs}
use Rattle.book.specs.declared.Controls.{Controls}
use Rattle.book.specs.declared.Pair.{Pair}
use Rattle.seated.specs.Judging.{Seated}
use Rattle.pairs.specs.Pairs.{Has, Paired, Keyed, Swept}
use Rattle.pairs.proofs.Bits.{halves, bit_up, bit_le, bit_before, bit_down, up_lt, has_set, set_has, and_up}
use Rattle.book.proofs.Tables.{held_only as held_ext}

pub by_bool : {P : Type 0} (b : Bool) → (b ≡ true → P) → (b ≡ false → P) → P
by_bool true f g = f refl
by_bool false f g = g refl

-- ---- the choice and the keys
module _ (t : ℕ) (c : Controls) (free : bit t c.ones ≡ 0) where
  abbrev fixed : ℕ
  fixed = c.ones + 2 ^ t

  pub yes_of : (i : ℕ) → bit_and i c.ones ≡ c.ones → chosen c i ≡ true
  unfolding chosen
  yes_of i e = eq-eqb (bit_and i c.ones) c.ones e

  of_yes : (i : ℕ) → chosen c i ≡ true → bit_and i c.ones ≡ c.ones
  unfolding chosen
  of_yes i e = eqb-true (bit_and i c.ones) c.ones e

  -- both places of a pair are chosen or none
  pub chosen_up : (i : ℕ) → bit t i ≡ 0 → chosen c (i + 2 ^ t) ≡ chosen c i
  unfolding chosen
  chosen_up i z = rw (and_up t c.ones free i z)

  pub chosen_down : (i : ℕ) → bit t i ≡ 1 → chosen c (i - 2 ^ t) ≡ chosen c i
  chosen_down i o =
      let b : i - 2 ^ t + 2 ^ t ≡ i = omega (arith, bit_le t i o) in
      sym (chosen_up (i - 2 ^ t) (bit_down t i o)) ∙ ap (chosen c) b

  lower_key : (i : ℕ) → chosen c i ≡ true → bit t i ≡ 0 → Has fixed (i + 2 ^ t)
  lower_key i h z = has_set t c.ones free (i + 2 ^ t) (bit_up t i z) (of_yes (i + 2 ^ t) (chosen_up i z ∙ h))

  upper_key : (i : ℕ) → chosen c i ≡ true → bit t i ≡ 1 → Has fixed i
  upper_key i h o = has_set t c.ones free i o (of_yes i h)

  -- a place of a key's pair is chosen
  key_upper : (w : ℕ) → Has fixed w → chosen c w ≡ true
  key_upper w k = yes_of w (set_has t c.ones free w k).1

  key_lower : (i w : ℕ) → Has fixed w → i ≡ w - 2 ^ t → chosen c i ≡ true
  key_lower i w k e = ap (chosen c) e ∙ chosen_down w (set_has t c.ones free w k).0 ∙ key_upper w k

  -- the rule put to the pair of each key is the gate
  module _ (rule : Pair → Pair) (n : ℕ) (qubit : t < n) (s s' : State) (p : Paired rule (Has fixed) (λ w. w - 2 ^ t) (λ w. w - 0) 0 (2 ^ n) s s') where
    pub each_place : (i : ℕ) → i < 2 ^ n → s' i ≡ placed rule t c s i
    each_place i l =
        by_bool (chosen c i)
        (λ h. ⊎_elim (λ z. at_lower h z) (λ o. at_upper h o) (halves t i))
        (λ h. p.others i (λ w k x y z. not_both h (⊎_elim (λ e. key_lower i w k e) (λ e. ap (chosen c) (e ∙ sub-zero w) ∙ key_upper w k) z))
        ∙ sym (placed_neither rule t c s i h))
      where
        not_both : {b : Bool} → b ≡ false → b ≡ true → ⊥
        not_both e f = let z : ◌≡◌ {A = ℕ} 0 1 = (cc) in omega arith

        at_lower : chosen c i ≡ true → bit t i ≡ 0 → s' i ≡ placed rule t c s i
        at_lower h z =
            let w : ℕ = i + 2 ^ t in
            let d : w - 2 ^ t ≡ i = omega arith in
            let q : s' (w - 2 ^ t) ≡ (rule (pair (s (w - 2 ^ t)) (s (w - 0)))).s0 = p.lower w (lower_key i h z) (omega arith) (up_lt n t i qubit l z) in
            let q' : s' i ≡ (rule (pair (s i) (s (w - 0)))).s0 = rw d at q in
            q' ∙ ap (λ (j : ℕ). (rule (pair (s i) (s j))).s0) (sub-zero w) ∙ sym (placed_lower rule t c s i h z)

        at_upper : chosen c i ≡ true → bit t i ≡ 1 → s' i ≡ placed rule t c s i
        at_upper h o =
            let q : s' (i - 0) ≡ (rule (pair (s (i - 2 ^ t)) (s (i - 0)))).s1 = p.upper i (upper_key i h o) (omega arith) l in
            let q' : s' i ≡ (rule (pair (s (i - 2 ^ t)) (s i))).s1 = subst (λ (j : ℕ). s' j ≡ (rule (pair (s (i - 2 ^ t)) (s j))).s1) (sub-zero i) q in
            q' ∙ sym (placed_upper rule t c s i h o)

-- ---- a call that tests 1 to 4 let pass
module _ {n t : ℕ} {c : Controls} {b : Buffers} (ok : Seated n t c b) where
  -- meets what a sweep asks
  pub keyed : Keyed n (c.ones + 2 ^ t) (2 ^ t) 0 b
  keyed =
      record {
        some = ok.some;
        fits = ok.fits;
        reals = ok.reals;
        imags = ok.imags;
        below = up_lt n t c.ones ok.qubit ok.inside ok.free;
        reach = omega arith;
        order = pow_pos t;
        apart = λ i k l.
            let o : bit t (i + 2 ^ t) ≡ 1 = (set_has t c.ones ok.free (i + 2 ^ t) k).0 in
            let o' : bit t (i + 0) ≡ 1 = (set_has t c.ones ok.free (i + 0) l).0 in
            omega (arith, bit_before t i o, ap (bit t) (add-zero i));
      }

  -- and what it leaves is what 01 says
  pub swept_gate : {rule : Pair → Pair} {b' : Buffers} → Swept rule n (c.ones + 2 ^ t) (2 ^ t) 0 b b' → b' ≡ on_pairs rule n t c b
  unfolding on_pairs
  swept_gate {rule} {b'} w =
      held_ext (2 ^ n) (placed rule t c (at b)) b' (w.same.reals ∙ ok.reals) (w.same.imags ∙ ok.imags)
      (each_place t c ok.free rule n ok.qubit (at b) (at b') w.pairs)
