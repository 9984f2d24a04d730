-- SWAP: the pairs that it exchanges are those of the keys that have both bits. Assumes nothing.
use Prim.Native.Nat.{ℕ, ◌+◌, ◌-◌, ◌^◌, ◌≤◌, ◌<◌}
use mathlib.Core.Logic.{⊎_elim}
use mathlib.Core.Path.{◌≡◌, sym, ap, ◌∙◌, subst}
use native.Mathlib.Omega.{arith}
use lib.ListN.{length}
use lib.Pow.{pow-lt}
use Rattle.book.specs.Answers.{Buffers}
use Rattle.book.specs.Gates.{x_rule}
use Rattle.book.specs.Kernels.{exchanged, swapped}
use Rattle.book.specs.State.{State, at, bit}
use Rattle.pairs.specs.Pairs.{Has, Paired, Keyed, Swept}
use Rattle.pairs.proofs.Bits.{halves, bit_up, bit_le, bit_before, up_lt, has_set, set_has, bit_pow, bit_of_and, and_of_bit, bit_other}
use Rattle.book.proofs.Tables.{held_only as held_ext, held_same}

-- ---- the exchanged index, by the two bits
module _ (t u i : ℕ) where
  pub exchanged_same : bit t i ≡ bit u i → exchanged t u i ≡ i
  exchanged_same e = rw e (omega arith)

  pub exchanged_other : bit t i ≡ 1 → bit u i ≡ 0 → exchanged t u i ≡ i + 2 ^ u - 2 ^ t
  exchanged_other o z = rw (o, z) (omega arith)

  pub exchanged_back : bit t i ≡ 0 → bit u i ≡ 1 → exchanged t u i ≡ i + 2 ^ t - 2 ^ u
  exchanged_back z o = rw (z, o) (omega arith)

  pub exchanged_sym : exchanged t u i ≡ exchanged u t i
  exchanged_sym = omega arith

-- ---- the keys that have both bits, t below u
module _ (t u : ℕ) (less : t < u) where
  ne : t ≡ u → ⊥
  ne e = omega arith

  free : bit u (2 ^ t) ≡ 0
  free = bit_pow u t (λ e. ne (sym e))

  both_has : (w : ℕ) → bit t w ≡ 1 → bit u w ≡ 1 → Has (2 ^ t + 2 ^ u) w
  both_has w o p = has_set u (2 ^ t) free w p (and_of_bit t w o)

  has_both : (w : ℕ) → Has (2 ^ t + 2 ^ u) w → (bit t w ≡ 1) × (bit u w ≡ 1)
  has_both w k = let q = set_has u (2 ^ t) free w k in (bit_of_and t w q.1, q.0)

  -- a place of a key's pair has one of the two bits
  lower_bits : (i : ℕ) → Has (2 ^ t + 2 ^ u) (i + 2 ^ u) → (bit t i ≡ 1) × (bit u i ≡ 0)
  lower_bits i k =
      let q = has_both (i + 2 ^ u) k in
      let z : bit u i ≡ 0 = bit_before u i q.1 in
      (sym (bit_other u t i (λ e. ne (sym e)) z) ∙ q.0, z)

  upper_bits : (i : ℕ) → Has (2 ^ t + 2 ^ u) (i + 2 ^ t) → (bit t i ≡ 0) × (bit u i ≡ 1)
  upper_bits i k =
      let q = has_both (i + 2 ^ t) k in
      let z : bit t i ≡ 0 = bit_before t i q.0 in
      (z, sym (bit_other t u i ne z) ∙ q.1)

  module _ (n : ℕ) (qubit : u < n) where
    pub both_below : 2 ^ t + 2 ^ u < 2 ^ n
    both_below = up_lt n u (2 ^ t) qubit (pow-lt (let h : t < n = omega arith in h)) free

    module _ (s s' : State) (p : Paired x_rule (Has (2 ^ t + 2 ^ u)) (λ w. w - 2 ^ u) (λ w. w - 2 ^ t) 0 (2 ^ n) s s') where
      pub each_place : (i : ℕ) → i < 2 ^ n → s' i ≡ s (exchanged t u i)
      each_place i l =
          ⊎_elim
          (λ z. ⊎_elim (λ y. neither (z ∙ sym y)) (λ o. at_upper z o) (halves u i))
          (λ o. ⊎_elim (λ z. at_lower o z) (λ y. neither (o ∙ sym y)) (halves u i))
          (halves t i)
        where
          neither : bit t i ≡ bit u i → s' i ≡ s (exchanged t u i)
          neither e =
              p.others i
              (λ w k x y. ⊎_elim
              (λ h.
              let q : w ≡ i + 2 ^ u = omega (arith, bit_le u w (has_both w k).1) in
              let r = lower_bits i (subst (Has (2 ^ t + 2 ^ u)) q k) in
              omega (arith, r.0, r.1))
              (λ h.
              let q : w ≡ i + 2 ^ t = omega (arith, bit_le t w (has_both w k).0) in
              let r = upper_bits i (subst (Has (2 ^ t + 2 ^ u)) q k) in
              omega (arith, r.0, r.1)))
              ∙ ap s (sym (exchanged_same t u i e))

          at_lower : bit t i ≡ 1 → bit u i ≡ 0 → s' i ≡ s (exchanged t u i)
          at_lower o z =
              let w : ℕ = i + 2 ^ u in
              let d : w - 2 ^ u ≡ i = omega arith in
              let k : Has (2 ^ t + 2 ^ u) w = both_has w (bit_other u t i (λ e. ne (sym e)) z ∙ o) (bit_up u i z) in
              ap s' (sym d) ∙ p.lower w k (omega arith) (up_lt n u i qubit l z) ∙ ap s (sym (exchanged_other t u i o z))

          at_upper : bit t i ≡ 0 → bit u i ≡ 1 → s' i ≡ s (exchanged t u i)
          at_upper z o =
              let w : ℕ = i + 2 ^ t in
              let d : w - 2 ^ t ≡ i = omega arith in
              let k : Has (2 ^ t + 2 ^ u) w = both_has w (bit_up t i z) (bit_other t u i ne z ∙ o) in
              ap s' (sym d) ∙ p.upper w k (omega arith) (up_lt n t i (omega arith) l z) ∙ ap s (sym (exchanged_back t u i z o))

  -- what a sweep asks, and what it leaves
  module _ {n : ℕ} {b : Buffers} (some : 1 ≤ n) (fits : n ≤ 24) (reals : length b.reals ≡ 2 ^ n) (imags : length b.imags ≡ 2 ^ n) (qubit : u < n) where
    pub swap_keyed : Keyed n (2 ^ t + 2 ^ u) (2 ^ u) (2 ^ t) b
    swap_keyed =
        record {
          some = some;
          fits = fits;
          reals = reals;
          imags = imags;
          below = both_below n qubit;
          reach = omega arith;
          order = pow-lt less;
          apart = λ i k l. omega (arith, (lower_bits i k).0, (upper_bits i l).0);
        }

    pub swept_swap : {b' : Buffers} → Swept x_rule n (2 ^ t + 2 ^ u) (2 ^ u) (2 ^ t) b b' → b' ≡ swapped n t u b
    unfolding swapped
    swept_swap {b'} w =
        held_ext (2 ^ n) (λ i. at b (exchanged t u i)) b' (w.same.reals ∙ reals) (w.same.imags ∙ imags)
        (each_place n qubit (at b) (at b') w.pairs)

-- ---- the buffers
module _ (n t u : ℕ) (b : Buffers) where
  pub swapped_sym : swapped n t u b ≡ swapped n u t b
  unfolding swapped
  swapped_sym = held_same (2 ^ n) (λ i. at b (exchanged t u i)) (λ i. at b (exchanged u t i)) (λ i l. ap (at b) (exchanged_sym t u i))

  module _ (reals : length b.reals ≡ 2 ^ n) (imags : length b.imags ≡ 2 ^ n) where
    -- a qubit with itself
    pub swapped_itself : t ≡ u → b ≡ swapped n t u b
    unfolding swapped
    swapped_itself e =
        held_ext (2 ^ n) (λ i. at b (exchanged t u i)) b reals imags (λ i l. ap (at b) (sym (exchanged_same t u i (ap (λ (x : ℕ). bit x i) e))))
