-- THE LAW OF THE LOOP over chosen pairs, over any rule and any choice: work on the keys below b and work on the keys from b on join.
-- What a loop keeps is then one line; the rest says how one pair, a gap without keys, and a change of the numbering fit in. Assumes nothing.
use Prim.Native.Nat.{ℕ, ◌+◌, ◌≤◌, ◌<◌}
use mathlib.Core.Logic.{inl, inr, ⊎_elim}
use mathlib.Core.Path.{◌≡◌, refl, sym, ap, ap₂, ◌∙◌, subst}
use native.Mathlib.Decide.{dec_lt}
use native.Mathlib.Omega.{arith}
use Rattle.book.specs.State.{State, pair}
use Rattle.book.specs.declared.Pair.{Pair}
use Rattle.pairs.specs.Pairs.{PairPut, Apart, Paired}

module _ (rule : Pair → Pair) (Key : ℕ → Type 0) (s0 s1 : ℕ → ℕ) where
  -- a stretch with no key
  pub nothing : (a b : ℕ) (s : State) → ((w : ℕ) → Key w → a ≤ w → w < b → ⊥) → Paired rule Key s0 s1 a b s s
  nothing a b s none =
      record { lower = λ w k x y. absurd (none w k x y); upper = λ w k x y. absurd (none w k x y); others = λ i f. refl }

  -- one pair
  pub one : {w : ℕ} {s s' : State} → Key w → PairPut rule (s0 w) (s1 w) s s' → Paired rule Key s0 s1 w (w + 1) s s'
  one {w} {s} {s'} key st =
      record {
        lower = λ v k x y. subst (λ (z : ℕ). s' (s0 z) ≡ (rule (pair (s (s0 z)) (s (s1 z)))).s0) (let e : w ≡ v = omega arith in e) st.lower;
        upper = λ v k x y. subst (λ (z : ℕ). s' (s1 z) ≡ (rule (pair (s (s0 z)) (s (s1 z)))).s1) (let e : w ≡ v = omega arith in e) st.upper;
        others = λ i f. st.others i (λ e. f w key (omega arith) (omega arith) (inl e)) (λ e. f w key (omega arith) (omega arith) (inr e));
      }

  -- THE LAW: from a to b, then on from b to c, is from a to c
  module _ (apart : Apart Key s0 s1) where
    pub join : {a b c : ℕ} {s s' s'' : State} → a ≤ b → b ≤ c → Paired rule Key s0 s1 a b s s' → Paired rule Key s0 s1 b c s' s''
        → Paired rule Key s0 s1 a c s s''
    join {a} {b} {c} {s} {s'} {s''} ab bc p q =
        record {
          lower = λ w k x y. elim (dec_lt w b) [
            | yes h ↦ q.others (s0 w) (λ v l m n z. ⊎_elim (λ e. omega (arith, apart.lower w v k l e)) (λ e. apart.cross w v k l e) z) ∙ p.lower w k x h
            | no h ↦ q.lower w k (omega arith) y ∙ ap (λ (z : Pair). (rule z).s0) (read w k (omega arith))
          ];
          upper = λ w k x y. elim (dec_lt w b) [
            | yes h ↦ q.others (s1 w) (λ v l m n z. ⊎_elim (λ e. apart.cross v w l k (sym e)) (λ e. omega (arith, apart.upper w v k l e)) z)
                ∙ p.upper w k x h
            | no h ↦ q.upper w k (omega arith) y ∙ ap (λ (z : Pair). (rule z).s1) (read w k (omega arith))
          ];
          others = λ i f. q.others i (λ w k x y. f w k (omega arith) y) ∙ p.others i (λ w k x y. f w k x (omega arith));
        }
      where
        -- what is read from b on is what was there at the start
        read : (w : ℕ) → Key w → b ≤ w → pair (s' (s0 w)) (s' (s1 w)) ≡ pair (s (s0 w)) (s (s1 w))
        read w k h =
            ap₂ pair
            (p.others (s0 w) (λ v l m n z. ⊎_elim (λ e. omega (arith, apart.lower w v k l e)) (λ e. apart.cross w v k l e) z))
            (p.others (s1 w) (λ v l m n z. ⊎_elim (λ e. apart.cross v w l k (sym e)) (λ e. omega (arith, apart.upper w v k l e)) z))

  -- another numbering of the same pairs
  module _ (Key' : ℕ → Type 0) (t0 t1 : ℕ → ℕ) (a b a' b' : ℕ) where
    -- the key w has the pair that v has in the other numbering
    pub record Same (v w : ℕ) : Type 0 where
      pub key : Key w
      pub from : a ≤ w
      pub below : w < b
      pub lower : s0 w ≡ t0 v
      pub upper : s1 w ≡ t1 v

    pub record Same' (w v : ℕ) : Type 0 where
      pub key : Key' v
      pub from : a' ≤ v
      pub below : v < b'
      pub lower : s0 w ≡ t0 v
      pub upper : s1 w ≡ t1 v

    pub renumber : {s s' : State} → ((w : ℕ) → Key w → a ≤ w → w < b → (v : ℕ) × Same' w v) → ((v : ℕ) → Key' v → a' ≤ v → v < b' → (w : ℕ) × Same v w)
        → Paired rule Key' t0 t1 a' b' s s' → Paired rule Key s0 s1 a b s s'
    renumber {s} {s'} to from p =
        record {
          lower = λ w k x y.
              let v = to w k x y in
              ap s' v.1.lower ∙ p.lower v.0 v.1.key v.1.from v.1.below
              ∙ ap₂ (λ (i j : ℕ). (rule (pair (s i) (s j))).s0) (sym v.1.lower) (sym v.1.upper);
          upper = λ w k x y.
              let v = to w k x y in
              ap s' v.1.upper ∙ p.upper v.0 v.1.key v.1.from v.1.below
              ∙ ap₂ (λ (i j : ℕ). (rule (pair (s i) (s j))).s1) (sym v.1.lower) (sym v.1.upper);
          others = λ i f. p.others i
              (λ v k x y z.
              let w = from v k x y in
              f w.0 w.1.key w.1.from w.1.below (⊎_elim (λ e. inl (e ∙ sym w.1.lower)) (λ e. inr (e ∙ sym w.1.upper)) z));
        }
