-- Answers' numbers in a list, as far as it goes: none, one, and one run behind another. Past its end a list keeps what it has, so that to go on behind its last
-- place is to go on where there was no room. Assumes nothing.
use Prim.Native.Nat.{ℕ, suc, ◌+◌, ◌-◌, ◌≤◌, ◌<◌, min}
use native.Mathlib.Nat.{eq-zero-or-pos}
use native.Mathlib.Omega.{arith}
use mathlib.Core.List.{List, [], ◌∷◌, ◌++◌, map, map-append}
use mathlib.Core.Logic.{⊎_elim}
use mathlib.Core.Path.{◌≡◌, refl, sym, ap, ◌∙◌}
use lib.ListN.{length, set, length-append, length-map}
use lib.Seq.{sets, length-sets, set_out}
use Rattle.once.specs.Answered.{Answered}
use Rattle.stores.proofs.Stored.{store_then}
use Rattle.stores.specs.Stores.{store}
use Rattle.feeding.specs.Feeding.{numbered, Filled}

-- ---- past the end

sets_out : (l : List ℕ) (i : ℕ) (xs : List ℕ) → length l ≤ i → sets l i xs ≡ l
sets_out l i [] h = refl
sets_out l i (x ∷ xs) h = ap (λ (m : List ℕ). sets m (suc i) xs) (set_out l i x h) ∙ sets_out l (suc i) xs (omega arith)

at_most : (l : List ℕ) (i : ℕ) (xs : List ℕ) → store l (min i (length l)) xs ≡ store l i xs
unfolding store
at_most l i xs =
    ⊎_elim
    (λ within. let e : min i (length l) ≡ i = omega arith in ap (λ (k : ℕ). sets l k xs) e)
    (λ past. let e : length l ≤ min i (length l) = omega arith in sets_out l (min i (length l)) xs e ∙ sym (sets_out l i xs (omega arith)))
    (eq-zero-or-pos (i - length l))

-- ---- a place filled, or not

module _ (l : List ℕ) (at : ℕ) where
  pub filled_none : at ≤ length l → Filled l at [] at l
  unfolding store
  filled_none h = record { behind = omega arith; stored = refl }

  module _ (a : Answered) where
    pub filled_one : {x : ℕ} → at < length l → x ≡ numbered a → Filled l at (a ∷ []) (at + 1) (set l at x)
    unfolding store
    filled_one h e = record { behind = omega arith; stored = ap (set l at) e }

    pub filled_out : at ≤ length l → length l ≤ at → Filled l at (a ∷ []) at l
    unfolding store
    filled_out h past = record { behind = omega arith; stored = sym (set_out l at (numbered a) past) }

pub filled_length : {l l' : List ℕ} {at next : ℕ} {t : List Answered} → Filled l at t next l' → length l' ≡ length l
unfolding store
filled_length {l} {l'} {at} {next} {t} h = ap length h.stored ∙ length-sets l at (map numbered t)

pub filled_then : {l l₁ l₂ : List ℕ} {at m n : ℕ} {t u : List Answered} → Filled l at t m l₁ → Filled l₁ m u n l₂ → Filled l at (t ++ u) n l₂
filled_then {l} {l₁} {l₂} {at} {m} {n} {t} {u} p q =
    let same = filled_length p in
    let many : at + length (map numbered t) ≡ at + length t = ap (λ (k : ℕ). at + k) (length-map t numbered) in
    let from : m ≡ min (at + length t) (length l₁) = omega (arith, p.behind) in
    let on : l₂ ≡ store l₁ (at + length t) (map numbered u) =
    q.stored ∙ ap (λ (k : ℕ). store l₁ k (map numbered u)) from ∙ at_most l₁ (at + length t) (map numbered u) in
    record {
      behind = omega (arith, p.behind, q.behind, length-append t u);
      stored =
          store_then l l₁ l₂ at (at + length t) (map numbered t) (map numbered u) p.stored on (sym many)
          ∙ ap (store l at) (sym (map-append numbered t u));
    }
