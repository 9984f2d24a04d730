-- Words put one behind the other as far as a buffer goes: behind its end nothing is stored, so where the first words end there, the next ones may as well
-- be stored where they would stand in a longer buffer. A loop is followed by what is left to put. Assumes nothing.
use Prim.Native.Nat.{ℕ, suc, ◌+◌, ◌-◌, ◌≤◌, ◌<◌, min}
use native.Mathlib.Nat.{eq-zero-or-pos}
use native.Mathlib.Omega.{arith}
use mathlib.Core.List.{List, [], ◌∷◌, ◌++◌}
use mathlib.Core.Logic.{⊎_elim}
use mathlib.Core.Path.{◌≡◌, refl, sym, ap, ◌∙◌}
use lib.ListN.{length, take, drop, length-append, take-append-drop}
use lib.Seq.{sets, length-sets, set_out, take_at, take_all, length-take-le}
use Rattle.stores.proofs.Stored.{store_then}
use Rattle.stores.specs.Stores.{store, Stored}
use Rattle.words.specs.Words.{Line}
use Rattle.puts.specs.Put.{Put}

-- ---- one behind the other

pub store_out : (l : List ℕ) (at : ℕ) (ws : List ℕ) → length l ≤ at → store l at ws ≡ l
unfolding store
store_out l at [] h = refl
store_out l at (w ∷ ws) h = ap (λ (m : List ℕ). sets m (suc at) ws) (set_out l at w h) ∙ store_out l (suc at) ws (omega arith)

-- no buffer grows
pub put_length : {ws l l₁ : List ℕ} {at next : ℕ} → Put ws l at next l₁ → length l₁ ≡ length l
unfolding store
put_length {ws} {l} {at = at} p = ap length p.stored ∙ length-sets l at ws

pub put_within : {ws l l₁ : List ℕ} {at next : ℕ} → Put ws l at next l₁ → next ≤ length l₁
put_within p = omega (arith, p.behind, put_length p)

-- stored from a place on, or from the buffer's end where that comes first: there nothing is stored either way
from_end : (l ws : List ℕ) (at n : ℕ) → n ≡ min at (length l) → store l n ws ≡ store l at ws
from_end l ws at n e =
    ⊎_elim
    (λ (within : at - length l ≡ 0). let same : n ≡ at = omega arith in ap (λ (k : ℕ). store l k ws) same)
    (λ (past : 0 < at - length l). store_out l n ws (omega arith) ∙ sym (store_out l at ws (omega arith)))
    (eq-zero-or-pos (at - length l))

pub put_then : {xs ys l l₁ l₂ : List ℕ} {at at₁ at₂ : ℕ} → Put xs l at at₁ l₁ → Put ys l₁ at₁ at₂ l₂ → Put (xs ++ ys) l at at₂ l₂
put_then {xs} {ys} {l} {l₁} {l₂} {at} {at₁} {at₂} p q =
    let same : length l₁ ≡ length l = put_length p in
    record {
      behind = omega (arith, p.behind, q.behind, length-append xs ys);
      stored =
          store_then l l₁ l₂ at (at + length xs) xs ys p.stored
          (q.stored ∙ from_end l₁ ys (at + length xs) at₁ (p.behind ∙ ap (min (at + length xs)) (sym same)))
          refl;
    }

pub put_none : (l : List ℕ) (at : ℕ) → at ≤ length l → Put [] l at at l
unfolding store
put_none l at h = record { behind = omega arith; stored = refl }

-- as many as find room are put
pub put_part : (ws l : List ℕ) (at n : ℕ) {l₁ : List ℕ} {next : ℕ} → at ≤ length l → n ≡ min (length ws) (length l - at)
    → Stored (take n ws) l at next l₁ → Put ws l at next l₁
put_part ws l at n {l₁} {next} h e p =
    ⊎_elim
    (λ (all : length ws - (length l - at) ≡ 0).
    let whole = take_all n ws (omega arith) in
    let stored = rw whole at p in
    record { behind = omega (arith, stored.behind); stored = stored.stored })
    (λ (some : 0 < length ws - (length l - at)).
    let size = length-take-le n ws (omega arith) in
    let first : Put (take n ws) l at next l₁ = record { behind = omega (arith, p.behind); stored = p.stored } in
    let same = put_length first in
    let rest : Put (drop n ws) l₁ next next l₁ =
    record { behind = omega (arith, p.behind); stored = sym (store_out l₁ next (drop n ws) (omega (arith, p.behind))) } in
    let both = put_then first rest in
    rw take-append-drop at both)
    (eq-zero-or-pos (length ws - (length l - at)))

-- ---- a line, lent as far as it goes

pub put_line : {line held made l l₁ : List ℕ} {n at next : ℕ} → Line line held n made → Put (take n made) l at next l₁ → Put line l at next l₁
put_line {line} {held} {made} {n = n} a p =
    rw (ap (take n) a.holds ∙ take_at line (drop (length line) held) n (sym a.many)) at p

-- ---- a loop: what is left, put, gives the whole

abbrev pub Left : (whole l₀ : List ℕ) (at₀ : ℕ) (left l : List ℕ) (at : ℕ) → Type 0
Left whole l₀ at₀ left l at = (next : ℕ) (l₁ : List ℕ) → Put left l at next l₁ → Put whole l₀ at₀ next l₁

module _ {whole l₀ : List ℕ} {at₀ : ℕ} where
  pub left_step : {xs ys left l l₁ : List ℕ} {at next : ℕ} → left ≡ xs ++ ys → Left whole l₀ at₀ left l at → Put xs l at next l₁
      → Left whole l₀ at₀ ys l₁ next
  left_step e whole_of p next l₂ q = whole_of next l₂ (rw e (put_then p q))

  pub left_none : {left l : List ℕ} {at : ℕ} → left ≡ [] → at ≤ length l → Left whole l₀ at₀ left l at → Put whole l₀ at₀ at l
  left_none {l = l} {at} e h whole_of = whole_of at l (rw e (put_none l at h))
