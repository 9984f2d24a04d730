-- A list copied over another of its length, place by place. Assumes nothing.
use Prim.Native.Nat.{ℕ, ◌+◌, ◌≤◌, ◌<◌}
use mathlib.Core.List.{List}
use mathlib.Core.Path.{◌≡◌, ◌∙◌, subst}
use native.Mathlib.Decide.{dec_lt}
use native.Mathlib.Omega.{arith}
use lib.Ieee.{Float, nan}
use lib.ListN.{length, get_or, set, length-set}
use lib.Seq.{get_or-set_same, get_or-set_other, ext_get_or}

-- the places before i are copied
pub record Copied (from to₀ to : List Float) (i : ℕ) : Type 0 where
  pub most : i ≤ length to₀
  pub size : length to ≡ length to₀
  pub same : (j : ℕ) → j < i → get_or to j nan ≡ get_or from j nan

pub one_more : {from to₀ to : List Float} {i : ℕ} → i < length to → Copied from to₀ to i → Copied from to₀ (set to i (get_or from i nan)) (i + 1)
one_more {from} {to₀} {to} {i} l c =
    record { most = omega (arith, c.size); size = length-set to i (get_or from i nan) ∙ c.size; same = λ j k. by j k (dec_lt j i) }
  where
    by : (j : ℕ) → j < i + 1 → Dec (j < i) → get_or (set to i (get_or from i nan)) j nan ≡ get_or from j nan
    by j k (yes a) = get_or-set_other to i j (get_or from i nan) nan (λ e. omega arith) ∙ c.same j a
    by j k (no a) =
        let e : i ≡ j = omega arith in
        subst (λ (x : ℕ). get_or (set to i (get_or from i nan)) x nan ≡ get_or from x nan) e (get_or-set_same to i (get_or from i nan) nan l)

pub all_copied : {from to₀ to : List Float} {i : ℕ} → length from ≡ length to₀ → length to ≤ i → Copied from to₀ to i → to ≡ from
all_copied {from} {to₀} {to} e l c = ext_get_or nan to from (omega (arith, c.size)) (λ j k. c.same j (omega arith))
