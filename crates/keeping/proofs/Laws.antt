-- The words after a delivery are its session: where the count moved they were written, and else the session is as it was. Assumes nothing.
use Prim.Native.Nat.{ℕ, ◌%◌, ◌≤◌}
use mathlib.Core.Bool.{Bool, true, false, cond}
use mathlib.Core.List.{List, [], ◌∷◌}
use mathlib.Core.Path.{◌≡◌, refl, sym, subst}
use native.Mathlib.Omega.{arith}
use borrow.Author.Tests.{eqb-true}
use lib.Dec.{eqb}
use lib.ListN.{length, set}
use Rattle.book.proofs.ExactlyOnce.{Own}
use Rattle.book.specs.Sessions.{Session, fresh}
use Rattle.keeping.specs.Kept.{value_word, session_in, fresh_words, Keeps}

pub session_kept : {w w' : List ℕ} {s : Session} → Keeps w s.count s.value s.mark w' → Own (session_in w) s → session_in w' ≡ s
session_kept {w} {w'} {s} k own =
    subst (λ (x : List ℕ). session_in x ≡ s) (sym k.words) (by w (eqb (session_in w).count s.count) refl k.there own)
  where
    count : s.count % 65536 ≡ s.count
    count = omega (arith, k.small)

    by : (w : List ℕ) (t : Bool) → eqb (session_in w).count s.count ≡ t → 5 ≤ length w → Own (session_in w) s
        → session_in (cond t w (set (set (set w 2 s.count) 3 (value_word s.value)) 4 s.mark)) ≡ s
    by w true e h own = sym (own.unmoved (sym (eqb-true (session_in w).count s.count e)))
    by [] false e h own = absurd (omega arith)
    by (a ∷ []) false e h own = absurd (omega arith)
    by (a ∷ b ∷ []) false e h own = absurd (omega arith)
    by (a ∷ b ∷ c ∷ []) false e h own = absurd (omega arith)
    by (a ∷ b ∷ c ∷ d ∷ []) false e h own = absurd (omega arith)
    by (a ∷ b ∷ c ∷ d ∷ m ∷ rest) false e h own =
        λ i. record { n = sym own.n i; number = sym own.number i; count = count i; value = k.back i; mark = s.mark }

-- the words of a session that starts
pub fresh_kept : (n own : ℕ) → session_in (fresh_words n own) ≡ fresh n own
fresh_kept n own = refl
