-- The tests that every matrix call begins with, 1 and then 2: what each refuses, and what is known once both are passed. Assumes nothing.
use Prim.Native.Nat.{ℕ, ◌≤◌}
use mathlib.Core.Bool.{Bool, true, false, cond, ◌||◌}
use mathlib.Core.List.{List, [], ◌∷◌}
use mathlib.Core.Path.{◌≡◌, refl, sym, ap, ◌∙◌}
use native.Mathlib.Nat.{le_of_eq}
use borrow.Author.Tests.{ltb-false}
use lib.Dec.{ltb}
use lib.Pow.{pow_mono, pow_pos}
use Rattle.std.specs.Prelude.{Ok, Err}
use Rattle.book.proofs.Refusals.{clear, neither, right_lengths}
use Rattle.book.specs.Answers.{Test, ◌⇒◌, first, Buffers}
use Rattle.book.specs.Kernels.{bad_size, bad_length}
use Rattle.book.specs.Matrices.{most_matrix}
use Rattle.book.specs.declared.Refusal.{Refusal}
use Rattle.matrices.specs.Filled.{Holds}
use Rattle.matrices.specs.Sided.{Sided}
use Rattle.seated.proofs.Judged.{passed, judged_behind, judged_stays}
use Rattle.seated.specs.Judging.{Ruling, ruled, Judges}

-- test 1 passed: n is at most 6, so 2^n is a side
pub most_is : (n : ℕ) → bad_size most_matrix n ≡ false → n ≤ 6
most_is n ok = ltb-false most_matrix n (neither (ltb n 1) (ltb most_matrix n) ok).1

module _ (n : ℕ) {side : ℕ} (s : Sided n (Ok side)) where
  pub side_le : side ≤ 64
  side_le = rw s.1 (pow_mono (most_is n s.0))

  pub side_some : 1 ≤ side
  side_some = rw s.1 (pow_pos n)

-- ---- 1, and then the rest

module _ (n : ℕ) (rest : List Test) where
  pub size_refused : {r : Refusal} → Sided n (Err r) → Judges (bad_size most_matrix n ⇒ 1 ∷ rest) (Err r)
  unfolding first
  size_refused s = rw s.1 (record { is = rw s.0 })

  pub size_passed : {side : ℕ} {r : Ruling} → Sided n (Ok side) → Judges rest r → Judges (bad_size most_matrix n ⇒ 1 ∷ rest) r
  unfolding first
  size_passed s j = record { is = j.is ∙ (rw s.0) }

-- ---- 2

pub not_long : {long : Bool} {u : Unit} → Judges (long ⇒ 2 ∷ []) (Ok u) → long ≡ false
not_long {long} j = (clear (long ⇒ 2 ∷ []) tt (passed j)).0

pub long_flag : {long : Bool} (x : Bool) {r : Ruling} → long ≡ x → ruled r ≡ cond long 2 0 → Judges (x ⇒ 2 ∷ []) r
unfolding first
long_flag x e is = record { is = is ∙ ap (λ (y : Bool). cond y 2 0) e }

-- one pair of buffers, and then another
module _ (x y : Bool) where
  as_one : first (x ⇒ 2 ∷ y ⇒ 2 ∷ []) ≡ first ((x || y) ⇒ 2 ∷ [])
  unfolding first
  as_one = by x
    where
      by : (x : Bool) → first (x ⇒ 2 ∷ y ⇒ 2 ∷ []) ≡ first ((x || y) ⇒ 2 ∷ [])
      by true = refl
      by false = refl

  pub first_long : {r : Refusal} → Judges (x ⇒ 2 ∷ []) (Err r) → Judges ((x || y) ⇒ 2 ∷ []) (Err r)
  first_long j = record { is = (judged_stays (x ⇒ 2 ∷ []) (y ⇒ 2 ∷ []) tt j).is ∙ as_one }

  pub then_next : {u : Unit} {r : Ruling} → Judges (x ⇒ 2 ∷ []) (Ok u) → Judges (y ⇒ 2 ∷ []) r → Judges ((x || y) ⇒ 2 ∷ []) r
  then_next j k = record { is = (judged_behind (x ⇒ 2 ∷ []) (y ⇒ 2 ∷ []) tt j k).is ∙ as_one }

-- buffers of a length hold as many places
pub held_places : (size : ℕ) (b : Buffers) → bad_length size b ≡ false → Holds size b
held_places size b e = let (r, i) = right_lengths size b e in record { reals = le_of_eq (sym r); imags = le_of_eq (sym i) }
