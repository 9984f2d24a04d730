-- What it means that no test applied: each of them is false. By the list of the tests. And test 1 from n. Assumes nothing.
use Prim.Native.Nat.{ℕ, zero, suc, ◌^◌, ◌≤◌, ◌<◌}
use mathlib.Core.Bool.{Bool, true, false, cond, not, ◌&&◌, ◌||◌}
use mathlib.Core.List.{List, [], ◌∷◌, ◌++◌}
use mathlib.Core.Path.{◌≡◌, refl, sym, ◌∙◌}
use native.Mathlib.Omega.{arith}
use borrow.Author.Tests.{eqb-true, lt-ltb, le-ltb, not-false}
use lib.Dec.{T, eqb, ltb, ltb→lt}
use lib.Ieee.Fits.{and_l, and_r}
use lib.ListN.{length}
use Rattle.book.specs.Answers.{Test, first, Buffers}
use Rattle.book.specs.Kernels.{bad_size, most_qubits, bad_length, size_tests}

-- no test applies
abbrev pub Clear : List Test → Type 0
Clear [] = Unit
Clear (t ∷ ts) = (t.applies ≡ false) × Clear ts

-- 0 is no refusal's number
abbrev pub numbered : List Test → Bool
numbered [] = true
numbered (t ∷ ts) = ltb 0 t.number && numbered ts

pub clear : (ts : List Test) → T (numbered ts) → first ts ≡ 0 → Clear ts
unfolding first
clear [] w e = tt
clear (t ∷ ts) w e = by t.applies refl e (clear ts (and_r (ltb 0 t.number) (numbered ts) w))
  where
    by : (x : Bool) → t.applies ≡ x → cond x t.number (first ts) ≡ 0 → (first ts ≡ 0 → Clear ts) → Clear (t ∷ ts)
    by true f z rest = absurd (omega (arith, ltb→lt 0 t.number (and_l (ltb 0 t.number) (numbered ts) w)))
    by false f z rest = (f, rest z)

-- ---- one list of tests behind another

-- where none of the first applies, those behind decide
pub first_clear : (ts us : List Test) → T (numbered ts) → first ts ≡ 0 → first (ts ++ us) ≡ first us
unfolding first
first_clear [] us w e = refl
first_clear (t ∷ ts) us w e =
    let passed = (clear (t ∷ ts) w e).0 in
    rw passed (first_clear ts us (and_r (ltb 0 t.number) (numbered ts) w) (rw passed at e))

-- and where one applies, it stays the first
either : (x : Bool) (m k j l : ℕ) → cond x m j ≡ suc k → (j ≡ suc k → l ≡ suc k) → cond x m l ≡ suc k
either true m k j l e f = e
either false m k j l e f = f e

pub first_stays : (ts us : List Test) {k : ℕ} → first ts ≡ suc k → first (ts ++ us) ≡ suc k
unfolding first
first_stays [] us e = absurd (omega arith)
first_stays (t ∷ ts) us {k} e = either t.applies t.number k (first ts) (first (ts ++ us)) e (first_stays ts us)

-- where none of all applies, none of the first does, and none of those behind
pub clear_start : (ts us : List Test) → T (numbered ts) → first (ts ++ us) ≡ 0 → Clear ts × (first us ≡ 0)
clear_start ts us w e = by (first ts) refl
  where
    by : (k : ℕ) → first ts ≡ k → Clear ts × (first us ≡ 0)
    by zero h = (clear ts w h, sym (first_clear ts us w h) ∙ e)
    by (suc k) h = absurd (omega (arith, first_stays ts us h))

pub neither : (x y : Bool) → (x || y) ≡ false → (x ≡ false) × (y ≡ false)
neither true true e = (e, e)
neither true false e = let z : ◌≡◌ {A = ℕ} 0 1 = cc e in absurd (omega arith)
neither false y e = (refl, e)

-- both buffers have the length
pub right_lengths : (size : ℕ) (b : Buffers) → bad_length size b ≡ false → (length b.reals ≡ size) × (length b.imags ≡ size)
right_lengths size b e =
    let (x, y) = neither (not (eqb (length b.reals) size)) (not (eqb (length b.imags) size)) e in
    (eqb-true _ _ (not-false _ x), eqb-true _ _ (not-false _ y))

-- ---- test 1 from n

pub too_small : (most n : ℕ) → n < 1 → bad_size most n ≡ true
too_small most n l = rw (lt-ltb n 1 l)

pub too_large : (most n : ℕ) → 1 ≤ n → most < n → bad_size most n ≡ true
too_large most n l m = rw (le-ltb n 1 l, lt-ltb most n m)

pub right_size : (most n : ℕ) → 1 ≤ n → n ≤ most → bad_size most n ≡ false
right_size most n l m = rw (le-ltb n 1 l, le-ltb most n m)

-- ---- tests 1 and 2 of a kernel

pub sizes_numbered : (n : ℕ) (b : Buffers) → T (numbered (size_tests n b))
unfolding size_tests
sizes_numbered n b = tt

-- they look at the buffers' lengths alone
pub sizes_right : (n : ℕ) (b : Buffers) → bad_size most_qubits n ≡ false → bad_length (2 ^ n) b ≡ false → first (size_tests n b) ≡ 0
unfolding first size_tests
sizes_right n b e f = rw (e, f)

pub same_sizes : (n : ℕ) (b b' : Buffers) → bad_length (2 ^ n) b ≡ bad_length (2 ^ n) b' → size_tests n b ≡ size_tests n b'
unfolding size_tests
same_sizes n b b' e = rw e
