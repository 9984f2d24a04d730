-- A record that is taken has no NaN, which 6 refuses: so the bytes that it was read from are those that it is written as. Assumes nothing.
use Prim.Native.Nat.{ℕ, zero, suc}
use mathlib.Core.Bool.{true}
use mathlib.Core.List.{List, [], ◌∷◌, ◌++◌}
use mathlib.Core.Path.{◌≡◌, refl}
use native.Mathlib.Omega.{arith}
use borrow.Author.Tests.{not-false}
use lib.Dec.{T, leb}
use lib.Ieee.{Float, nan, inf, fin, is_nan}
use lib.Ieee.Fits.{and_l, and_r}
use lib.Ieee.Scale.{finite}
use Rattle.book.proofs.Refusals.{clear, clear_start, sizes_numbered}
use Rattle.book.specs.Answers.{◌⇒◌, first, Buffers, Call, unless, accepts}
use Rattle.book.specs.Calls.{call_of}
use Rattle.book.specs.Gates.{angle_of, angles_of, noise_of, all_finite, finite_tests}
use Rattle.book.specs.Kernels.{size_tests, seat_tests}
use Rattle.book.specs.Records.{parts_of}
use Rattle.book.specs.declared.Controls.{Controls}
use Rattle.book.specs.declared.Gate.{Gate}
use Rattle.book.specs.declared.Gate.TheVariants.{H, X, Y, Z, P, Rx, Ry, Rz, U, Swap, Measure, BitFlip}
use Rattle.wire.specs.Bytes.{Each, NotNan}
use Rattle.records.specs.RoundTrips.{floats_of, TakenWritesBack}
use Rattle.records.proofs.BackAndThere.{writes_back}

-- ---- finite numbers

not_nan : (x : Float) → T (finite x) → NotNan x
unfolding is_nan
not_nan (fin s m e) h = tt
not_nan (inf s) h = tt
not_nan nan h = absurd h

none_nan : (xs : List Float) → T (all_finite xs) → Each NotNan xs
none_nan [] h = tt
none_nan (x ∷ xs) h = (not_nan x (and_l (finite x) (all_finite xs) h), none_nan xs (and_r (finite x) (all_finite xs) h))

-- where 6 does not apply
passed : (xs : List Float) → first (finite_tests xs) ≡ 0 → Each NotNan xs
passed xs e = let none = not-false (all_finite xs) (clear (finite_tests xs) tt e).0 in none_nan xs (rw none tt)

-- ---- a gate's own tests

behind_seat : (most n t : ℕ) (c : Controls) (xs : List Float) → first (seat_tests most n t c ++ finite_tests xs) ≡ 0 → Each NotNan xs
unfolding seat_tests
behind_seat most n t c xs e = passed xs (clear_start (seat_tests most n t c) (finite_tests xs) tt e).1

own_passed : (n : ℕ) (g : Gate) (b : Buffers) → first (call_of n g b).tests ≡ 0 → Each NotNan (floats_of (parts_of g).shape)
own_passed n (H t c) b e = tt
own_passed n (X t c) b e = tt
own_passed n (Y t c) b e = tt
own_passed n (Z t c) b e = tt
own_passed n (P t c a) b e = behind_seat _ n t c (angle_of a) e
own_passed n (Rx t c a) b e = behind_seat _ n t c (angle_of a) e
own_passed n (Ry t c a) b e = behind_seat _ n t c (angle_of a) e
own_passed n (Rz t c a) b e = behind_seat _ n t c (angle_of a) e
own_passed n (U t c g) b e = behind_seat _ n t c (angles_of g) e
own_passed n (Swap t u) b e = tt
own_passed n (Measure t f) b e = tt
own_passed n (BitFlip t a) b e = passed (noise_of a) (clear_start (leb n t ⇒ 3 ∷ []) (finite_tests (noise_of a)) tt e).1

-- ---- the record

accepted_none : (k : ℕ) (b : Buffers) (c : Call) → accepts (unless k b c).says ≡ true → k ≡ 0
accepted_none zero b c e = refl
accepted_none (suc k) b c e = absurd (let z : ◌≡◌ {A = ℕ} 0 1 = cc e in omega arith)

pub taken_writes_back : TakenWritesBack
taken_writes_back n b bs r h e a =
    let c = call_of n r.gate b in
    let none = accepted_none (first (size_tests n b ++ c.tests)) b c a in
    writes_back bs r h e (own_passed n r.gate b (clear_start (size_tests n b) c.tests (sizes_numbered n b) none).1)
