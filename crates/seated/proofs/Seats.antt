-- What holds of a call that was let pass, from the tests that did not apply; and a seat without controls. Assumes nothing.
use Prim.Native.Nat.{ℕ, ◌/◌, ◌^◌, ◌≤◌, ◌<◌}
use mathlib.Core.Bool.{Bool, true, false, cond, ◌||◌}
use mathlib.Core.List.{List, [], ◌++◌}
use mathlib.Core.Path.{◌≡◌, refl, ap, ◌∙◌}
use native.Mathlib.Nat.{mod-lt, zero-div, zero-lt-suc}
use native.Mathlib.Decide.{dec_lt}
use native.Mathlib.Omega.{arith}
use borrow.Author.Tests.{ltb-false, leb-false, eqb-false, le-ltb, le-leb, lt-leb, ne_eqb}
use lib.Count.{ones, ones-le}
use lib.Dec.{eqb, leb, ltb}
use lib.Pow.{pow_pos}
use Rattle.book.proofs.Refusals.{clear_start, neither, right_lengths}
use Rattle.book.specs.Answers.{first, Test, Buffers}
use Rattle.book.specs.Kernels.{bad_size, most_qubits, bad_length, size_tests, outside, clash, count, seat_tests}
use Rattle.book.specs.State.{bit, uncontrolled}
use Rattle.book.specs.declared.Controls.{Controls}
use Rattle.seated.specs.Judging.{Ruling, Judges, Seated, free_tests}

zero_bit : (t m : ℕ) → eqb (bit t m) 1 ≡ false → bit t m ≡ 0
zero_bit t m h = omega (arith, mod-lt (m / 2 ^ t) (zero-lt-suc 1), eqb-false (bit t m) 1 h)

-- a gate's own tests stand behind its seat's
pub seated : (most n t : ℕ) (c : Controls) (b : Buffers) (own : List Test) → first (size_tests n b ++ (seat_tests most n t c ++ own)) ≡ 0 → Seated n t c b
unfolding size_tests seat_tests
seated most n t c b own e =
    let ((size, (long, _)), behind) = clear_start (size_tests n b) _ tt e in
    let ((qubits, (other, _)), _) = clear_start (seat_tests most n t c) own tt behind in
    let range = neither (ltb n 1) (ltb 24 n) size in
    let lengths = right_lengths (2 ^ n) b long in
    let inside = neither (leb n t) (outside n c) qubits in
    record {
      some = ltb-false n 1 range.0;
      fits = ltb-false 24 n range.1;
      reals = lengths.0;
      imags = lengths.1;
      qubit = leb-false n t inside.0;
      inside = leb-false (2 ^ n) c.ones inside.1;
      free = zero_bit t c.ones other;
    }

-- ---- without controls tests 3, 4 and 5 look at the target alone

module _ (n t : ℕ) where
  none_inside : outside n uncontrolled ≡ false
  none_inside = lt-leb (2 ^ n) 0 (pow_pos n)

  none_clash : clash t uncontrolled ≡ false
  none_clash = ne_eqb (bit t 0) 1 (λ e. omega (arith, zero-div (2 ^ t)))

  none_few : (most : ℕ) → ltb most (count uncontrolled) ≡ false
  none_few most = le-ltb most (ones 0) (omega (arith, ones-le 0 0 (let h : 0 < 2 ^ 0 = omega arith in h)))

or_no : (b : Bool) → (b || false) ≡ b
or_no true = refl
or_no false = refl

free_tests_lem : (most n t : ℕ) (us : List Test) → first (seat_tests most n t uncontrolled ++ us) ≡ first (free_tests n t ++ us)
unfolding first seat_tests
free_tests_lem most n t us = rw (none_inside n t, none_clash n t, none_few n t most, or_no (leb n t))

pub free : (most n t : ℕ) (b : Buffers) (us : List Test)
    → first (size_tests n b ++ (seat_tests most n t uncontrolled ++ us)) ≡ first (size_tests n b ++ (free_tests n t ++ us))
unfolding first size_tests
free most n t b us =
    ap (λ (k : ℕ). cond (bad_size most_qubits n) 1 (cond (bad_length (2 ^ n) b) 2 k)) (free_tests_lem most n t us)

pub free_judged : (most n t : ℕ) (b : Buffers) {r : Ruling} → Judges (size_tests n b ++ seat_tests most n t uncontrolled) r
    → Judges (size_tests n b ++ free_tests n t) r
unfolding seat_tests
free_judged most n t b j = record { is = j.is ∙ free most n t b [] }

-- and what holds of such a call
pub free_seated : (n t : ℕ) (b : Buffers) (own : List Test) → first (size_tests n b ++ (free_tests n t ++ own)) ≡ 0 → Seated n t uncontrolled b
free_seated n t b own e = seated 0 n t uncontrolled b own (free 0 n t b own ∙ e)

-- the higher of two qubits is n or more if one of them is
pub higher : (n t u : ℕ) → t ≤ u → leb n u ≡ (leb n t || leb n u)
higher n t u l =
    elim (dec_lt t n) [
      | yes h ↦ rw (lt-leb n t h)
      | no h ↦ rw (le-leb n t (let x : n ≤ t = omega arith in x), le-leb n u (let y : n ≤ u = omega arith in y))
    ]
