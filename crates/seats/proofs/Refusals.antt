-- What each return of `seat` answers: its test applies, and those before it are passed. A test is read off the code as a flag `x` with `x ≡ test` and its
-- outcome, so that a return cites nothing but what holds there. Assumes nothing.
use Prim.Native.Nat.{ℕ, ◌%◌, ◌^◌, ◌≤◌, ◌<◌}
use mathlib.Core.Bool.{Bool, true, false, ◌||◌}
use mathlib.Core.List.{◌++◌}
use mathlib.Core.Path.{◌≡◌, sym, ◌∙◌}
use native.Mathlib.Nat.{mod-eq_of_lt}
use native.Mathlib.Omega.{arith}
use borrow.Author.Tests.{lt-ltb, le-ltb, eq-eqb, ne_eqb, ltb-false, leb-false}
use lib.Dec.{leb, ltb}
use Rattle.std.specs.Prelude.{Ok, Err}
use Rattle.book.proofs.Refusals.{neither}
use Rattle.book.specs.Answers.{first, Buffers}
use Rattle.book.specs.Kernels.{bad_size, most_qubits, bad_length, size_tests, outside, clash, count, seat_tests}
use Rattle.book.specs.State.{bit}
use Rattle.book.specs.declared.Controls.{Controls}
use Rattle.book.specs.declared.Refusal.TheVariants.{Size, Length, Qubit, Same, Form}
use Rattle.seated.proofs.Shifts.{shl, shl_is}
use Rattle.seated.specs.Judging.{Ruling, Judges}

-- test 1 passed: n is at most 24
pub small : (n : ℕ) {out : Bool} → out ≡ bad_size most_qubits n → out ≡ false → n ≤ 24
small n e h = ltb-false 24 n (neither (ltb n 1) (ltb 24 n) (sym e ∙ h)).1

-- n as the code's shifts take it
below : (n k : ℕ) → n ≤ 24 → 24 < k → n % k ≡ n
below n k h l = mod-eq_of_lt (let m : n < k = omega arith in m)

-- ---- 1 to 5
module _ (most n t : ℕ) (c : Controls) (b : Buffers) where
  abbrev Seat : Ruling → Type 0
  Seat r = Judges (size_tests n b ++ seat_tests most n t c) r

  module _ {out : Bool} (e1 : out ≡ bad_size most_qubits n) where
    pub seat_out : out ≡ true → Seat (Err Size)
    unfolding first size_tests
    seat_out h = record { is = rw (sym e1 ∙ h) }

    module _ (p1 : out ≡ false) {long : Bool} (e2 : long ≡ bad_length (shl (n % 64)) b) where
      t2 : long ≡ bad_length (2 ^ n) b
      t2 = rw (below n 64 (small n e1 p1) (let m : 24 < 64 = omega arith in m), shl_is n (small n e1 p1)) at e2

      pub seat_long : long ≡ true → Seat (Err Length)
      unfolding first size_tests
      seat_long h = record { is = rw (sym e1 ∙ p1, sym t2 ∙ h) }

      module _ (p2 : long ≡ false) {far : Bool} (e3 : far ≡ (leb n t || leb (2 ^ (n % 32)) c.ones)) where
        t3 : far ≡ (leb n t || outside n c)
        t3 = rw (below n 32 (small n e1 p1) (let m : 24 < 32 = omega arith in m)) at e3

        pub seat_far : far ≡ true → Seat (Err Qubit)
        unfolding first size_tests seat_tests
        seat_far h = record { is = rw (sym e1 ∙ p1, sym t2 ∙ p2, sym t3 ∙ h) }

        module _ (p3 : far ≡ false) where
          target_is : t % 32 ≡ t
          target_is = mod-eq_of_lt (let m : t < 32 = omega (arith, small n e1 p1, leb-false n t (neither (leb n t) (outside n c) (sym t3 ∙ p3)).0) in m)

          pub seat_same : bit (t % 32) c.ones ≡ 1 → Seat (Err Same)
          unfolding first size_tests seat_tests
          seat_same h =
              let clashes : clash t c ≡ true = eq-eqb _ 1 (rw target_is at h) in
              record { is = rw (sym e1 ∙ p1, sym t2 ∙ p2, sym t3 ∙ p3, clashes) }

          module _ (other : bit (t % 32) c.ones ≡ 1 → ⊥) where
            t4 : clash t c ≡ false
            t4 = ne_eqb _ 1 (rw target_is at other)

            pub seat_form : most < count c → Seat (Err Form)
            unfolding first size_tests seat_tests
            seat_form h = record { is = rw (sym e1 ∙ p1, sym t2 ∙ p2, sym t3 ∙ p3, t4, lt-ltb most (count c) h) }

            pub seat_passed : count c ≤ most → Seat (Ok tt)
            unfolding first size_tests seat_tests
            seat_passed h = record { is = rw (sym e1 ∙ p1, sym t2 ∙ p2, sym t3 ∙ p3, t4, le-ltb most (count c) h) }

-- whichever return it is
pub ruleset seats = (seat_out, seat_long, seat_far, seat_same, seat_form, seat_passed)
