-- What each return of `size` answers: its test applies, and those before it are passed. By the flags of the code, as for `seat` in seats. Assumes nothing.
use Prim.Native.Nat.{ℕ, ◌^◌, ◌<◌}
use mathlib.Core.Bool.{Bool, true, false}
use mathlib.Core.Path.{◌≡◌, sym, ◌∙◌}
use native.Mathlib.Omega.{arith}
use Rattle.std.specs.Prelude.{Ok, Err}
use Rattle.book.specs.Answers.{first, Buffers}
use Rattle.book.specs.Kernels.{bad_size, most_qubits, bad_length, size_tests}
use Rattle.book.specs.declared.Refusal.TheVariants.{Size, Length}
use Rattle.seats.proofs.Refusals.{small}
use Rattle.seated.proofs.Shifts.{shl, shl_is}
use Rattle.seated.specs.Judging.{Judges}

pub shift_fits : (n : ℕ) {out : Bool} → out ≡ bad_size most_qubits n → out ≡ false → n < 64
shift_fits n e h = omega (arith, small n e h)

module _ (n : ℕ) (b : Buffers) {out : Bool} (e1 : out ≡ bad_size most_qubits n) where
  pub size_out : out ≡ true → Judges (size_tests n b) (Err Size)
  unfolding first size_tests
  size_out h = record { is = rw (sym e1 ∙ h) }

  module _ (p1 : out ≡ false) {long : Bool} (e2 : long ≡ bad_length (shl n) b) where
    lengths : long ≡ bad_length (2 ^ n) b
    lengths = rw (shl_is n (small n e1 p1)) at e2

    pub size_long : long ≡ true → Judges (size_tests n b) (Err Length)
    unfolding first size_tests
    size_long h = record { is = rw (sym e1 ∙ p1, sym lengths ∙ h) }

    pub size_passed : long ≡ false → Judges (size_tests n b) (Ok tt)
    unfolding first size_tests
    size_passed h = record { is = rw (sym e1 ∙ p1, sym lengths ∙ h) }

-- whichever return it is
pub ruleset sizes = (size_out, size_long, size_passed)
