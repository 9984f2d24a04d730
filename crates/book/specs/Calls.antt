-- The twelve gates as calls on a state of n qubits: rule, most controls, own tests. Definitions only. Assumes nothing.
use Rattle.std.specs.Prelude.{ℕ, []}
use Rattle.book.specs.Answers.{Buffers, Outcome, Call, outcome_of}
use Rattle.book.specs.Gates.{x_rule, y_rule, z_rule, h_rule, p_rule, rx_rule, ry_rule, rz_rule, u_matrix, u_rule, angle_of, angles_of, finite_tests}
use Rattle.book.specs.Kernels.{size_tests, pair_call, swap_call, bit_flip_call}
use Rattle.book.specs.Measuring.{measure_call}
use Rattle.book.specs.declared.Gate.{Gate}
use Rattle.book.specs.declared.Gate.TheVariants.{H, X, Y, Z, P, Rx, Ry, Rz, U, Swap, Measure, BitFlip}

-- a mask has 32 bits
abbrev pub any : ℕ
any = 32

abbrev pub call_of : ℕ → Gate → Buffers → Call
call_of n (H t c) b = pair_call h_rule 1 [] n t c b
call_of n (X t c) b = pair_call x_rule any [] n t c b
call_of n (Y t c) b = pair_call y_rule 1 [] n t c b
call_of n (Z t c) b = pair_call z_rule 0 [] n t c b
call_of n (P t c angle) b = pair_call (p_rule angle) any (finite_tests (angle_of angle)) n t c b
call_of n (Rx t c angle) b = pair_call (rx_rule angle) any (finite_tests (angle_of angle)) n t c b
call_of n (Ry t c angle) b = pair_call (ry_rule angle) any (finite_tests (angle_of angle)) n t c b
call_of n (Rz t c angle) b = pair_call (rz_rule angle) 1 (finite_tests (angle_of angle)) n t c b
call_of n (U t c angles) b = pair_call (u_rule (u_matrix angles)) 1 (finite_tests (angles_of angles)) n t c b
call_of n (Swap t0 t1) b = swap_call n t0 t1 b
call_of n (Measure t forced) b = measure_call n t forced b
call_of n (BitFlip t noise) b = bit_flip_call n t noise b

-- what a gate does: 1 and 2, and then its own
abbrev pub act : ℕ → Gate → Buffers → Outcome
act n g b = outcome_of (size_tests n b) b (call_of n g b)
