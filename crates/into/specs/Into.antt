-- A gate from input buffers into separate output buffers: the kernel's own call, and that the two engines agree. Definitions only. Assumes nothing.
use Rattle.std.specs.Prelude.{ℕ, ◌^◌, false, cond, ◌||◌, List, [], ◌∷◌, ◌≡◌}
use Rattle.book.specs.Answers.{Answer, says, Test, ◌⇒◌, Buffers, Outcome, outcome_of, accepts, Does}
use Rattle.book.specs.Calls.{call_of, act}
use Rattle.book.specs.Kernels.{bad_size, bad_length, most_qubits}
use Rattle.book.specs.declared.Gate.{Gate}

-- 1, and 2, which looks at the outputs' lengths with the inputs'
unfoldable pub into_tests : ℕ → Buffers → Buffers → List Test
into_tests n b out = bad_size most_qubits n ⇒ 1 ∷ (bad_length (2 ^ n) b || bad_length (2 ^ n) out) ⇒ 2 ∷ []

-- what a gate does to the outputs
abbrev pub into : ℕ → Gate → Buffers → Buffers → Outcome
into n g b out = outcome_of (into_tests n b out) out (call_of n g b)

-- Engine against engine, for every gate and all inputs: a kernel's answer and what it leaves, and the slow engine's, into outputs that have their length.
-- One answer; and the outputs are what the kernel leaves, or, where that is a refusal, what they were.
abbrev pub EnginesAgree : Type 0
EnginesAgree =
    (n : ℕ) (g : Gate) (b out b' out' : Buffers) (kernel slow : Answer) → bad_length (2 ^ n) out ≡ false
    → Does (act n g b) kernel b' → Does (into n g b out) slow out' → (slow ≡ kernel) × (out' ≡ cond (accepts (says kernel)) b' out)
