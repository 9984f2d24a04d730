-- Which gates the slow engine runs in place, and what it then does. Definitions only. Assumes nothing.
use Rattle.std.specs.Prelude.{ℕ, Bool, true, false, ◌&&◌, ◌≡◌, leb, length, Option, Some, None}
use Rattle.book.specs.Answers.{Answer, Buffers, Outcome, Call, Does}
use Rattle.book.specs.Kernels.{swap_call, bit_flip_call}
use Rattle.book.specs.declared.Gate.{Gate}
use Rattle.book.specs.declared.Gate.TheVariants.{H, X, Y, Z, P, Rx, Ry, Rz, U, Swap, Measure, BitFlip}
use Rattle.slow_rules.specs.declared.Rule.TheVariants as Rule
use Rattle.slow_act.specs.declared.Asked.{Asked}
use Rattle.slow_act.specs.declared.Asked.TheVariants.{Pairs, Swap as Exchange, Flip}
use Rattle.slow_pairs.specs.Rows.{rule_call}

-- a gate as the engine is asked for it: it has no call for measuring
abbrev pub asked_of : Gate → Option Asked
asked_of (H t c) = Some (Pairs t c Rule.H)
asked_of (X t c) = Some (Pairs t c Rule.X)
asked_of (Y t c) = Some (Pairs t c Rule.Y)
asked_of (Z t c) = Some (Pairs t c Rule.Z)
asked_of (P t c angle) = Some (Pairs t c (Rule.P angle))
asked_of (Rx t c angle) = Some (Pairs t c (Rule.Rx angle))
asked_of (Ry t c angle) = Some (Pairs t c (Rule.Ry angle))
asked_of (Rz t c angle) = Some (Pairs t c (Rule.Rz angle))
asked_of (U t c angles) = Some (Pairs t c (Rule.U angles))
asked_of (Swap t0 t1) = Some (Exchange t0 t1)
asked_of (Measure t forced) = None
asked_of (BitFlip t noise) = Some (Flip t noise)

abbrev pub can : Option Asked → Bool
can (Some asked) = true
can None = false

abbrev pub call_for : Asked → ℕ → Buffers → Call
call_for (Pairs t c rule) n b = rule_call rule n t c b
call_for (Exchange t0 t1) n b = swap_call n t0 t1 b
call_for (Flip t noise) n b = bit_flip_call n t noise b

-- the second state has 2048 places
abbrev pub has_room : Buffers → Bool
has_room b = leb (length b.reals) 2048 && leb (length b.imags) 2048

-- a gate that is run does what the outcome says; of another there is no answer, and nothing changes
abbrev pub RunsBy : Bool → Outcome → Buffers → Option Answer → Buffers → Type 0
RunsBy true o before r after = (a : Answer) × (r ≡ Some a) × Does o a after
RunsBy false o before r after = (r ≡ None) × (after ≡ before)

pub record Runs (can : Bool) (o : Outcome) (before : Buffers) (r : Option Answer) (after : Buffers) : Type 0 where
  pub is : RunsBy can o before r after
