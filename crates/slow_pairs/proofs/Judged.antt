-- A gate that has a rule, judged: what each test refuses, what the engine asks, and what its closure worked out. Assumes nothing.
use Prim.Native.Nat.{ℕ, ◌^◌, ◌<◌}
use mathlib.Core.List.{[], ◌++◌}
use mathlib.Core.Path.{◌≡◌, refl, ◌∙◌}
use lib.Dec.{T}
use Rattle.std.specs.Prelude.{None, Ok, Err}
use Rattle.book.proofs.Refusals.{numbered}
use Rattle.book.proofs.Tables.{held_only}
use Rattle.book.specs.Answers.{Buffers, Outcome, outcome_of, Does}
use Rattle.book.specs.Kernels.{size_tests, seat_tests}
use Rattle.book.specs.Lent.{SameSize}
use Rattle.book.specs.State.{at, placed, on_pairs}
use Rattle.book.specs.declared.Controls.{Controls}
use Rattle.book.specs.declared.Refusal.{Refusal}
use Rattle.into.proofs.Judged.{right_sizes, size_refuses, seat_refuses, own_refuses, passes}
use Rattle.into.specs.Into.{into_tests}
use Rattle.seated.proofs.Judged.{passed}
use Rattle.seated.proofs.Seats.{seated}
use Rattle.seated.specs.Judging.{Judges}
use Rattle.slow.specs.Slow.{Sized, Reaches}
use Rattle.slow_rules.specs.Rules.{rule_of, most_of, own_of}
use Rattle.slow_rules.specs.declared.Rule.{Rule}
use Rattle.slow_pairs.specs.Rows.{rule_call}

all_numbered : (n : ℕ) (b : Buffers) (most t : ℕ) (c : Controls) → T (numbered (size_tests n b ++ seat_tests most n t c))
unfolding size_tests seat_tests
all_numbered n b most t c = tt

-- outputs that were judged
pub outputs : (n : ℕ) (out : Buffers) {u : Unit} → Judges (size_tests n out) (Ok u) → Sized n out
outputs n out j = let s = right_sizes n out j in record { fits = s.0; reals = s.1; imags = s.2 }

module _ (rule : Rule) (n t : ℕ) (c : Controls) (b out : Buffers) where
  abbrev pub pair_outcome : Outcome
  pair_outcome = outcome_of (into_tests n b out) out (rule_call rule n t c b)

  abbrev numbers : T (numbered (size_tests n b ++ seat_tests (most_of rule) n t c))
  numbers = all_numbered n b (most_of rule) t c

  pub pair_size : {r : Refusal} → Judges (size_tests n out) (Err r) → Does pair_outcome (Err r) out
  pair_size = size_refuses n b out (seat_tests (most_of rule) n t c) (own_of rule) numbers None (on_pairs (rule_of rule) n t c b)

  module _ {u : Unit} (j : Judges (size_tests n out) (Ok u)) where
    pub pair_seat : {r : Refusal} → Judges (size_tests n b ++ seat_tests (most_of rule) n t c) (Err r) → Does pair_outcome (Err r) out
    pair_seat = seat_refuses n b out (seat_tests (most_of rule) n t c) (own_of rule) numbers None (on_pairs (rule_of rule) n t c b) j

    module _ {u' : Unit} (k : Judges (size_tests n b ++ seat_tests (most_of rule) n t c) (Ok u')) where
      pub pair_reaches : (i : ℕ) → i < 2 ^ n → Reaches t t b i
      unfolding seat_tests
      pair_reaches i h =
          let s = seated (most_of rule) n t c b [] (passed k) in
          record { n = n; sized = record { fits = s.fits; reals = s.reals; imags = s.imags }; one = s.qubit; two = s.qubit; inside = h }

      pub pair_own : {r : Refusal} → Judges (own_of rule) (Err r) → Does pair_outcome (Err r) out
      pair_own = own_refuses n b out (seat_tests (most_of rule) n t c) (own_of rule) numbers None (on_pairs (rule_of rule) n t c b) j k

      pub pair_done : {u'' : Unit} → Judges (own_of rule) (Ok u'') → {b' : Buffers} → SameSize out b'
          → ((i : ℕ) → i < 2 ^ n → at b' i ≡ placed (rule_of rule) t c (at b) i) → Does pair_outcome (Ok None) b'
      unfolding on_pairs
      pair_done l {b'} s h =
          let o = outputs n out j in
          passes n b out (seat_tests (most_of rule) n t c) (own_of rule) numbers None (on_pairs (rule_of rule) n t c b) j k l refl
          (held_only (2 ^ n) (placed (rule_of rule) t c (at b)) b' (s.reals ∙ o.reals) (s.imags ∙ o.imags) h)
