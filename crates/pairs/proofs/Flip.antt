-- Bit flip by its judges, in the code's terms: what each refusal answers, and what X swept, or nothing, does. Assumes nothing.
use Prim.Native.Nat.{ℕ}
use mathlib.Core.Bool.{Bool, true, false, cond}
use mathlib.Core.List.{◌++◌}
use mathlib.Core.Path.{◌≡◌, refl, sym, ap, ◌∙◌}
use lib.Dec.{T}
use lib.Ieee as Ieee
use Rattle.std.specs.Prelude.{Some, Ok, Err}
use Rattle.book.proofs.Refusals.{numbered}
use Rattle.book.specs.Answers.{Answer, value, says, Buffers, Outcome, outcome_of, Does}
use Rattle.book.specs.Gates.{x_rule, noise_of, finite_tests}
use Rattle.book.specs.Kernels.{size_tests, bit_flip_call}
use Rattle.book.specs.State.{uncontrolled, on_pairs}
use Rattle.book.specs.declared.Noise.{Noise}
use Rattle.book.specs.declared.Refusal.{Refusal}
use Rattle.seated.proofs.Judged.{passed, seat_refused, own_decides, works, keeps}
use Rattle.seated.proofs.Seats.{free_seated}
use Rattle.seated.specs.Judging.{Judges, Seated, free_tests}

abbrev pub flip_of : ℕ → ℕ → Noise → Buffers → Outcome
flip_of n t noise b = outcome_of (size_tests n b) b (bit_flip_call n t noise b)

seats_numbered : (n t : ℕ) (b : Buffers) → T (numbered (size_tests n b ++ free_tests n t))
unfolding size_tests
seats_numbered n t b = tt

module _ (n t : ℕ) (noise : Noise) (b : Buffers) where
  pub flip_unseated : {r : Refusal} → Judges (size_tests n b ++ free_tests n t) (Err r) → Does (flip_of n t noise b) (Err r) b
  flip_unseated j =
      keeps (size_tests n b) b (bit_flip_call n t noise b)
      (seat_refused (size_tests n b) (free_tests n t) (finite_tests (noise_of noise)) (seats_numbered n t b) j)

  module _ {u : Unit} (j : Judges (size_tests n b ++ free_tests n t) (Ok u)) where
    pub flip_refused : {r : Refusal} → Judges (finite_tests (noise_of noise)) (Err r) → Does (flip_of n t noise b) (Err r) b
    flip_refused k =
        keeps (size_tests n b) b (bit_flip_call n t noise b)
        (own_decides (size_tests n b) (free_tests n t) (finite_tests (noise_of noise)) (seats_numbered n t b) j k)

    module _ {v : Unit} (k : Judges (finite_tests (noise_of noise)) (Ok v)) where
      both : Judges (size_tests n b ++ (bit_flip_call n t noise b).tests) (Ok v)
      both = own_decides (size_tests n b) (free_tests n t) (finite_tests (noise_of noise)) (seats_numbered n t b) j k

      pub flip_seated : Seated n t uncontrolled b
      flip_seated = free_seated n t b (finite_tests (noise_of noise)) (passed both)

      -- ran or not
      module _ (ran : Bool) (h : Ieee.le noise.draw noise.prob ≡ ran) where
        flips : {r : Answer} {b' : Buffers} → says r ≡ value (cond ran 1 0) → b' ≡ cond ran (on_pairs x_rule n t uncontrolled b) b
            → Does (flip_of n t noise b) r b'
        flips p q =
            works (size_tests n b) b (bit_flip_call n t noise b) both (p ∙ ap (λ (x : Bool). value (cond x 1 0)) (sym h))
            (q ∙ ap (λ (x : Bool). cond x (on_pairs x_rule n t uncontrolled b) b) (sym h))

      pub flip_not : Ieee.le noise.draw noise.prob ≡ false → Does (flip_of n t noise b) (Ok (Some 0)) b
      flip_not h = flips false h refl refl

      pub flip_done : Ieee.le noise.draw noise.prob ≡ true → {b' : Buffers} → b' ≡ on_pairs x_rule n t uncontrolled b
          → Does (flip_of n t noise b) (Ok (Some 1)) b'
      flip_done h = flips true h refl
