-- A measurement after its seat was judged: refused by 6 or 7, or collapsed and set back. Assumes nothing.
use Prim.Native.Nat.{ℕ, ◌^◌}
use mathlib.Core.Bool.{cond, ◌&&◌}
use mathlib.Core.List.{List, [], ◌∷◌, ◌++◌}
use mathlib.Core.Path.{◌≡◌, refl, ap, ◌∙◌}
use lib.Dec.{T, eqb}
use Rattle.std.specs.Prelude.{Some, Ok, Err}
use lib.Ieee.{Float}
use lib.ListN.{length}
use Rattle.book.proofs.Lengths.{held_fits}
use Rattle.book.proofs.Refusals.{numbered, right_lengths}
use Rattle.book.specs.Answers.{Test, ◌⇒◌, Buffers, Does}
use Rattle.book.specs.Calls.{act}
use Rattle.book.specs.Gates.{x_rule}
use Rattle.book.specs.Kernels.{size_tests}
use Rattle.book.specs.Measuring.{probability, collapsed, one_over_root, measured, bad_forced, bad_chance, measure_call}
use Rattle.book.specs.State.{State, at, held, uncontrolled, on_pairs}
use Rattle.book.specs.declared.Forced.{Forced}
use Rattle.book.specs.declared.Gate.TheVariants.{Measure}
use Rattle.book.specs.declared.Refusal.{Refusal}
use Rattle.seated.proofs.Judged.{passed, seat_refused, own_decides, keeps, works}
use Rattle.seated.proofs.Seats.{free, free_seated}
use Rattle.seated.specs.Judging.{Ruling, Judges, Seated, free_tests}
use Rattle.measurement.specs.Resets.{Reset}

module _ (n t : ℕ) (f : Forced) (b : Buffers) where
  -- tests 6 and 7
  abbrev later : List Test
  later = bad_forced f ⇒ 6 ∷ bad_chance (probability n t f.outcome (at b)) ⇒ 7 ∷ []

  seat_numbered : T (numbered (size_tests n b ++ free_tests n t))
  unfolding size_tests
  seat_numbered = tt

  -- the seat was refused
  pub measure_kept : {r : Refusal} → Judges (size_tests n b ++ free_tests n t) (Err r) → Does (act n (Measure t f) b) (Err r) b
  measure_kept judged = keeps (size_tests n b) b (measure_call n t f b) (seat_refused (size_tests n b) (free_tests n t) later seat_numbered judged)

  module _ {u : Unit} (judged : Judges (size_tests n b ++ free_tests n t) (Ok u)) where
    pub seat : Seated n t uncontrolled b
    unfolding size_tests
    seat = free_seated n t b [] (passed judged)

    module _ (p : Float) (is : p ≡ probability n t f.outcome (at b)) where
      -- it was not: 6 and 7 decide
      decided : {o : Ruling} → Judges (bad_forced f ⇒ 6 ∷ bad_chance p ⇒ 7 ∷ []) o → Judges (size_tests n b ++ (measure_call n t f b).tests) o
      decided own = own_decides (size_tests n b) (free_tests n t) later seat_numbered judged (rw is at own)

      pub measure_refused : {r : Refusal} → Judges (bad_forced f ⇒ 6 ∷ bad_chance p ⇒ 7 ∷ []) (Err r) → Does (act n (Measure t f) b) (Err r) b
      measure_refused own = keeps (size_tests n b) b (measure_call n t f b) (decided own)

      pub measure_done : {v : Unit} → Judges (bad_forced f ⇒ 6 ∷ bad_chance p ⇒ 7 ∷ []) (Ok v) → {r : Float} {b₁ b₂ : Buffers} → r ≡ one_over_root p
          → b₁ ≡ held (2 ^ n) (collapsed t f.outcome r (at b)) → Reset n t f b₁ b₂ → Does (act n (Measure t f) b) (Ok (Some f.outcome)) b₂
      unfolding measured
      measure_done own by_root c x =
          let made = c ∙ ap (λ (q : Float). held (2 ^ n) (collapsed t f.outcome q (at b))) (by_root ∙ ap one_over_root is) in
          let left = x ∙ ap (λ (y : Buffers). cond (eqb f.outcome 1 && eqb f.reset 1) (on_pairs x_rule n t uncontrolled y) y) made in
          works (size_tests n b) b (measure_call n t f b) (decided own) refl left

-- the collapsed state is of the same size
pub seat_still : {n t : ℕ} {b b₁ : Buffers} (s : State) → Seated n t uncontrolled b → b₁ ≡ held (2 ^ n) s → Seated n t uncontrolled b₁
seat_still {n} {t} s ok e =
    let (r, i) = right_lengths (2 ^ n) (held (2 ^ n) s) (held_fits n s) in
    record {
      some = ok.some;
      fits = ok.fits;
      reals = ap (λ (x : Buffers). length x.reals) e ∙ r;
      imags = ap (λ (x : Buffers). length x.imags) e ∙ i;
      qubit = ok.qubit;
      inside = ok.inside;
      free = ok.free;
    }
