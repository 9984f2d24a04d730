-- The cut of the fixed bits in the code's terms, and a run's numbers replaced by the literals that they equal. Assumes nothing.
use Prim.Native.Nat.{ℕ, ◌+◌, ◌-◌, ◌^◌, ◌≤◌, ◌<◌}
use mathlib.Core.Path.{◌≡◌, sym, ap, ◌∙◌, subst}
use native.Mathlib.Omega.{arith}
use lib.Count.{count_trailing_zeros}
use Rattle.book.specs.Answers.{Buffers}
use Rattle.book.specs.declared.Pair.{Pair}
use Rattle.pairs.specs.Pairs.{Keyed, Swept}
use Rattle.pairs.specs.Runs.{Runs}
use Rattle.pairs.proofs.Cuts.{tail_lt, low_le, wide_sum, run_le, cut}
use Rattle.seated.proofs.Shifts.{shl, shl_is, pow_le}

-- the code's stride, what is left of the fixed bits, and the length of a run
abbrev pub stride_of : ℕ → ℕ
stride_of fixed = shl (count_trailing_zeros 64 (fixed + 1))

abbrev pub wide_of : ℕ → ℕ
wide_of fixed = fixed - (stride_of fixed - 1)

abbrev pub run_of : ℕ → ℕ → ℕ
run_of n fixed = shl (count_trailing_zeros 64 (wide_of fixed + shl n))

pub few : {n fixed back0 back1 : ℕ} {b : Buffers} → Keyed n fixed back0 back1 b → 2 ^ n ≤ 2 ^ 24
few {n} ok = pow_le n 24 ok.fits

module _ {n fixed back0 back1 : ℕ} {b : Buffers} (ok : Keyed n fixed back0 back1 b) (free : fixed + 1 < 2 ^ n) where
  size_is : shl n ≡ 2 ^ n
  size_is = shl_is n ok.fits

  pub tail_le : count_trailing_zeros 64 (fixed + 1) ≤ 24
  tail_le = omega (arith, tail_lt n fixed ok.fits free, ok.fits)

  stride_is : stride_of fixed ≡ 2 ^ count_trailing_zeros 64 (fixed + 1)
  stride_is = shl_is (count_trailing_zeros 64 (fixed + 1)) tail_le

  pub low_fits : stride_of fixed - 1 ≤ fixed
  low_fits = low_le n fixed ok.fits free (stride_of fixed) stride_is

  pub sum_is : wide_of fixed + (stride_of fixed - 1) ≡ fixed
  sum_is = wide_sum n fixed ok.fits free (stride_of fixed) stride_is

  all_is : count_trailing_zeros 64 (wide_of fixed + shl n) ≡ count_trailing_zeros 64 (wide_of fixed + 2 ^ n)
  all_is = ap (λ (x : ℕ). count_trailing_zeros 64 (wide_of fixed + x)) size_is

  pub tail_run : count_trailing_zeros 64 (wide_of fixed + shl n) ≤ 24
  tail_run = omega (arith, all_is, ok.fits, run_le n fixed ok.fits free (stride_of fixed) stride_is)

  run_is : run_of n fixed ≡ 2 ^ count_trailing_zeros 64 (wide_of fixed + 2 ^ n)
  run_is = shl_is (count_trailing_zeros 64 (wide_of fixed + shl n)) tail_run ∙ ap (λ (x : ℕ). 2 ^ x) all_is

  pub runs_of : Runs n (wide_of fixed) (run_of n fixed) (stride_of fixed) back0 back1 b
  runs_of =
      record {
        keyed = subst (λ (f : ℕ). Keyed n f back0 back1 b) (sym sum_is) ok;
        cut = cut n fixed ok.fits free (stride_of fixed) stride_is (run_of n fixed) run_is;
      }

  -- with the literals that the numbers equal
  module _ {stride : ℕ} (e : stride_of fixed ≡ stride) where
    pub runs_as : Runs n (wide_of fixed) (run_of n fixed) stride back0 back1 b
    runs_as = subst (λ (x : ℕ). Runs n (wide_of fixed) (run_of n fixed) x back0 back1 b) e runs_of

    pub swept_as : {rule : Pair → Pair} {b' : Buffers} → Swept rule n (wide_of fixed + (stride - 1)) back0 back1 b b' → Swept rule n fixed back0 back1 b b'
    swept_as {rule} {b'} w =
        subst (λ (f : ℕ). Swept rule n f back0 back1 b b') (ap (λ (x : ℕ). wide_of fixed + (x - 1)) (sym e) ∙ sum_is) w

    module _ (near : back0 ≡ 1) where
      none : back1 ≡ 0
      none = omega (arith, ok.order)

      pub runs_near : Runs n (wide_of fixed) (run_of n fixed) stride 1 0 b
      runs_near =
          subst (λ (x : ℕ). Runs n (wide_of fixed) (run_of n fixed) stride 1 x b) none
          (subst (λ (x : ℕ). Runs n (wide_of fixed) (run_of n fixed) stride x back1 b) near runs_as)
