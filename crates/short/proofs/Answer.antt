-- The answer of the short way. s is the sum rounded twice, X - Y what it lacks, and v that rounded. s and X - Y together are F's exact count. Where p + z is
-- exact so is v; where it is not, s is much larger, and a hair of s more than v may be off by. So X - Y lies between v less a hair and v and a hair, and F
-- between the sums of s with these. Assumes nothing.
use mathlib.Core.Path.{◌≡◌, refl, sym, ap, ◌∙◌, subst}
use mathlib.Core.Logic.{◌⊎◌, inl, inr}
use Prim.Native.Nat.{ℕ, suc, ◌+◌, ◌-◌, ◌*◌, ◌^◌, ◌≤◌, ◌<◌}
use native.Mathlib.Nat.{le_trans, le_of_eq, lt_of_lt_of_le, eq-zero-or-pos, pow-succ', mul-one, mul_left_comm, mul-le-mul_left, add-zero}
use native.Mathlib.Decide.{dec_le}
use native.Mathlib.Omega.{arith}
use mathlib.Core.Bool.{Bool, true, false, cond, beq}
use lib.IntN.{pos}
use lib.Dec.{T, lit≤}
use lib.Pow.{pow-add, pow_pos, pow_mono}
use lib.Ieee.{Float, fin, Format, binary32, binary64, prec, emax, low, unlike, sum, eq, add, sub, mul, fits, of_bits}
use lib.Ieee.Fits.{round-fits, add-fits, mul-fits}
use lib.Ieee.Exact.{HasValue}
use Rattle.numbers.specs.Fused.{fused}
use Rattle.numbers.proofs.Grid.{dist}
use Rattle.numbers.proofs.Sums.{sum_scaled}
use Rattle.terms.proofs.Ordinary.{fused_ordinary}
use Rattle.exact.specs.Signed.{Differ, Is, Rounds, Held, Within, Nearest}
use Rattle.exact.specs.Window.{reach, widest}
use Rattle.exact.specs.Steps.{Under, Multiplied, lost}
use Rattle.exact.proofs.SignedLaws.{summed, add_at, add_rounds, sub_rounds, again_rounds, again_held}
use Rattle.exact.proofs.Nearest.{relative}
use Rattle.exact.proofs.SumError.{Split, two_sum}
use Rattle.short.proofs.Unders.{under_mul}
use Rattle.short.proofs.Closest.{Kept, kept, float_held, mag_is, exactly, lost_le, nothing}
use Rattle.short.proofs.Far.{Far, far, enough}
use Rattle.short.proofs.OneSum.{cancel}
use Rattle.short.proofs.Squeeze.{Sum, Between, squeeze}
use Rattle.short.proofs.Hair.{cut, Fine, hair_under, square, many_zeros, Part, part}
use Rattle.short.proofs.Aside.{Beyond, from_exact, from_far}

-- ---- counts with their own sign before them, and with another
own_gap : (s : Bool) (n : ℕ) → Differ (beq s s) n n 0
own_gap true n = omega arith
own_gap false n = omega arith

signed : (z : Bool) (n : ℕ) → Differ z n (cond z n 0) (cond z 0 n) × (dist (cond z n 0) (cond z 0 n) ≡ n)
signed true n = omega arith
signed false n = omega arith

-- ---- the window leaves room: for the term, and for every step
term_fits : (f : Format) → low f + reach f ≤ widest f
term_fits binary32 = lit≤ tt
term_fits binary64 = lit≤ tt

steps_fit : (f : Format) → widest f + 3 + 4 + 8 + prec f < low f + suc (emax f)
steps_fit binary32 = lit≤ tt
steps_fit binary64 = lit≤ tt

-- a hair of what is no larger than twice 2 ^ (widest + 3)
hair_fits : (f : Format) → (low f ≤ widest f + 3) × (widest f + 3 + 1 ≤ low f + emax f)
hair_fits binary32 = (lit≤ tt, lit≤ tt)
hair_fits binary64 = (lit≤ tt, lit≤ tt)

-- ---- how large the steps are
sizes : (n g z₊ z₋ B w : ℕ) → B * 2 ^ 3 ≡ w → n < B → Within (dist n 0) n 0 g 0 → dist z₊ z₋ ≤ B
    → Within w n 0 0 0 × Within w g 0 0 0 × Within w z₊ z₋ 0 0 × Within w (g + z₊) (0 + z₋) 0 0 × Within w n g 0 0
sizes n g z₊ z₋ B w e a b c = omega arith

rest_sizes : (n g z₊ z₋ s₊ s₋ B w : ℕ) → B * 2 ^ 3 ≡ w → n < B → Within (dist n 0) n 0 g 0 → Within B z₊ z₋ 0 0
    → Within (dist (g + z₊) (0 + z₋)) (g + z₊) (0 + z₋) s₊ s₋
    → Within w (g + z₊ + s₋) (0 + z₋ + s₊) 0 0 × Within w (g + z₊ + s₋ + n) (0 + z₋ + s₊ + g) 0 0
rest_sizes n g z₊ z₋ s₊ s₋ B w e a b c h = omega arith

within : (w a b : ℕ) → dist a b ≤ w → Within w a b 0 0
within w a b h = omega arith

-- what is rounded comes to twice as much at most
doubled : (w a b c d : ℕ) → Within w a b 0 0 → Within (dist a b) a b c d → dist c d ≤ 2 * w
doubled w a b c d h l = omega arith

turned : (a b : ℕ) → dist a b ≡ dist b a
turned a b = omega arith

module _ (f : Format) (x y z e : Float) (E : Multiplied f x y e) (Z : Under f (reach f) z) (fits_z : T (fits f z)) where
  abbrev s : Float
  s = add f (mul f x y) z

  abbrev t : Float
  t = lost f (mul f x y) z s

  abbrev v : Float
  v = add f t e

  abbrev σ : Bool
  σ = unlike E.s E.t

  abbrev n : ℕ
  n = E.n

  abbrev g : ℕ
  g = E.g

  abbrev z₊ : ℕ
  z₊ = cond (beq Z.sgn σ) Z.n 0

  abbrev z₋ : ℕ
  z₋ = cond (beq Z.sgn σ) 0 Z.n

  gap_z : Differ (beq Z.sgn σ) Z.n z₊ z₋
  gap_z = (signed (beq Z.sgn σ) Z.n).0

  is_z : Is f z σ z₊ z₋
  is_z = record { sgn = Z.sgn; mag = Z.n; has = Z.has; gap = gap_z }

  size_z : dist z₊ z₋ ≤ 2 ^ widest f
  size_z = le_trans (le_of_eq (signed (beq Z.sgn σ) Z.n).1) (le_trans Z.most (pow_mono (term_fits f)))

  abbrev M : ℕ
  M = widest f + 3

  small : Within (2 ^ M) n 0 0 0 × Within (2 ^ M) g 0 0 0 × Within (2 ^ M) z₊ z₋ 0 0 × Within (2 ^ M) (g + z₊) (0 + z₋) 0 0 × Within (2 ^ M) n g 0 0
  small = sizes n g z₊ z₋ (2 ^ widest f) (2 ^ M) (sym (pow-add 2 (widest f) 3)) E.most (lost_le f n 0 g 0 E.near) size_z

  -- the first sum
  one : Split f s t σ (g + z₊) (0 + z₋)
  one = two_sum f M (omega (arith, steps_fit f)) (mul f x y) z (mul-fits f x y) fits_z σ g 0 z₊ z₋ E.is_p is_z small.1 small.2

  abbrev S : Is f s σ one.s₊ one.s₋
  S = one.is_s

  abbrev X : ℕ
  X = g + z₊ + one.s₋ + n

  abbrev Y : ℕ
  Y = 0 + z₋ + one.s₊ + g

  small_rest : Within (2 ^ M) (g + z₊ + one.s₋) (0 + z₋ + one.s₊) 0 0 × Within (2 ^ M) X Y 0 0
  small_rest =
      rest_sizes n g z₊ z₋ one.s₊ one.s₋ (2 ^ widest f) (2 ^ M) (sym (pow-add 2 (widest f) 3)) E.most (lost_le f n 0 g 0 E.near)
      (within (2 ^ widest f) z₊ z₋ size_z) (lost_le f (g + z₊) (0 + z₋) one.s₊ one.s₋ one.near)

  abbrev s₊ : ℕ
  s₊ = one.s₊

  abbrev s₋ : ℕ
  s₋ = one.s₋

  -- ---- F is one sum
  fused_is : fused f x y z ≡ sum f σ n Z.sgn Z.n (2 ^ low f)
  fused_is =
      fused_ordinary f x y z E.s E.t Z.sgn E.a E.b Z.n E.has_x E.has_y Z.has
      ∙ rw (E.product, pow-add 2 (low f) (low f)) (sym (sum_scaled f σ n Z.sgn Z.n (2 ^ low f) (2 ^ low f) (pow_pos (low f)) (pow_pos (low f))))

  some : 0 < n
  some = lt_of_lt_of_le (pow_pos (3 * prec f)) E.least

  wide : 2 ^ (M + 4) ≡ 16 * 2 ^ M
  wide = pow-add 2 M 4 ∙ omega arith

  -- no s, v or hair is larger than D
  abbrev D : ℕ
  D = 2 * 2 ^ M

  size_s : dist s₊ s₋ ≤ D
  size_s = doubled (2 ^ M) (g + z₊) (0 + z₋) s₊ s₋ small.3 (lost_le f (g + z₊) (0 + z₋) s₊ s₋ one.near)

  within_s : Within D s₊ s₋ 0 0
  within_s = within D s₊ s₋ size_s

  -- s and X - Y together are F's count
  whole : Sum f (fused f x y z) σ (s₊ + X) (s₋ + Y)
  whole =
      let r : Rounds f (fused f x y z) σ (n + z₊) (0 + z₋) = rw fused_is (summed f σ σ Z.sgn n Z.n n 0 z₊ z₋ (own_gap σ n) gap_z) in
      let R : Rounds f (fused f x y z) σ (s₊ + X) (s₋ + Y) = again_rounds r (omega arith) in
      record {
        rounds = R;
        kept = kept (M + 4) R (rw wide (omega (arith, within_s, small_rest.1))) (steps_fit f);
        holds = rw R.is (round-fits f R.sgn R.mag (2 ^ low f));
        zero = λ q. fused_is ∙ cancel f σ σ Z.sgn n Z.n n 0 z₊ z₋ (own_gap σ n) gap_z (omega arith) (inl some);
      }

  -- s is nothing only where the product, which is something, and z cancel: then it is +0
  first_term : (0 < S.mag) ⊎ (S.sgn ≡ false)
  first_term = elim (eq-zero-or-pos S.mag) [
    | inl e ↦ inr (sym (subst (λ (r : Float). HasValue r S.sgn S.mag (2 ^ low f)) (zero e) S.has).0)
    | inr l ↦ inl l
  ]
    where
      P : Is f (mul f x y) σ g 0
      P = E.is_p

      some_p : 0 < P.mag
      some_p = elim (eq-zero-or-pos P.mag) [
        | inl e ↦ absurd (omega (arith, some, nothing f n 0 g 0 E.near (mag_is P ∙ e)))
        | inr l ↦ l
      ]

      zero : S.mag ≡ 0 → s ≡ fin false 0 (pos 0)
      zero e = add_at f (mul f x y) z P.sgn Z.sgn P.mag Z.n (2 ^ low f) (pow_pos (low f)) P.has Z.has
          ∙ cancel f σ P.sgn Z.sgn P.mag Z.n g 0 z₊ z₋ P.gap gap_z
          (nothing f (g + z₊) (0 + z₋) s₊ s₋ one.near (mag_is S ∙ e)) (inl some_p)

  -- s and another number
  with_s : (a : Float) (c d : ℕ) → Is f a σ c d → dist c d ≤ 2 * (2 * D) → Sum f (add f s a) σ (s₊ + c) (s₋ + d)
  with_s a c d A l =
      let R = add_rounds S A in
      record {
        rounds = R;
        kept = kept (M + 4) R (rw wide (omega (arith, within_s, within (2 * (2 * D)) c d l))) (steps_fit f);
        holds = add-fits f s a;
        zero = λ q. add_at f s a S.sgn A.sgn S.mag A.mag (2 ^ low f) (pow_pos (low f)) S.has A.has
            ∙ cancel f σ S.sgn A.sgn S.mag A.mag s₊ s₋ c d S.gap A.gap q first_term;
      }

  -- ---- v, and a hair of s
  kept_v : Kept f v σ X Y
  kept_v = kept M (again_rounds (add_rounds one.is_t E.is_e) (omega arith)) small_rest.1 (omega (arith, steps_fit f))

  abbrev v₊ : ℕ
  v₊ = kept_v.c

  abbrev v₋ : ℕ
  v₋ = kept_v.d

  -- v and what is no larger than D
  aside : (c d : ℕ) → dist c d ≤ D → Within (2 * D) (v₊ + c) (v₋ + d) 0 0
  aside c d l =
      let v = within D v₊ v₋ (doubled (2 ^ M) X Y v₊ v₋ small_rest.1 (lost_le f X Y v₊ v₋ kept_v.near)) in
      omega (arith, v, within D c d l)

  room : (c d : ℕ) → dist c d ≤ D → Within (2 ^ (M + 4)) (v₊ + c) (v₋ + d) 0 0
  room c d l = let w = aside c d l in rw wide (omega arith)

  once : 2 ^ (low f + (M + 1 - low f)) ≡ D
  once = ap (λ (k : ℕ). 2 ^ k) (omega (arith, hair_fits f)) ∙ pow-succ' 2 M

  -- ---- a hair of s
  module _ (bits : ℕ) where
    abbrev m : Float
    m = mul f s (of_bits f bits)

    module _ (fine : Fine f bits) where
      -- a hair is m₊ - m₋, and a step of it from v to either side goes beyond X - Y
      record Step : Type 0 where
        m₊ : ℕ
        m₋ : ℕ
        is : Is f m σ m₊ m₋
        most : dist m₊ m₋ ≤ D
        forth : (c d : ℕ) → Nearest f (v₊ + m₊) (v₋ + m₋) c d → Beyond X Y m₊ m₋ c d
        back : (c d : ℕ) → Nearest f (v₊ + m₋) (v₋ + m₊) c d → Beyond X Y m₋ m₊ c d

      -- v is exact: whatever a hair is
      hair_of_s : Under f (M + 1 - low f + 0) m
      hair_of_s = under_mul f (M + 1 - low f) 0 s (of_bits f bits) (omega (arith, hair_fits f)) large (hair_under f bits fine)
        where
          large : Under f (M + 1 - low f) s
          large = record {
            sgn = S.sgn;
            n = S.mag;
            has = S.has;
            most = le_trans (le_of_eq (sym (mag_is S))) (le_trans size_s (le_of_eq (sym once)));
          }

      hair_most : hair_of_s.n ≤ D
      hair_most = le_trans hair_of_s.most (le_of_eq (ap (λ (k : ℕ). 2 ^ (low f + k)) (add-zero (M + 1 - low f)) ∙ once))

      step_exact : X + v₋ ≡ Y + v₊ → Step
      step_exact h =
          let u = hair_of_s in
          let b = beq u.sgn σ in
          let held_v = float_held f v σ v₊ v₋ (add-fits f t e) kept_v.is in
          record {
            m₊ = cond b u.n 0;
            m₋ = cond b 0 u.n;
            is = record { sgn = u.sgn; mag = u.n; has = u.has; gap = (signed b u.n).0 };
            most = le_trans (le_of_eq (signed b u.n).1) hair_most;
            forth = λ c d. from_exact f X Y v₊ v₋ (cond b u.n 0) (cond b 0 u.n) c d held_v h;
            back = λ c d. from_exact f X Y v₊ v₋ (cond b 0 u.n) (cond b u.n 0) c d held_v h;
          }

      -- v is not: were p + z held, nothing were lost of it, and the rest were e
      not_held : (X + v₋ ≡ Y + v₊ → ⊥) → Held f (g + z₊) (0 + z₋) → ⊥
      not_held ne h =
          let q = exactly f (g + z₊) (0 + z₋) s₊ s₋ one.near h in
          ne (exactly f X Y v₊ v₋ kept_v.near (again_held (float_held f e σ n g E.held E.is_e) (omega (arith, q))))

      module _ (inexact : X + v₋ ≡ Y + v₊ → ⊥) where
        far_off : Far f n (dist X Y) (dist s₊ s₋)
        far_off = far f M (omega (arith, steps_fit f)) n g z₊ z₋ s₊ s₋ small.0 E.near small.3 one.near
            (float_held f (mul f x y) σ g 0 (mul-fits f x y) E.is_p) (float_held f z σ z₊ z₋ fits_z is_z) (not_held inexact)

        H : Part f (cut f bits) m σ s₊ s₋
        H = part f bits fine s σ s₊ s₋ S (float_held f s σ s₊ s₋ (add-fits f (mul f x y) z) S) (large (dist s₊ s₋) far_off.product)
          where
            large : (k : ℕ) → n ≤ 8 * k → 2 ^ (prec f + cut f bits) ≤ k
            large k h = omega (arith, E.least, many_zeros f bits fine)

        -- its size
        abbrev k : ℕ
        k = dist H.m₊ H.m₋

        small_hair : k ≤ D
        small_hair = le_trans (le_of_eq (sym (mul-one k))) (le_trans (mul-le-mul_left k (pow_pos (cut f bits))) (le_trans (le_of_eq H.size) size_s))

        beyond : (n₊ n₋ c d : ℕ) → dist n₊ n₋ ≡ k → Nearest f (v₊ + n₊) (v₋ + n₋) c d → Beyond X Y n₊ n₋ c d
        beyond n₊ n₋ c d same N =
            let w = room n₊ n₋ (le_trans (le_of_eq same) small_hair) in
            from_far (2 ^ (prec f - 1)) X Y v₊ v₋ n₊ n₋ c d (dist s₊ s₋) (enough f)
            (relative f M (omega (arith, steps_fit f)) X Y v₊ v₋ small_rest.1 kept_v.near) far_off.rest
            (relative f (M + 4) (omega (arith, steps_fit f)) (v₊ + n₊) (v₋ + n₋) c d w N)
            (rw (same, ← H.size, mul_left_comm 64 k (2 ^ cut f bits)) (mul-le-mul_left k (square f bits fine)))

        step_far : Step
        step_far = record {
          m₊ = H.m₊;
          m₋ = H.m₋;
          is = H.is;
          most = small_hair;
          forth = λ c d. beyond H.m₊ H.m₋ c d refl;
          back = λ c d. beyond H.m₋ H.m₊ c d (turned H.m₋ H.m₊);
        }

      step : Step
      step = elim (dec_le (X + v₋) (Y + v₊)) [
        | yes h ↦ elim (dec_le (Y + v₊) (X + v₋)) [ yes l ↦ step_exact (omega arith) | no l ↦ step_far (λ e. omega arith) ]
        | no h ↦ step_far (λ e. omega arith)
      ]

      -- ---- both sides
      back_most : dist step.m₋ step.m₊ ≤ D
      back_most = le_trans (le_of_eq (turned step.m₋ step.m₊)) step.most

      lower : Kept f (sub f v m) σ (v₊ + step.m₋) (v₋ + step.m₊)
      lower = kept (M + 4) (sub_rounds kept_v.is step.is) (room step.m₋ step.m₊ back_most) (steps_fit f)

      upper : Kept f (add f v m) σ (v₊ + step.m₊) (v₋ + step.m₋)
      upper = kept (M + 4) (add_rounds kept_v.is step.is) (room step.m₊ step.m₋ step.most) (steps_fit f)

      sized : (c d a b : ℕ) → dist c d ≤ D → Nearest f (v₊ + c) (v₋ + d) a b → dist a b ≤ 2 * (2 * D)
      sized c d a b l N = doubled (2 * D) (v₊ + c) (v₋ + d) a b (aside c d l) (lost_le f (v₊ + c) (v₋ + d) a b N)

      between : Between (s₊ + lower.c) (s₋ + lower.d) (s₊ + X) (s₋ + Y) (s₊ + upper.c) (s₋ + upper.d)
      between =
          let l = step.back lower.c lower.d lower.near in
          let u = step.forth upper.c upper.d upper.near in
          elim (dec_le step.m₋ step.m₊) [
            | yes h ↦ inl (omega (arith, l.down h), omega (arith, u.up h))
            | no h ↦ inr (omega (arith, u.down (omega arith)), omega (arith, l.up (omega arith)))
          ]

      between_sums : eq (add f s (sub f v m)) (add f s (add f v m)) ≡ true → add f s (sub f v m) ≡ fused f x y z
      between_sums =
          let l = with_s (sub f v m) lower.c lower.d lower.is (sized step.m₋ step.m₊ lower.c lower.d back_most lower.near) in
          let u = with_s (add f v m) upper.c upper.d upper.is (sized step.m₊ step.m₋ upper.c upper.d step.most upper.near) in
          squeeze l whole u between

    pub answer : eq (add f s (sub f v m)) (add f s (add f v m)) ≡ true → Fine f bits → add f s (sub f v m) ≡ fused f x y z
    answer h fine = between_sums fine h
