-- The error of a sum (Knuth's TwoSum): with s = a + b and d = s - a, (a - (s - d)) + (b - d) is what s lost, exactly. In units of the lower of the two
-- last digits s and d are exact or even; where d is not exact, a has few digits and b is even, and so each later step is small, or even. Assumes nothing.
use mathlib.Core.Path.{◌≡◌, sym, ap, ◌∙◌}
use mathlib.Core.Logic.{◌⊎◌, inl, inr}
use Prim.Native.Nat.{ℕ, zero, suc, ◌+◌, ◌-◌, ◌*◌, ◌/◌, ◌%◌, ◌^◌, ◌≤◌, ◌<◌}
use native.Mathlib.Nat.{mul_assoc, mul_left_comm, le_refl, le_of_lt, lt_of_le_of_lt, pow-succ'}
use native.Mathlib.Decide.{dec_le}
use native.Mathlib.Omega.{arith}
use mathlib.Core.Bool.{Bool, true, false, beq}
use lib.Dec.{T}
use lib.Pow.{pow-add, pow-lt}
use lib.Ieee.{Float, Format, prec, emax, low, add, sub, fits}
use lib.Ieee.Scale.{overflow}
use Rattle.numbers.proofs.Counts.{finite_of}
use Rattle.exact.specs.Signed.{Differ, Is, Held, Within, Nearest}
use Rattle.exact.specs.Steps.{lost}
use Rattle.exact.proofs.SignedLaws.{either_side, size_is, again, again_rounds, again_held, add_rounds, sub_rounds, add_is, sub_is, held_at, one_value}
use Rattle.exact.proofs.Nearest.{signed, Rounded, rounded, near_on, again_nearest}
use Rattle.exact.proofs.Written.{Written, written, place_under}

-- s is a sum rounded, and t what it lacks
pub record Split (f : Format) (s t : Float) (sgn : Bool) (n₊ n₋ : ℕ) : Type 0 where
  pub s₊ : ℕ
  pub s₋ : ℕ
  pub is_s : Is f s sgn s₊ s₋
  pub is_t : Is f t sgn (n₊ + s₋) (n₋ + s₊)
  pub near : Nearest f n₊ n₋ s₊ s₋

-- ---- a - b smallest values as i - j units of 2 ^ k: the place of the last digit, K, is no lower
record Placed (f : Format) (k K M : ℕ) (x : Float) (s : Bool) (a b i j : ℕ) : Type 0 where
  is : Is f x s (i * 2 ^ k) (j * 2 ^ k)
  same : i * 2 ^ k + b ≡ j * 2 ^ k + a
  held : Held f (i * 2 ^ k) (j * 2 ^ k)
  few_or_even : (i + j < 2 ^ prec f) ⊎ ((i + j) % 2 ≡ 0)
  few : K ≤ k → i + j < 2 ^ prec f
  most : (i + j) * 2 ^ k ≤ 2 ^ M
  low_place : K ≤ M

placed : {f : Format} {x : Float} {s : Bool} {a b : ℕ} (k M : ℕ) (W : Written f x) → k ≤ W.k → Is f x s a b → Within (2 ^ M) a b 0 0
    → (i : ℕ) × (j : ℕ) × Placed f k W.k M x s a b i j
placed {f} {x} {s} {a} {b} k M W h I w =
    let d = W.k - k in
    let v = one_value x W.sgn I.sgn (W.q * 2 ^ W.k) I.mag (2 ^ low f) W.has I.has in
    let l : W.q * 2 ^ d * 2 ^ k ≡ W.q * 2 ^ W.k = lifted W.q W.k h in
    let z = beq I.sgn s in
    let o = signed z (W.q * 2 ^ d) (2 ^ k) in
    let g : Differ z (W.q * 2 ^ W.k) (o.0 * 2 ^ k) (o.1 * 2 ^ k) = rw l at o.2 in
    let g' : Differ z I.mag (o.0 * 2 ^ k) (o.1 * 2 ^ k) = rw v.1 at g in
    let most : W.q * 2 ^ W.k ≤ 2 ^ M = rw v.1 (omega (arith, size_is z I.mag a b I.gap)) in (
      o.0,
      o.1,
      record {
        is = record { sgn = I.sgn; mag = I.mag; has = I.has; gap = g' };
        same = alike z I.mag (o.0 * 2 ^ k) (o.1 * 2 ^ k) g' I.gap;
        held = record {
          head = W.q;
          zeros = W.k;
          gap = either_side z (W.q * 2 ^ W.k) (o.0 * 2 ^ k) (o.1 * 2 ^ k) g;
          few = le_of_lt W.few;
          under = W.under;
        };
        few_or_even = rw o.3 (digits W.q d W.few);
        few = λ e. let none : W.k - k ≡ 0 = omega arith in rw (o.3, none) (omega (arith, W.few));
        most = rw (o.3, l) most;
        low_place = elim (place_under f W.q W.k (suc M) W.full (lt_of_le_of_lt most (pow-lt (le_refl (suc M))))) [
          | inl e ↦ omega arith
          | inr l ↦ omega arith
        ];
      },
    )
  where
    lifted : (q K : ℕ) → k ≤ K → q * 2 ^ (K - k) * 2 ^ k ≡ q * 2 ^ K
    lifted q K h = mul_assoc q (2 ^ (K - k)) (2 ^ k) ∙ ap (λ (y : ℕ). q * y) (sym (pow-add 2 (K - k) k)) ∙ ap (λ (y : ℕ). q * 2 ^ y) (omega arith)

    alike : (z : Bool) (n c d : ℕ) → Differ z n c d → Differ z n a b → c + b ≡ d + a
    alike true n c d x y = omega arith
    alike false n c d x y = omega arith

    digits : (q d : ℕ) → q < 2 ^ prec f → (q * 2 ^ d < 2 ^ prec f) ⊎ (q * 2 ^ d % 2 ≡ 0)
    digits q zero h = inl (omega arith)
    digits q (suc d) h = inr (rw (pow-succ' 2 d, mul_left_comm q 2 (2 ^ d)) (omega arith))

-- ---- a - b units that the format holds: 2 ^ prec of them at most, or even and twice as many
abbrev Few : ℕ → ℕ → ℕ → Type 0
Few W a b = Within W a b 0 0 ⊎ (((a + b) % 2 ≡ 0) × Within (2 * W) a b 0 0)

few_held : (f : Format) (k a b : ℕ) → prec f + suc k < low f + suc (emax f) → Few (2 ^ prec f) a b → Held f (a * 2 ^ k) (b * 2 ^ k)
few_held f k a b K (inl h) = held_at f 0 k a b a b (omega arith) (omega arith) (omega arith)
few_held f k a b K (inr h) = held_at f 1 k ((a + b) / 2) b a b (omega arith) (omega arith) (omega arith)

-- ---- of floats: a is i₊ - i₋ units and b is j₊ - j₋, and the last digit of one of them stands at k
module _ {f : Format} {a b : Float} {sgn : Bool} {a₊ a₋ b₊ b₋ i₊ i₋ j₊ j₋ : ℕ} (k A B M : ℕ) (P : Placed f k A M a sgn a₊ a₋ i₊ i₋)
    (Q : Placed f k B M b sgn b₊ b₋ j₊ j₋) (few : (i₊ + i₋ < 2 ^ prec f) ⊎ (j₊ + j₋ < 2 ^ prec f)) (K : prec f + suc k < low f + suc (emax f))
    (room : 2 + M < low f + suc (emax f)) where
  under : (i₊ + i₋ + (j₊ + j₋)) * 2 ^ k + (i₊ + i₋ + (j₊ + j₋)) * 2 ^ k < overflow f
  under = lt_of_le_of_lt {m = 2 ^ (2 + M)} (omega (arith, P.most, Q.most, pow-add 2 2 M)) (pow-lt room)

  total : Rounded f k (add f a b) sgn (i₊ + j₊) (i₋ + j₋)
  total = rounded k (i₊ + j₊) (i₋ + j₋) (i₊ + i₋ + (j₊ + j₋))
      (again_rounds (add_rounds P.is Q.is) (omega arith)) (omega arith) under (omega arith)

  -- the sum's error is w at most: it is no larger than either term
  abbrev Off : ℕ → Type 0
  Off w = Within w (i₊ + j₊) (i₋ + j₋) total.c total.d

  off_a : Off (i₊ + i₋)
  off_a = near_on total.near (i₊ + i₋) j₊ j₋ Q.held (omega arith)

  off_b : Off (j₊ + j₋)
  off_b = near_on total.near (j₊ + j₋) i₊ i₋ P.held (omega arith)

  off : Off (2 ^ prec f)
  off = go few
    where
      go : (i₊ + i₋ < 2 ^ prec f) ⊎ (j₊ + j₋ < 2 ^ prec f) → Off (2 ^ prec f)
      go (inl h) = omega (arith, off_a)
      go (inr h) = omega (arith, off_b)

  -- of two terms with few digits the error is one unit at most: the sum or the next number is even
  off_one : i₊ + i₋ < 2 ^ prec f → j₊ + j₋ < 2 ^ prec f → Off 1
  off_one x y = near_on total.near 1 (i₊ + j₊ + (i₊ + j₊ + (i₋ + j₋)) % 2) (i₋ + j₋)
      (few_held f k (i₊ + j₊ + (i₊ + j₊ + (i₋ + j₋)) % 2) (i₋ + j₋) K (inr (omega arith, omega arith))) (omega arith)

  -- what is b, were the sum exact
  rest : Rounded f k (sub f (add f a b) a) sgn (total.c + i₋) (total.d + i₊)
  rest = rounded k (total.c + i₋) (total.d + i₊) (i₊ + i₋ + (j₊ + j₋))
      (again_rounds (sub_rounds total.is P.is) (omega arith)) (omega (arith, off_a)) under (omega arith)

  -- b is as near to what is rounded there as the sum is to s
  off_rest : (w : ℕ) → Off w → Within w (total.c + i₋) (total.d + i₊) rest.c rest.d
  off_rest w h = near_on rest.near w j₊ j₋ Q.held (omega arith)

  -- s - d, a - (s - d) and b - d are exact
  record Later : Type 0 where
    first : Held f ((total.c + rest.d) * 2 ^ k) ((total.d + rest.c) * 2 ^ k)
    second : Held f ((i₊ + (total.d + rest.c)) * 2 ^ k) ((i₋ + (total.c + rest.d)) * 2 ^ k)
    third : Held f ((j₊ + rest.d) * 2 ^ k) ((j₋ + rest.c) * 2 ^ k)

  -- s - a is exact: then s - (s - a) is a
  if_exact : total.c + i₋ + rest.d ≡ total.d + i₊ + rest.c → Later
  if_exact e = record {
    first = again_held P.held (omega (arith, ap (λ (y : ℕ). y * 2 ^ k) e));
    second = few_held f k (i₊ + (total.d + rest.c)) (i₋ + (total.c + rest.d)) K (inl (omega arith));
    third = few_held f k (j₊ + rest.d) (j₋ + rest.c) K (inl (omega (arith, off)));
  }

  -- or it is even, as are s and b, and a has few digits
  if_even : i₊ + i₋ < 2 ^ prec f → (j₊ + j₋) % 2 ≡ 0 → (total.c + total.d) % 2 ≡ 0 → (rest.c + rest.d) % 2 ≡ 0 → Later
  if_even x y r d =
      let l = off_rest (i₊ + i₋) off_a in
      record {
        first = few_held f k (total.c + rest.d) (total.d + rest.c) K (inr (omega arith, omega arith));
        second = few_held f k (i₊ + (total.d + rest.c)) (i₋ + (total.c + rest.d)) K (inl (omega arith));
        third = few_held f k (j₊ + rest.d) (j₋ + rest.c) K (inr (omega arith, omega (arith, off_a)));
      }

  -- where s is even: s - a is held, or a has few digits and b is even
  held_or_even : (total.c + total.d) % 2 ≡ 0 → Few (2 ^ prec f) (total.c + i₋) (total.d + i₊) ⊎ ((i₊ + i₋ < 2 ^ prec f) × ((j₊ + j₋) % 2 ≡ 0))
  held_or_even r = go few P.few_or_even Q.few_or_even
    where
      both : i₊ + i₋ < 2 ^ prec f → j₊ + j₋ < 2 ^ prec f → Within (2 ^ prec f) (total.c + i₋) (total.d + i₊) 0 0
      both x y = omega (arith, off_one x y)

      go : (i₊ + i₋ < 2 ^ prec f) ⊎ (j₊ + j₋ < 2 ^ prec f) → (i₊ + i₋ < 2 ^ prec f) ⊎ ((i₊ + i₋) % 2 ≡ 0)
          → (j₊ + j₋ < 2 ^ prec f) ⊎ ((j₊ + j₋) % 2 ≡ 0)
          → Few (2 ^ prec f) (total.c + i₋) (total.d + i₊) ⊎ ((i₊ + i₋ < 2 ^ prec f) × ((j₊ + j₋) % 2 ≡ 0))
      go (inl x) a (inl y) = inl (inl (both x y))
      go (inl x) a (inr y) = inr (x, y)
      go (inr y) (inl x) b = inl (inl (both x y))
      go (inr y) (inr x) b = inl (inr (omega arith, omega (arith, off_b)))

  later : Later
  later = go total.same_or_even rest.same_or_even
    where
      at_once : Within 0 (total.c + i₋) (total.d + i₊) rest.c rest.d → Later
      at_once h = if_exact (omega arith)

      go : (i₊ + j₊ + total.d ≡ i₋ + j₋ + total.c) ⊎ ((total.c + total.d) % 2 ≡ 0)
          → (total.c + i₋ + rest.d ≡ total.d + i₊ + rest.c) ⊎ ((rest.c + rest.d) % 2 ≡ 0) → Later
      go s (inl e) = if_exact e
      go (inl e) (inr d) = at_once (off_rest 0 (omega arith))
      go (inr r) (inr d) = elim (held_or_even r) [
        | inl h ↦ at_once (near_on rest.near 0 (total.c + i₋) (total.d + i₊) (few_held f k (total.c + i₋) (total.d + i₊) K h) (omega arith))
        | inr h ↦ if_even h.0 h.1 r d
      ]

  split : Split f (add f a b) (lost f a b (add f a b)) sgn (a₊ + b₊) (a₋ + b₋)
  split =
      let is_a = sub_is total.is rest.is (omega arith) later.first in
      let is_u = sub_is P.is is_a (omega arith) later.second in
      let is_v = sub_is Q.is rest.is (omega arith) later.third in
      let is_t = add_is is_u is_v (omega arith) (few_held f k (i₊ + j₊ + total.d) (i₋ + j₋ + total.c) K (inl (omega (arith, off)))) in
      record {
        s₊ = total.c * 2 ^ k;
        s₋ = total.d * 2 ^ k;
        is_s = total.is;
        is_t = again is_t (omega (arith, P.same, Q.same));
        near = again_nearest ((i₊ + j₊) * 2 ^ k) ((i₋ + j₋) * 2 ^ k) (total.c * 2 ^ k) (total.d * 2 ^ k) (a₊ + b₊) (a₋ + b₋) (total.c * 2 ^ k)
            (total.d * 2 ^ k) total.near.near (omega (arith, P.same, Q.same)) (omega arith);
      }

pub two_sum : (f : Format) (M : ℕ) → M + 8 + prec f < low f + suc (emax f) → (a b : Float) → T (fits f a) → T (fits f b)
    → (sgn : Bool) (a₊ a₋ b₊ b₋ : ℕ) → Is f a sgn a₊ a₋ → Is f b sgn b₊ b₋ → Within (2 ^ M) a₊ a₋ 0 0 → Within (2 ^ M) b₊ b₋ 0 0
    → Split f (add f a b) (lost f a b (add f a b)) sgn (a₊ + b₊) (a₋ + b₋)
two_sum f M room a b fa fb sgn a₊ a₋ b₊ b₋ is_a is_b wa wb =
    let A = written f a fa (finite_of a is_a.sgn is_a.mag (2 ^ low f) is_a.has) in
    let B = written f b fb (finite_of b is_b.sgn is_b.mag (2 ^ low f) is_b.has) in
    let i = A.k in
    let j = B.k in
    elim (dec_le i j) [
      | yes h ↦
          let P = (placed i M A (le_refl i) is_a wa).2 in
          split i i j M P (placed i M B h is_b wb).2 (inl (P.few (le_refl i))) (omega (arith, P.low_place)) (omega arith)
      | no h ↦
          let Q = (placed j M B (le_refl j) is_b wb).2 in
          split j i j M (placed j M A (omega arith) is_a wa).2 Q (inr (Q.few (le_refl j))) (omega (arith, Q.low_place)) (omega arith)
    ]
