-- A walk along a lent run, one pair or two at a turn, for any rule. Assumes nothing.
use Prim.Native.Nat.{ℕ, ◌+◌, ◌*◌, ◌/◌, ◌%◌, ◌≤◌, ◌<◌}
use mathlib.Core.Logic.{◌⊎◌, inl, inr, ⊎_elim}
use mathlib.Core.Path.{◌≡◌, refl, sym, ap, ◌∙◌, subst}
use native.Mathlib.Decide.{ℕ_discrete}
use native.Mathlib.Nat.{div-add-mod', lt_of_mul-lt-mul_right, mul-le-mul_right, add-mul, one-mul, mul_comm, mul_assoc, add-mod_right, zero-mod, mul-mod_left}
use native.Mathlib.Omega.{arith}
use lib.ListN.{length}
use Rattle.book.specs.Answers.{Buffers}
use Rattle.book.specs.Lent.{SameSize}
use Rattle.book.specs.State.{State, at, pair}
use Rattle.book.specs.declared.Pair.{Pair}
use Rattle.pairs.specs.Pairs.{TwoPlaces, pair_at, PairPut, Apart, Paired}
use Rattle.pairs.specs.Runs.{Spaced, Run, RunDone, FourPlaces, WrittenTwo}
use Rattle.pairs.proofs.Loop.{nothing, one, join}

-- two multiples of s are s apart
pub gap : (s i j : ℕ) → i % s ≡ 0 → j % s ≡ 0 → i < j → i + s ≤ j
gap s i j zi zj l =
    let p : ℕ = i / s in
    let q : ℕ = j / s in
    let ei : p * s ≡ i = omega (arith, div-add-mod' i s) in
    let ej : q * s ≡ j = omega (arith, div-add-mod' j s) in
    let pq : p < q = lt_of_mul-lt-mul_right s (omega arith) in
    let m : (p + 1) * s ≤ q * s = mul-le-mul_right s (let h : p + 1 ≤ q = omega arith in h) in
    omega (arith, add-mul p 1 s, one-mul s)

-- a multiple of 2 s is one of s
pub halved : (s i : ℕ) → i % (s * 2) ≡ 0 → i % s ≡ 0
halved s i z =
    let q : ℕ = i / (s * 2) in
    let e : q * (s * 2) ≡ i = omega (arith, div-add-mod' i (s * 2)) in
    let e' : q * 2 * s ≡ i = mul_assoc q 2 s ∙ ap (λ (x : ℕ). q * x) (mul_comm 2 s) ∙ e in
    ap (λ (x : ℕ). x % s) (sym e') ∙ mul-mod_left (q * 2) s

-- ---- what a walk keeps, at its place i; step is the stride, or twice the stride
pub record Walk (rule : Pair → Pair) (run d stride step : ℕ) (b₀ : Buffers) (i : ℕ) (b : Buffers) : Type 0 where
  pub same : SameSize b₀ b
  pub on : i % step ≡ 0
  pub done : Paired rule (Spaced stride run) (λ i. i) (λ i. i + d) 0 i (at b₀) (at b)

module _ {run d stride : ℕ} {b₀ : Buffers} (ok : Run run d stride b₀) where
  aparts : Apart (Spaced stride run) (λ i. i) (λ i. i + d)
  aparts = record { lower = λ v w k l e. e; upper = λ v w k l e. omega arith; cross = λ v w k l e. ok.apart v w k l e }

  -- d is not 0, since a place is in one pair only
  not_zero : (i : ℕ) → Spaced stride run i → d ≡ 0 → ⊥
  not_zero i k e = ok.apart i i k k (omega arith)

  pub walk_starts : {rule : Pair → Pair} (step : ℕ) → Walk rule run d stride step b₀ 0 b₀
  walk_starts {rule} step =
      record {
        same = record { reals = refl; imags = refl };
        on = zero-mod step;
        done = nothing rule (Spaced stride run) (λ i. i) (λ i. i + d) 0 0 (at b₀)
            (λ w k x y. omega arith);
      }

  pub walk_ends : {rule : Pair → Pair} {step i : ℕ} {b : Buffers} → Walk rule run d stride step b₀ i b → run ≤ i → RunDone rule run d stride b₀ b
  walk_ends {b = b} u l =
      record {
        same = u.same;
        pairs = record {
          lower = λ w k x y. u.done.lower w k x (omega arith);
          upper = λ w k x y. u.done.upper w k x (omega arith);
          others = λ j f. u.done.others j (λ w k x y. f w k x k.1);
        };
      }

  module _ {rule : Pair → Pair} {step i : ℕ} {b b' : Buffers} (u : Walk rule run d stride step b₀ i b) (sm : SameSize b b')
      (p : Paired rule (Spaced stride run) (λ j. j) (λ j. j + d) i (i + step) (at b) (at b')) where
    walk_on : Walk rule run d stride step b₀ (i + step) b'
    walk_on =
        record {
          same = record { reals = sm.reals ∙ u.same.reals; imags = sm.imags ∙ u.same.imags };
          on = add-mod_right i step ∙ u.on;
          done = join rule (Spaced stride run) (λ j. j) (λ j. j + d) aparts (omega arith) (omega arith) u.done p;
        }

  -- one pair at a turn
  module _ {rule : Pair → Pair} {i : ℕ} {b : Buffers} (u : Walk rule run d stride stride b₀ i b) (l : i < run) where
    pub one_steps : {b' : Buffers} → PairPut rule i (i + d) (at b) (at b') × SameSize b b' → Walk rule run d stride stride b₀ (i + stride) b'
    one_steps {b'} st =
        walk_on u st.1
        (join rule (Spaced stride run) (λ j. j) (λ j. j + d) aparts (omega arith) (omega (arith, ok.some))
        (one rule (Spaced stride run) (λ j. j) (λ j. j + d) (u.on, l) st.0)
        (nothing rule (Spaced stride run) (λ j. j) (λ j. j + d) (i + 1) (i + stride) (at b')
        (λ w k x y. omega (arith, gap stride i w u.on k.0 (let h : i < w = omega arith in h)))))

  -- two pairs at a turn
  module _ {rule : Pair → Pair} {i : ℕ} {b : Buffers} (u : Walk rule run d stride (stride * 2) b₀ i b) (l : i < run) where
    on : i % stride ≡ 0
    on = halved stride i u.on

    next : i + stride < run
    next = ok.even i u.on l

    on_next : (i + stride) % stride ≡ 0
    on_next = add-mod_right i stride ∙ on

    pub two_room : i + d < length b₀.reals
    two_room = ok.room i (on, l)

    pub two_room_next : i + stride + d < length b₀.reals
    two_room_next = ok.room (i + stride) (on_next, next)

    ne : d ≡ 0 → ⊥
    ne = not_zero i (on, l)

    ne_stride : i + stride ≡ i + d → ⊥
    ne_stride e = ok.apart (i + stride) i (on_next, next) (on, l) e

    pub two_asks : TwoPlaces b i (i + d)
    two_asks =
        record {
          apart = omega (arith, ne);
          reals = omega (arith, two_room, u.same.reals);
          imags = omega (arith, two_room, u.same.imags, ok.equal);
        }

    pub two_asks_next : TwoPlaces b (i + stride) (i + stride + d)
    two_asks_next =
        record {
          apart = omega (arith, ne);
          reals = omega (arith, two_room_next, u.same.reals);
          imags = omega (arith, two_room_next, u.same.imags, ok.equal);
        }

    pub two_asks_four : FourPlaces b i (i + d) stride
    two_asks_four =
        record {
          order = omega (arith, ne);
          some = ok.some;
          apart = ne_stride;
          reals = omega (arith, two_room_next, u.same.reals);
          imags = omega (arith, two_room_next, u.same.imags, ok.equal);
          small = omega (arith, ok.small, u.same.reals);
        }

    either : (w : ℕ) → Spaced stride run w → i ≤ w → w < i + stride * 2 → (w ≡ i) ⊎ (w ≡ i + stride)
    either w k x y =
        elim (ℕ_discrete w i) [
          | yes e ↦ inl e
          | no e ↦ elim (ℕ_discrete w (i + stride)) [
            | yes f ↦ inr f
            | no f ↦ absurd (omega (
              arith,
              gap stride i w on k.0 (let h : i < w = omega arith in h),
              beyond w k
                  (omega (arith, f, gap stride i w on k.0 (let h : i < w = omega arith in h))) y,
            ))
          ]
        ]
      where
        beyond : (w : ℕ) → Spaced stride run w → i + stride < w → w < i + stride * 2 → ⊥
        beyond w k x y = omega (arith, gap stride (i + stride) w on_next k.0 x)

    pub two_steps : {b' : Buffers} {p q v w : Pair} → p ≡ pair_at b i (i + d) → q ≡ pair_at b (i + stride) (i + stride + d) → v ≡ rule p → w ≡ rule q
        → WrittenTwo i (i + d) stride v w (at b) (at b') × SameSize b b' → Walk rule run d stride (stride * 2) b₀ (i + stride * 2) b'
    two_steps {b'} {p} {q} {v} {w} ep eq ev ew wr = walk_on u wr.1 both
      where
        s : State
        s = at b

        far : i + stride + d ≡ i + d + stride
        far = omega arith

        both : Paired rule (Spaced stride run) (λ j. j) (λ j. j + d) i (i + stride * 2) (at b) (at b')
        both =
            record {
              lower = λ x k a c. ⊎_elim
                  (λ e. subst (λ (j : ℕ). at b' j ≡ (rule (pair (at b j) (at b (j + d)))).s0) (sym e)
                  (wr.0.lower ∙ ap (λ (z : Pair). z.s0) (ev ∙ ap rule ep)))
                  (λ e. subst (λ (j : ℕ). at b' j ≡ (rule (pair (at b j) (at b (j + d)))).s0) (sym e)
                  (wr.0.lower_next ∙ ap (λ (z : Pair). z.s0) (ew ∙ ap rule eq)))
                  (either x k a c);
              upper = λ x k a c. ⊎_elim
                  (λ e. subst (λ (j : ℕ). at b' (j + d) ≡ (rule (pair (at b j) (at b (j + d)))).s1) (sym e)
                  (wr.0.upper ∙ ap (λ (z : Pair). z.s1) (ev ∙ ap rule ep)))
                  (λ e. subst (λ (j : ℕ). at b' (j + d) ≡ (rule (pair (at b j) (at b (j + d)))).s1) (sym e)
                  (ap (at b') far ∙ wr.0.upper_next ∙ ap (λ (z : Pair). z.s1) (ew ∙ ap rule eq)))
                  (either x k a c);
              others = λ x f. wr.0.others x
                  (λ e. f i (on, l) (omega arith) (omega (arith, ok.some)) (inl e))
                  (λ e. f i (on, l) (omega arith) (omega (arith, ok.some)) (inr e))
                  (λ e. f (i + stride) (on_next, next) (omega arith) (omega (arith, ok.some)) (inl e))
                  (λ e. f (i + stride) (on_next, next) (omega arith) (omega (arith, ok.some)) (inr (e ∙ sym far)));
            }
