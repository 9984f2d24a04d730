-- Into a second state and from there back is in place: by the law that the engines agree. And which gates are run so. Assumes nothing.
use Prim.Native.Nat.{ℕ, ◌^◌, ◌≤◌, ◌<◌}
use mathlib.Core.Bool.{Bool, true, false, not, ◌&&◌, ◌||◌}
use mathlib.Core.List.{List}
use mathlib.Core.Path.{◌≡◌, refl, sym, ap, ap₂, ◌∙◌, subst}
use native.Mathlib.Omega.{arith}
use borrow.Author.Tests.{le-leb, lt-leb}
use lib.Dec.{eqb, leb}
use lib.Ieee.{Float}
use lib.ListN.{length, take}
use lib.Seq.{length-take-le}
use Rattle.std.specs.Prelude.{Option, Some, None, Ok, Err, is_ok}
use Rattle.book.specs.Answers.{Answer, says, Buffers, Call, Outcome, outcome_of, accepts, Does}
use Rattle.book.specs.Calls.{call_of, act}
use Rattle.book.specs.Kernels.{bad_length}
use Rattle.book.specs.Lent.{SameSize}
use Rattle.book.specs.declared.Gate.{Gate}
use Rattle.book.specs.declared.Gate.TheVariants.{H, X, Y, Z, P, Rx, Ry, Rz, U, Swap, Measure, BitFlip}
use Rattle.into.proofs.Engines.{written_over, left_alone}
use Rattle.into.specs.Into.{into_tests, into}
use Rattle.slow_act.specs.Runs.{asked_of, can, call_for, has_room, RunsBy, Runs}
use Rattle.slow_act.specs.declared.Asked.{Asked}

-- what the engine is asked for is the gate
some_is : {x y : Asked} → ◌≡◌ {A = Option Asked} (Some x) (Some y) → x ≡ y
some_is e = cc

pub call_is : (g : Gate) (n : ℕ) (b : Buffers) {a : Asked} → asked_of g ≡ Some a → call_for a n b ≡ call_of n g b
call_is g n b {a} = by g
  where
    same : {x : Asked} → ◌≡◌ {A = Option Asked} (Some x) (Some a) → call_for a n b ≡ call_for x n b
    same e = ap (λ (y : Asked). call_for y n b) (sym (some_is e))

    by : (g : Gate) → asked_of g ≡ Some a → call_for a n b ≡ call_of n g b
    by (H t c) e = same e
    by (X t c) e = same e
    by (Y t c) e = same e
    by (Z t c) e = same e
    by (P t c angle) e = same e
    by (Rx t c angle) e = same e
    by (Ry t c angle) e = same e
    by (Rz t c angle) e = same e
    by (U t c angles) e = same e
    by (Swap t u) e = same e
    by (Measure t f) e = absurd (let z : ◌≡◌ {A = ℕ} 0 1 = cc e in omega arith)
    by (BitFlip t noise) e = same e

-- ---- buffers of the same size

or_same : (x : Bool) → (x || x) ≡ x
or_same true = refl
or_same false = refl

no_more : (size : ℕ) {b out : Buffers} → SameSize b out → (bad_length size b || bad_length size out) ≡ bad_length size b
no_more size {b} {out} s =
    let e : bad_length size out ≡ bad_length size b =
    ap₂ (λ (x y : ℕ). not (eqb x size) || not (eqb y size)) s.reals s.imags in
    ap (λ (x : Bool). bad_length size b || x) e ∙ or_same (bad_length size b)

-- ---- taken or refused

taken_is : (a : Answer) → is_ok a ≡ true → accepts (says a) ≡ true
taken_is (Ok None) h = refl
taken_is (Ok (Some v)) h = refl
taken_is (Err r) h = absurd (let z : ◌≡◌ {A = ℕ} 0 1 = cc h in omega arith)

refused_is : (a : Answer) → is_ok a ≡ false → accepts (says a) ≡ false
refused_is (Ok None) h = absurd (let z : ◌≡◌ {A = ℕ} 0 1 = cc h in omega arith)
refused_is (Ok (Some v)) h = absurd (let z : ◌≡◌ {A = ℕ} 0 1 = cc h in omega arith)
refused_is (Err r) h = refl

-- ---- by what was run

-- what a caller learns
module _ {k : Bool} {o : Outcome} {b b' : Buffers} {r : Option Answer} (w : Runs k o b r b') where
  pub was_run : {a : Answer} → r ≡ Some a → Does o a b'
  was_run {a} e = by k w.is
    where
      by : (k : Bool) → RunsBy k o b r b' → Does o a b'
      by true v = subst (λ (x : Answer). Does o x b') (let same : v.0 ≡ a = cc (e, v.1) in same) v.2
      by false v = absurd (let z : ◌≡◌ {A = ℕ} 0 1 = cc (e, v.0) in omega arith)

  was_not : r ≡ None → b' ≡ b
  was_not e = by k w.is
    where
      by : (k : Bool) → RunsBy k o b r b' → b' ≡ b
      by true v = absurd (let z : ◌≡◌ {A = ℕ} 0 1 = cc (e, v.1) in omega arith)
      by false v = v.1

  -- what was not run is left to a kernel
  pub then_kernel : (n : ℕ) (g : Gate) {a : Answer} {b'' : Buffers} → r ≡ None → Does (act n g b') a b'' → Does (act n g b) a b''
  then_kernel n g {a} {b''} e d = subst (λ (x : Buffers). Does (act n g x) a b'') (was_not e) d

-- a gate that was run into the second state: what was taken is written over the first, and what was refused leaves it
module _ (n : ℕ) (g : Gate) {b out out' : Buffers} {asked : Asked} {a : Answer} (s : SameSize b out) (e : asked_of g ≡ Some asked)
    (d : Does (outcome_of (into_tests n b out) out (call_for asked n b)) a out') where
  into_is : Does (into n g b out) a out'
  into_is = subst (λ (c : Call). Does (outcome_of (into_tests n b out) out c) a out') (call_is g n b e) d

  runs : {b' : Buffers} → Does (act n g b) a b' → Runs (can (asked_of g)) (act n g b) b (Some a) b'
  runs {b'} w = rw e (record { is = (a, refl, w) })

  pub over_taken : {b' : Buffers} → is_ok a ≡ true → b' ≡ out' → Runs (can (asked_of g)) (act n g b) b (Some a) b'
  over_taken h q = runs (subst (Does (act n g b) a) (sym q) (written_over n g b out (no_more (2 ^ n) s) into_is (taken_is a h)))

  pub over_refused : is_ok a ≡ false → Runs (can (asked_of g)) (act n g b) b (Some a) b
  over_refused h = runs (left_alone n g b out (no_more (2 ^ n) s) into_is (refused_is a h))

-- ---- room for the second state

and_no : (x : Bool) → (x && false) ≡ false
and_no true = refl
and_no false = refl

and_yes : (x : Bool) → (x && true) ≡ x
and_yes true = refl
and_yes false = refl

pub part_size : (k : ℕ) (xs : List Float) → length xs ≡ 2048 → k ≤ 2048 → length (take k xs) ≡ k
part_size k xs e l = length-take-le k xs (omega arith)

pub no_room : (k : Bool) {o : Outcome} {b : Buffers} → has_room b ≡ false → Runs (k && has_room b) o b None b
no_room k h = rw (h, and_no k) (record { is = (refl, refl) })

pub with_room : {k : Bool} {o : Outcome} {b b' : Buffers} {r : Option Answer} → length b.reals ≤ 2048 → length b.imags ≤ 2048 → Runs k o b r b'
    → Runs (k && has_room b) o b r b'
with_room {k} l m w = rw (le-leb _ _ l, le-leb _ _ m, and_yes k) w

pub reals_long : (b : Buffers) → 2048 < length b.reals → has_room b ≡ false
reals_long b l = rw (lt-leb _ _ l)

pub imags_long : (b : Buffers) → 2048 < length b.imags → has_room b ≡ false
imags_long b l = rw (lt-leb _ _ l, and_no (leb (length b.reals) 2048))
