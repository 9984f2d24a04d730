-- A gate whose rule undoes itself undoes itself: both places of a pair are chosen or none, so the second turn meets the pairs of the first. SWAP likewise:
-- the index with two bits exchanged, with them exchanged once more, is the index. Assumes nothing.
use Prim.Native.Nat.{ℕ, zero, suc, ◌+◌, ◌-◌, ◌*◌, ◌^◌, ◌<◌}
use mathlib.Core.Bool.{Bool, true, false}
use mathlib.Core.List.{List, [], ◌++◌}
use mathlib.Core.Logic.{⊎_elim}
use mathlib.Core.Path.{◌≡◌, refl, sym, ap, ap₂, ◌∙◌, subst}
use native.Mathlib.Omega.{arith}
use borrow.Author.Tests.{eqb-false, leb-false}
use lib.Bits.{bit_and, and_comm}
use lib.Dec.{eqb, leb}
use lib.ListN.{length}
use Rattle.book.specs.Answers.{Test, first, Buffers, Call, unless, outcome_of}
use Rattle.book.specs.Calls.{any}
use Rattle.book.specs.Gates.{x_rule}
use Rattle.book.specs.Kernels.{bad_length, size_tests, outside, seat_tests, pair_call, exchanged, swap_call, swapped}
use Rattle.book.specs.State.{State, at, held, bit, chosen, Choice, half, choice, pair, place_by, placed, on_pairs}
use Rattle.book.specs.Twice.{XTwice, SwapTwice}
use Rattle.book.specs.declared.Controls.{Controls}
use Rattle.book.specs.declared.Pair.{Pair}
use Rattle.book.proofs.Bits.{bit_lt, halves, bit_up, bit_down, down_up, bit_other, up_lt, and_add}
use Rattle.book.proofs.Lengths.{pairs_fit, swapped_fits}
use Rattle.book.proofs.Refusals.{clear, clear_start, neither, right_lengths, same_sizes}
use Rattle.book.proofs.Tables.{at_held, held_only}

-- ---- both places of a pair are chosen, or none

choice_is : (t : ℕ) (c : Controls) (i : ℕ) {k : Bool} {x : ℕ} → chosen c i ≡ k → bit t i ≡ x → choice t c i ≡ half k x
unfolding choice
choice_is t c i e f = ap₂ half e f

pub chosen_up : (t : ℕ) (c : Controls) → bit t c.ones ≡ 0 → (i : ℕ) → bit t i ≡ 0 → chosen c (i + 2 ^ t) ≡ chosen c i
unfolding chosen
chosen_up t c free i e =
    let m = c.ones in
    let a : bit_and m (i + 2 ^ t) ≡ bit_and m i + 0 * 2 ^ t = subst (λ (x : ℕ). bit_and m (i + 2 ^ t) ≡ bit_and m i + x * 2 ^ t) free (and_add t m i e) in
    let same : bit_and (i + 2 ^ t) m ≡ bit_and i m = omega (arith, and_comm (i + 2 ^ t) m, and_comm i m) in
    ap (λ (x : ℕ). eqb x m) same

-- ---- a rule that undoes itself

module _ (rule : Pair → Pair) (undoes : (p : Pair) → rule (rule p) ≡ p) (n t : ℕ) (c : Controls) (small : t < n) (free : bit t c.ones ≡ 0)
    (b : Buffers) where
  once : State
  once = placed rule t c (at b)

  -- the pair at s0 and s0 + 2 ^ t, once the rule was put to it
  pair_once : (i : ℕ) → i < 2 ^ n → chosen c i ≡ true → bit t i ≡ 0
      → pair (at (held (2 ^ n) once) i) (at (held (2 ^ n) once) (i + 2 ^ t)) ≡ rule (pair (at b i) (at b (i + 2 ^ t)))
  unfolding once placed
  pair_once i l e f =
      let d = 2 ^ t in
      let up : choice t c (i + d) ≡ half true 1 = choice_is t c (i + d) (chosen_up t c free i f ∙ e) (bit_up t i f) in
      let back : i + d - d ≡ i = omega arith in
      ap₂ pair
      (at_held (2 ^ n) once i l ∙ ap (λ (x : Choice). place_by x rule (at b) d i) (choice_is t c i e f))
      (at_held (2 ^ n) once (i + d) (up_lt n t i small l f)
      ∙ ap (λ (x : Choice). place_by x rule (at b) d (i + d)) up
      ∙ ap (λ (j : ℕ). (rule (pair (at b j) (at b (i + d)))).s1) back)

  restored : (i : ℕ) → i < 2 ^ n → at b i ≡ placed rule t c (at (held (2 ^ n) once)) i
  unfolding once placed
  restored i l = by (chosen c i) refl (bit t i) refl
    where
      d : ℕ
      d = 2 ^ t

      twice : State
      twice = at (held (2 ^ n) once)

      by : (k : Bool) → chosen c i ≡ k → (x : ℕ) → bit t i ≡ x → at b i ≡ placed rule t c twice i
      by false e x f =
          let here : choice t c i ≡ Choice.neither = choice_is t c i e f in
          sym
          (ap (λ (y : Choice). place_by y rule twice d i) here
          ∙ at_held (2 ^ n) once i l
          ∙ ap (λ (y : Choice). place_by y rule (at b) d i) here)
      by true e zero f =
          sym
          (ap (λ (y : Choice). place_by y rule twice d i) (choice_is t c i e f)
          ∙ ap (λ (p : Pair). p.s0) (ap rule (pair_once i l e f) ∙ undoes (pair (at b i) (at b (i + d)))))
      by true e (suc x) f =
          let one : bit t i ≡ 1 = omega (arith, bit_lt t i) in
          let j = i - d in
          let up : j + d ≡ i = down_up t i one in
          let low : bit t j ≡ 0 = bit_down t i one in
          let on : chosen c j ≡ true = sym (chosen_up t c free j low) ∙ ap (chosen c) up ∙ e in
          sym
          (ap (λ (y : Choice). place_by y rule twice d i) (choice_is t c i e f)
          ∙ ap (λ (p : Pair). p.s1)
          (ap rule (subst (λ (z : ℕ). pair (twice j) (twice z) ≡ rule (pair (at b j) (at b z))) up (pair_once j (omega arith) on low))
          ∙ undoes (pair (at b j) (at b i))))

  pub pairs_undone : length b.reals ≡ 2 ^ n → length b.imags ≡ 2 ^ n → on_pairs rule n t c (on_pairs rule n t c b) ≡ b
  unfolding on_pairs once
  pairs_undone lr li = sym (held_only (2 ^ n) (placed rule t c (at (held (2 ^ n) once))) b lr li restored)

-- ---- a call that was accepted once is accepted again, and the second time undoes the first

-- what a call does, and what it does twice
abbrev doing : ℕ → (Buffers → Call) → Buffers → Buffers
doing n of b = (outcome_of (size_tests n b) b (of b)).left

abbrev pub Undone : ℕ → (Buffers → Call) → Type 0
Undone n of = (b : Buffers) → doing n of (doing n of b) ≡ b

module _ (n : ℕ) (of : Buffers → Call) (same : (b b' : Buffers) → (of b).tests ≡ (of b').tests) where
  abbrev refusal : Buffers → ℕ
  refusal b = first (size_tests n b ++ (of b).tests)

  -- a refusal looks at the buffers' lengths alone
  same_refusal : (b b' : Buffers) → bad_length (2 ^ n) b ≡ bad_length (2 ^ n) b' → refusal b ≡ refusal b'
  same_refusal b b' e = ap₂ (λ ts us. first (ts ++ us)) (same_sizes n b b' e) (same b b')

  call_undone : (b : Buffers) → (refusal b ≡ 0 → (bad_length (2 ^ n) b ≡ false) × (bad_length (2 ^ n) (of b).left ≡ false) × ((of (of b).left).left ≡ b))
      → doing n of (doing n of b) ≡ b
  call_undone b undoes = by (refusal b) refl
    where
      by : (k : ℕ) → refusal b ≡ k → doing n of (doing n of b) ≡ b
      by (suc k) e =
          let once : doing n of b ≡ b = ap (λ (j : ℕ). (unless j b (of b)).left) e in
          ap (doing n of) once ∙ once
      by zero e =
          let (fits, fits', back) = undoes e in
          let b' = (of b).left in
          let once : doing n of b ≡ b' = ap (λ (j : ℕ). (unless j b (of b)).left) e in
          let again : refusal b' ≡ 0 = same_refusal b' b (fits' ∙ sym fits) ∙ e in
          ap (doing n of) once ∙ ap (λ (j : ℕ). (unless j b' (of b')).left) again ∙ back

-- what an accepted call of a kernel has shown
pub record Accepted (n t : ℕ) (c : Controls) (b : Buffers) : Type 0 where
  pub fits : bad_length (2 ^ n) b ≡ false
  pub small : t < n
  pub free : bit t c.ones ≡ 0

accepted : (rule : Pair → Pair) (most : ℕ) (own : List Test) (n t : ℕ) (c : Controls) (b : Buffers)
    → first (size_tests n b ++ (pair_call rule most own n t c b).tests) ≡ 0 → Accepted n t c b
unfolding size_tests seat_tests
accepted rule most own n t c b e =
    let (sizes, behind) = clear_start (size_tests n b) _ tt e in
    let ((qubit, (other, _)), _) = clear_start (seat_tests most n t c) own tt behind in
    record {
      fits = sizes.1.0;
      small = leb-false n t (neither (leb n t) (outside n c) qubit).0;
      free = let ne : bit t c.ones ≡ 1 → ⊥ = eqb-false (bit t c.ones) 1 other in omega (arith, bit_lt t c.ones, ne);
    }

pub undone : (rule : Pair → Pair) (most : ℕ) (own : List Test) → ((p : Pair) → rule (rule p) ≡ p) → (n t : ℕ) (c : Controls)
    → Undone n (pair_call rule most own n t c)
undone rule most own undoes n t c b =
    call_undone n (pair_call rule most own n t c) (λ _ _. refl) b
    (λ e.
    let ok = accepted rule most own n t c b e in
    let (lr, li) = right_lengths (2 ^ n) b ok.fits in
    (ok.fits, pairs_fit rule n t c b, pairs_undone rule undoes n t c ok.small ok.free b lr li))

pub x_twice : XTwice
x_twice t c n b = undone x_rule any [] (λ p. refl) n t c b

-- ---- SWAP

-- bits that differ, exchanged: the one is cleared and the other set
pub record Exchanged (n t0 t1 i : ℕ) : Type 0 where
  pub within : exchanged t0 t1 i < 2 ^ n
  pub back : exchanged t0 t1 (exchanged t0 t1 i) ≡ i

exchange_comm : (t0 t1 i : ℕ) → exchanged t0 t1 i ≡ exchanged t1 t0 i
exchange_comm t0 t1 i = omega arith

module _ (t0 t1 i : ℕ) (x y : ℕ) (e : bit t0 i ≡ x) (f : bit t1 i ≡ y) where
  exchanged_is : exchanged t0 t1 i ≡ i + y * 2 ^ t0 + x * 2 ^ t1 - (x * 2 ^ t0 + y * 2 ^ t1)
  exchanged_is = rw (e, f)

same_bits : (t0 t1 i x : ℕ) → bit t0 i ≡ x → bit t1 i ≡ x → exchanged t0 t1 i ≡ i
same_bits t0 t1 i x e f = exchanged_is t0 t1 i x x e f ∙ omega arith

moved : (n t0 t1 i : ℕ) → t1 < n → i < 2 ^ n → bit t0 i ≡ 1 → bit t1 i ≡ 0 → Exchanged n t0 t1 i
moved n t0 t1 i q l e f =
    let apart : t1 ≡ t0 → ⊥ = λ s. let z : ◌≡◌ {A = ℕ} 0 1 = sym f ∙ ap (λ (t : ℕ). bit t i) s ∙ e in omega arith in
    let j = i - 2 ^ t0 in
    let up : j + 2 ^ t0 ≡ i = down_up t0 i e in
    let low0 : bit t0 j ≡ 0 = bit_down t0 i e in
    let low1 : bit t1 j ≡ 0 = sym (bit_other t1 t0 j apart low0) ∙ ap (bit t1) up ∙ f in
    let is : exchanged t0 t1 i ≡ j + 2 ^ t1 = exchanged_is t0 t1 i 1 0 e f ∙ omega arith in
    let b0 : bit t0 (j + 2 ^ t1) ≡ 0 = bit_other t0 t1 j (λ s. apart (sym s)) low1 ∙ low0 in
    let b1 : bit t1 (j + 2 ^ t1) ≡ 1 = bit_up t1 j low1 in
    record {
      within = rw is (up_lt n t1 j q (omega arith) low1);
      back = ap (exchanged t0 t1) is ∙ exchanged_is t0 t1 (j + 2 ^ t1) 0 1 b0 b1 ∙ omega arith;
    }

pub exchange : (n t0 t1 i : ℕ) → t0 < n → t1 < n → i < 2 ^ n → Exchanged n t0 t1 i
exchange n t0 t1 i q0 q1 l =
    ⊎_elim
    (λ x. ⊎_elim (same 0 x) (λ y. turned (moved n t1 t0 i q0 l y x)) (halves t1 i))
    (λ x. ⊎_elim (moved n t0 t1 i q1 l x) (same 1 x) (halves t1 i))
    (halves t0 i)
  where
    same : (x : ℕ) → bit t0 i ≡ x → bit t1 i ≡ x → Exchanged n t0 t1 i
    same x e f = let s = same_bits t0 t1 i x e f in record { within = rw s l; back = ap (exchanged t0 t1) s ∙ s }

    turned : Exchanged n t1 t0 i → Exchanged n t0 t1 i
    turned x =
        let c : exchanged t0 t1 i ≡ exchanged t1 t0 i = exchange_comm t0 t1 i in
        record {
          within = rw c x.within;
          back = ap (exchanged t0 t1) c ∙ exchange_comm t0 t1 (exchanged t1 t0 i) ∙ x.back;
        }

swaps_undone : (n t0 t1 : ℕ) (b : Buffers) → t0 < n → t1 < n → length b.reals ≡ 2 ^ n → length b.imags ≡ 2 ^ n
    → swapped n t0 t1 (swapped n t0 t1 b) ≡ b
unfolding swapped
swaps_undone n t0 t1 b q0 q1 lr li =
    let once : State = λ i. at b (exchanged t0 t1 i) in
    sym
    (held_only (2 ^ n) (λ i. at (held (2 ^ n) once) (exchanged t0 t1 i)) b lr li
    (λ i il.
    let x = exchange n t0 t1 i q0 q1 il in
    sym (at_held (2 ^ n) once (exchanged t0 t1 i) x.within ∙ ap (at b) x.back)))

swap_accepted : (n t0 t1 : ℕ) (b : Buffers) → first (size_tests n b ++ (swap_call n t0 t1 b).tests) ≡ 0 → (bad_length (2 ^ n) b ≡ false) × (t0 < n) × (t1 < n)
unfolding size_tests
swap_accepted n t0 t1 b e =
    let (sizes, behind) = clear_start (size_tests n b) _ tt e in
    let (q0, q1) = neither (leb n t0) (leb n t1) (clear (swap_call n t0 t1 b).tests tt behind).0 in
    (sizes.1.0, leb-false n t0 q0, leb-false n t1 q1)

pub swap_twice : SwapTwice
swap_twice t0 t1 n b =
    call_undone n (swap_call n t0 t1) (λ _ _. refl) b
    (λ e.
    let (fits, q0, q1) = swap_accepted n t0 t1 b e in
    let (lr, li) = right_lengths (2 ^ n) b fits in
    (fits, swapped_fits n t0 t1 b, swaps_undone n t0 t1 b q0 q1 lr li))
