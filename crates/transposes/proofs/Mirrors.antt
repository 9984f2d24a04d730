-- The mirror of a place is within the matrix and its own mirror's mirror; so crossing each place with its mirror once, when the earlier of the two is reached,
-- turns the whole matrix. Assumes nothing.
use Prim.Native.Nat.{ℕ, zero, suc, ◌+◌, ◌*◌, ◌/◌, ◌%◌, ◌≤◌, ◌<◌}
use mathlib.Core.List.{List}
use mathlib.Core.Logic.{◌⊎◌, inl, inr, ⊎_elim}
use mathlib.Core.Path.{◌≡◌, refl, sym, ap, ◌∙◌, subst}
use native.Mathlib.Decide.{dec_lt, ℕ_discrete}
use native.Mathlib.Nat.{mod-lt, div-lt_iff_lt-mul, div-add-mod', zero-mul}
use native.Mathlib.Omega.{arith}
use lib.Arith.{digits_lt, digits_div, digits_mod}
use lib.Ieee.{Float, nan}
use lib.ListN.{length, get_or, set}
use Rattle.book.proofs.Tables.{held_only}
use Rattle.book.specs.Answers.{Buffers, buffers}
use Rattle.book.specs.Matrices.{conjugate}
use Rattle.book.specs.State.{at, held}
use Rattle.book.specs.declared.Amplitude.{Amplitude}
use Rattle.matrices.proofs.Fills.{stored, holds, same_size}
use Rattle.matrices.specs.Filled.{Holds, Filled}
use Rattle.transposes.specs.Mirrored.{mirror, Crossed, TurnedAt, Turned}

pub side_pos : (side place : ℕ) → place < side * side → 0 < side
side_pos zero place l = absurd (let z : zero * zero ≡ 0 = zero-mul zero in omega arith)
side_pos (suc side) place l = omega arith

module _ (side place : ℕ) (l : place < side * side) where
  column_lt : place % side < side
  column_lt = mod-lt place (side_pos side place l)

  row_lt : place / side < side
  row_lt = (div-lt_iff_lt-mul (side_pos side place l)).1 l

  pub mirror_lt : mirror side place < side * side
  unfolding mirror
  mirror_lt = digits_lt column_lt row_lt

  pub mirror_back : mirror side (mirror side place) ≡ place
  unfolding mirror
  mirror_back = rw (digits_mod (place % side) row_lt, digits_div (place % side) row_lt) (div-add-mod' place side)

-- ---- two places crossed

crossed : (i j : ℕ) (b b₁ b₂ : Buffers) {z w x y : Amplitude} → z ≡ at b i → w ≡ at b j → x ≡ conjugate w → y ≡ conjugate z
    → Filled i 1 (λ k. x) b b₁ → Filled j 1 (λ k. y) b₁ b₂ → Crossed i j b b₂
crossed i j b b₁ b₂ {x = x} {y = y} p q r s f g =
    record {
      size = same_size f.size g.size;
      one = by (ℕ_discrete i j);
      other = at_j ∙ s ∙ ap conjugate p;
      others = λ k ni nj. g.others k (side k j nj) ∙ f.others k (side k i ni);
    }
  where
    side : (k m : ℕ) → (k ≡ m → ⊥) → (k < m) ⊎ (m + 1 ≤ k)
    side k m n = go (dec_lt k m)
      where
        go : Dec (k < m) → (k < m) ⊎ (m + 1 ≤ k)
        go (yes l) = inl l
        go (no l) = inr (omega arith)

    at_i : at b₁ i ≡ x
    at_i = subst (λ (k : ℕ). at b₁ k ≡ x) (let e : i + 0 ≡ i = omega arith in e) (f.here 0 (omega arith))

    at_j : at b₂ j ≡ y
    at_j = subst (λ (k : ℕ). at b₂ k ≡ y) (let e : j + 0 ≡ j = omega arith in e) (g.here 0 (omega arith))

    by : Dec (i ≡ j) → at b₂ i ≡ conjugate (at b j)
    by (yes e) = ap (at b₂) e ∙ at_j ∙ s ∙ ap conjugate (p ∙ ap (at b) e)
    by (no n) = g.others i (side i j n) ∙ at_i ∙ r ∙ ap conjugate q

-- the code's four stores
pub crossed_stores : (re im : List Float) (i j : ℕ) → Holds (i + 1) (buffers re im) → Holds (j + 1) (buffers re im)
    → Crossed i j (buffers re im)
    (buffers (set (set re i (get_or re j nan)) j (get_or re i nan))
    (set (set im i (conjugate (at (buffers re im) j)).im) j (conjugate (at (buffers re im) i)).im))
crossed_stores re im i j h k =
    let x = conjugate (at (buffers re im) j) in
    let y = conjugate (at (buffers re im) i) in
    let first = stored re im i x h in
    crossed i j _ _ _ refl refl refl refl first (stored (set re i x.re) (set im i x.im) j y (holds first k))

-- ---- one place more

pub turned_none : (side : ℕ) (b : Buffers) → Turned side 0 b b
turned_none side b =
    record {
      size = record { reals = refl; imags = refl };
      done = λ k l w. absurd (⊎_elim (λ x. omega arith) (λ x. omega arith) w);
      rest = λ k x y. refl;
    }

module _ (side p : ℕ) (l : p < side * side) (b b' b'' : Buffers) (t : Turned side p b b') (w : TurnedAt side p b' b'') where
  abbrev m : ℕ
  m = mirror side p

  -- a place whose mirror is p is p's mirror
  is_mirror : (k : ℕ) → k < side * side → mirror side k ≡ p → k ≡ m
  is_mirror k kl e = sym (mirror_back side k kl) ∙ ap (mirror side) e

  -- the mirror came before: nothing is left to do
  passed : m < p → Turned side (p + 1) b b''
  passed h =
      subst (λ (x : Buffers). Turned side (p + 1) b x) (sym (w.before h))
      (record {
        size = t.size;
        done = λ k kl c. t.done k kl (sooner k kl c (ℕ_discrete k p) (ℕ_discrete (mirror side k) p));
        rest = λ k x y. t.rest k (omega arith) (omega arith);
      })
    where
      sooner : (k : ℕ) → k < side * side → (k < p + 1) ⊎ (mirror side k < p + 1) → Dec (k ≡ p) → Dec (mirror side k ≡ p)
          → (k < p) ⊎ (mirror side k < p)
      sooner k kl c (yes e) d = inr (subst (λ (x : ℕ). mirror side x < p) (sym e) h)
      sooner k kl c (no e) (yes f) = inl (subst (λ (x : ℕ). x < p) (sym (is_mirror k kl f)) h)
      sooner k kl c (no e) (no f) = ⊎_elim (λ x. inl (omega arith)) (λ x. inr (omega arith)) c

  -- p and its mirror are crossed
  here : p ≤ m → Turned side (p + 1) b b''
  here h =
      record {
        size = same_size t.size x.size;
        done = λ k kl c. by k kl c (ℕ_discrete k p) (ℕ_discrete k m);
        rest = λ k y z. x.others k (λ e. omega arith) (λ e. before_mirror k z e) ∙ t.rest k (omega arith) (omega arith);
      }
    where
      x : Crossed p m b' b''
      x = w.now h

      back : mirror side m ≡ p
      back = mirror_back side p l

      before_mirror : (k : ℕ) → p + 1 ≤ mirror side k → k ≡ m → ⊥
      before_mirror k z e = let f : mirror side k ≡ p = ap (mirror side) e ∙ back in omega arith

      untouched_p : at b' p ≡ at b p
      untouched_p = t.rest p (omega arith) h

      untouched_m : at b' m ≡ at b m
      untouched_m = t.rest m h (omega (arith, back))

      by : (k : ℕ) → k < side * side → (k < p + 1) ⊎ (mirror side k < p + 1) → Dec (k ≡ p) → Dec (k ≡ m) → at b'' k ≡ conjugate (at b (mirror side k))
      by k kl c (yes e) d = subst (λ (i : ℕ). at b'' i ≡ conjugate (at b (mirror side i))) (sym e) (x.one ∙ ap conjugate untouched_m)
      by k kl c (no e) (yes f) =
          subst (λ (i : ℕ). at b'' i ≡ conjugate (at b (mirror side i))) (sym f)
          (x.other ∙ ap conjugate (untouched_p ∙ ap (at b) (sym back)))
      by k kl c (no e) (no f) =
          x.others k e f
          ∙ t.done k kl (⊎_elim (λ y. inl (omega arith)) (λ y. inr (let g : mirror side k ≡ p → ⊥ = λ q. f (is_mirror k kl q) in omega arith)) c)

  pub turned_more : Turned side (p + 1) b b''
  turned_more = go (dec_lt m p)
    where
      go : Dec (m < p) → Turned side (p + 1) b b''
      go (yes h) = passed h
      go (no h) = here (omega arith)

-- all places: the buffers are the table
pub turned_whole : (side : ℕ) (b b' : Buffers) → Turned side (side * side) b b' → length b.reals ≡ side * side → length b.imags ≡ side * side
    → b' ≡ held (side * side) (λ k. conjugate (at b (mirror side k)))
turned_whole side b b' t r i =
    held_only (side * side) (λ k. conjugate (at b (mirror side k))) b' (t.size.reals ∙ r) (t.size.imags ∙ i) (λ k l. t.done k l (inl l))

-- a place whose mirror came before it is left alone; another is crossed
pub left_alone : {side place other : ℕ} (b : Buffers) → other ≡ mirror side place → other < place → TurnedAt side place b b
left_alone b e l = record { before = λ h. refl; now = λ h. absurd (omega arith) }

pub turned_at : {side place other : ℕ} (b b' : Buffers) → other ≡ mirror side place → place ≤ other → Crossed place other b b' → TurnedAt side place b b'
turned_at {side} {place} b b' e l x =
    record { before = λ h. absurd (omega arith); now = λ h. subst (λ (m : ℕ). Crossed place m b b') e x }

-- the mirror as the code works it out
pub mirror_is : (side place : ℕ) → place % side * side + place / side ≡ mirror side place
unfolding mirror
mirror_is side place = refl

pub mirror_sum_lt : (side place : ℕ) → place < side * side → place % side * side + place / side < side * side
mirror_sum_lt side place l = rw mirror_is (mirror_lt side place l)
