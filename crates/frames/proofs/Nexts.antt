-- What bytes begin with, test by test; and that more bytes behind them change nothing that was told. Assumes nothing.
use Prim.Native.Nat.{ℕ, ◌+◌, ◌≤◌, ◌<◌}
use native.Mathlib.Omega.{arith}
use mathlib.Core.Bool.{Bool, true, false}
use mathlib.Core.List.{List, ◌++◌}
use mathlib.Core.Path.{◌≡◌, refl, sym, ap, ◌∙◌}
use lib.Dec.{eqb, ltb}
use lib.ListN.{length, take, drop, get_or, length-append, length-drop, get_or-append}
use lib.Seq.{take-append-le, drop-append-le}
use borrow.Author.Tests.{lt-ltb, le-ltb, eq-eqb, ne_eqb, ltb-true, ltb-false, eqb-true, eqb-false}
use Rattle.book.specs.Records.{number, most_bytes}
use Rattle.frames.specs.Frames.{sized, next_of}
use Rattle.frames.specs.declared.Next.{Next}
use Rattle.frames.specs.declared.Next.TheVariants.{Whole, Over, Wrong, More}

-- ---- the tests, one behind the other

-- the length that a frame tells
abbrev pub length_of : List ℕ → ℕ
length_of bs = number (take 2 (drop 1 bs))

module _ (bs : List ℕ) where
  pub next_none : length bs ≡ 0 → next_of bs ≡ More
  unfolding next_of
  next_none e = rw (eq-eqb (length bs) 0 e)

  module _ (some : length bs ≡ 0 → ⊥) where
    pub next_wrong : (get_or bs 0 0 ≡ 0x20 → ⊥) → next_of bs ≡ Wrong
    unfolding next_of
    next_wrong h = rw (ne_eqb (length bs) 0 some, ne_eqb (get_or bs 0 0) 0x20 h)

    module _ (tag : get_or bs 0 0 ≡ 0x20) where
      pub next_short : length bs < 3 → next_of bs ≡ More
      unfolding next_of
      next_short h = rw (ne_eqb (length bs) 0 some, eq-eqb (get_or bs 0 0) 0x20 tag, lt-ltb (length bs) 3 h)

      pub next_sized : 3 ≤ length bs → next_of bs ≡ sized (length bs) (length_of bs)
      unfolding next_of
      next_sized h = rw (ne_eqb (length bs) 0 some, eq-eqb (get_or bs 0 0) 0x20 tag, le-ltb (length bs) 3 h)

-- ---- what each answer tells of the bytes

pub data Told (bs : List ℕ) : Next → Type 0 where
  nothing : length bs ≡ 0 → Told bs More
  wrong : (length bs ≡ 0 → ⊥) → (get_or bs 0 0 ≡ 0x20 → ⊥) → Told bs Wrong
  short : (length bs ≡ 0 → ⊥) → length bs < 3 → Told bs More
  part : 3 ≤ length bs → length_of bs ≤ most_bytes → length bs < 3 + length_of bs → Told bs More
  over : 3 ≤ length bs → get_or bs 0 0 ≡ 0x20 → most_bytes < length_of bs → Told bs (Over (length_of bs))
  whole : 3 + length_of bs ≤ length bs → get_or bs 0 0 ≡ 0x20 → length_of bs ≤ most_bytes → Told bs (Whole (length_of bs))

pub told : (bs : List ℕ) → Told bs (next_of bs)
told bs = at_all (eqb (length bs) 0) refl
  where
    long : 3 ≤ length bs → get_or bs 0 0 ≡ 0x20 → (over : Bool) → ltb most_bytes (length_of bs) ≡ over
        → (part : Bool) → ltb (length bs) (3 + length_of bs) ≡ part
        → Told bs (sized (length bs) (length_of bs))
    long h t true o p e = rw o (over h t (ltb-true most_bytes (length_of bs) o))
    long h t false o true e = rw (o, e) (part h (ltb-false most_bytes (length_of bs) o) (ltb-true (length bs) (3 + length_of bs) e))
    long h t false o false e = rw (o, e) (whole (ltb-false (length bs) (3 + length_of bs) e) t (ltb-false most_bytes (length_of bs) o))

    tagged : (length bs ≡ 0 → ⊥) → get_or bs 0 0 ≡ 0x20 → (few : Bool) → ltb (length bs) 3 ≡ few → Told bs (next_of bs)
    tagged s t true e = rw (next_short bs s t (ltb-true (length bs) 3 e)) (short s (ltb-true (length bs) 3 e))
    tagged s t false e =
        let h = ltb-false (length bs) 3 e in
        rw (next_sized bs s t h) (long h t (ltb most_bytes (length_of bs)) refl (ltb (length bs) (3 + length_of bs)) refl)

    there : (length bs ≡ 0 → ⊥) → (tag : Bool) → eqb (get_or bs 0 0) 0x20 ≡ tag → Told bs (next_of bs)
    there s true e = tagged s (eqb-true (get_or bs 0 0) 0x20 e) (ltb (length bs) 3) refl
    there s false e = rw (next_wrong bs s (eqb-false (get_or bs 0 0) 0x20 e)) (wrong s (eqb-false (get_or bs 0 0) 0x20 e))

    at_all : (empty : Bool) → eqb (length bs) 0 ≡ empty → Told bs (next_of bs)
    at_all true e = rw (next_none bs (eqb-true (length bs) 0 e)) (nothing (eqb-true (length bs) 0 e))
    at_all false e = there (eqb-false (length bs) 0 e) (eqb (get_or bs 0 0) 0x20) refl

-- the same, for a caller who knows the answer
abbrev pub Tells : List ℕ → Next → Type 0
Tells bs (Whole len) = (len ≡ length_of bs) × (3 + len ≤ length bs)
Tells bs (Over len) = len ≡ length_of bs
Tells bs Wrong = Unit
Tells bs More = length bs < 3 + most_bytes

pub tells : (bs : List ℕ) {x : Next} → next_of bs ≡ x → Tells bs x
tells bs e = rw (← e) (by (told bs))
  where
    by : {x : Next} → Told bs x → Tells bs x
    by (nothing e) = omega arith
    by (wrong _ _) = tt
    by (short _ h) = omega arith
    by (part _ l h) = omega arith
    by (over _ _ _) = refl
    by (whole h _ _) = (refl, h)

-- ---- more bytes behind

-- a frame that is begun is not longer than what it tells
abbrev Fits : List ℕ → List ℕ → Next → Type 0
Fits bs ys More = length bs < 3 + length_of (bs ++ ys)
Fits bs ys (Whole len) = Unit
Fits bs ys (Over len) = Unit
Fits bs ys Wrong = Unit

module _ (bs ys : List ℕ) where
  behind_length : length (bs ++ ys) ≡ length bs + length ys
  behind_length = length-append bs ys

  pub same_tag : (length bs ≡ 0 → ⊥) → get_or (bs ++ ys) 0 0 ≡ get_or bs 0 0
  same_tag s = get_or-append bs ys 0 0 (omega arith)

  pub same_length : 3 ≤ length bs → length_of (bs ++ ys) ≡ length_of bs
  same_length h =
      let room : 2 ≤ length (drop 1 bs) = omega (arith, length-drop 1 bs) in
      ap (λ (l : List ℕ). number (take 2 l)) (drop-append-le 1 bs ys (omega arith)) ∙ ap number (take-append-le 2 (drop 1 bs) ys room)

  pub room : next_of bs ≡ More → length bs < 3 + length_of (bs ++ ys)
  room more = let fits : Fits bs ys (next_of bs) = by (told bs) in rw more at fits
    where
      by : {x : Next} → Told bs x → Fits bs ys x
      by (nothing e) = omega arith
      by (short s h) = omega arith
      by (part h l e) = omega (arith, same_length h)
      by (wrong s t) = tt
      by (over h t l) = tt
      by (whole h t l) = tt

  pub wrong_on : (length bs ≡ 0 → ⊥) → (get_or bs 0 0 ≡ 0x20 → ⊥) → next_of (bs ++ ys) ≡ Wrong
  wrong_on s t = next_wrong (bs ++ ys) (λ e. s (omega (arith, behind_length))) (λ e. t (sym (same_tag s) ∙ e))

  sized_on : 3 ≤ length bs → get_or bs 0 0 ≡ 0x20 → next_of (bs ++ ys) ≡ sized (length (bs ++ ys)) (length_of bs)
  sized_on h t =
      let s : length bs ≡ 0 → ⊥ = λ e. omega arith in
      next_sized (bs ++ ys) (λ e. omega (arith, behind_length)) (same_tag s ∙ t) (omega (arith, behind_length))
      ∙ ap (sized (length (bs ++ ys))) (same_length h)

  pub over_on : 3 ≤ length bs → get_or bs 0 0 ≡ 0x20 → most_bytes < length_of bs → next_of (bs ++ ys) ≡ Over (length_of bs)
  over_on h t l = sized_on h t ∙ rw (lt-ltb most_bytes (length_of bs) l)

  pub whole_on : 3 + length_of bs ≤ length bs → get_or bs 0 0 ≡ 0x20 → length_of bs ≤ most_bytes → next_of (bs ++ ys) ≡ Whole (length_of bs)
  whole_on h t l =
      sized_on (omega arith) t
      ∙ rw (le-ltb most_bytes (length_of bs) l, le-ltb (length (bs ++ ys)) (3 + length_of bs) (omega (arith, behind_length)))
