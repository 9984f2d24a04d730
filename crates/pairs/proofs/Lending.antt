-- A part of both buffers that was lent and came back: which place of the whole is which place of the part. Assumes nothing.
use Prim.Native.Nat.{ℕ, ◌+◌, ◌-◌, ◌≤◌, ◌<◌}
use mathlib.Core.List.{List, ◌++◌}
use mathlib.Core.Path.{◌≡◌, sym, ap, ap₂, ◌∙◌, subst}
use native.Mathlib.Omega.{arith}
use borrow.Rule.Slice.PartMut.{put_mid}
use lib.Ieee.{nan}
use lib.ListN.{length, get_or, take, drop, length-append, length-drop, get_or-append}
use lib.Seq.{get_or-take, get_or-drop, get_or-append-add, length-take-le}
use Rattle.book.specs.Answers.{Buffers, buffers}
use Rattle.book.specs.Lent.{SameSize}
use Rattle.book.specs.State.{amplitude, at}

-- ---- one list: xs with ys in the place of the k elements from a on
module _ {A : Type 0} (xs ys : List A) (a k : ℕ) (d : A) (fits : a + k ≤ length xs) (part : length ys ≡ k) where
  abbrev rest : List A
  rest = ys ++ drop k (drop a xs)

  front : length (take a xs) ≡ a
  front = length-take-le a xs (omega arith)

  list_before : (i : ℕ) → i < a → get_or (take a xs ++ rest) i d ≡ get_or xs i d
  list_before i h = get_or-append (take a xs) rest d i (omega (arith, front)) ∙ get_or-take a xs i d h

  list_from : (j : ℕ) → get_or (take a xs ++ rest) (a + j) d ≡ get_or rest j d
  list_from j = ap (λ (x : ℕ). get_or (take a xs ++ rest) (x + j) d) (sym front) ∙ get_or-append-add (take a xs) rest j d

  list_inside : (j : ℕ) → j < k → get_or (take a xs ++ rest) (a + j) d ≡ get_or ys j d
  list_inside j h = list_from j ∙ get_or-append ys (drop k (drop a xs)) d j (omega arith)

  list_after : (i : ℕ) → a + k ≤ i → get_or (take a xs ++ rest) i d ≡ get_or xs i d
  list_after i h =
      let j : ℕ = i - a - k in
      let e : a + (k + j) ≡ i = omega arith in
      subst (λ (x : ℕ). get_or (take a xs ++ rest) x d ≡ get_or xs x d) e
      (list_from (k + j) ∙ ap (λ (x : ℕ). get_or rest (x + j) d) (sym part) ∙ get_or-append-add ys (drop k (drop a xs)) j d ∙ get_or-drop k (drop a xs) j d
      ∙ get_or-drop a xs (k + j) d)

  list_length : length (take a xs ++ rest) ≡ length xs
  list_length =
      length-append (take a xs) rest
      ∙ omega (arith, front, length-append ys (drop k (drop a xs)), length-drop k (drop a xs), length-drop a xs)

-- the part of both buffers that is lent, and the whole once it came back as p
abbrev pub lent : ℕ → ℕ → Buffers → Buffers
lent a k b = buffers (take k (drop a b.reals)) (take k (drop a b.imags))

abbrev pub returned : ℕ → ℕ → Buffers → Buffers → Buffers
returned a k b p = buffers (put_mid a k b.reals p.reals) (put_mid a k b.imags p.imags)

module _ (a k : ℕ) (b : Buffers) (reals : a + k ≤ length b.reals) (imags : a + k ≤ length b.imags) where
  pub lent_reals : length (lent a k b).reals ≡ k
  lent_reals = length-take-le k (drop a b.reals) (omega (arith, length-drop a b.reals))

  pub lent_imags : length (lent a k b).imags ≡ k
  lent_imags = length-take-le k (drop a b.imags) (omega (arith, length-drop a b.imags))

  pub lent_place : (j : ℕ) → j < k → at (lent a k b) j ≡ at b (a + j)
  lent_place j h =
      ap₂ amplitude
      (get_or-take k (drop a b.reals) j nan h ∙ get_or-drop a b.reals j nan)
      (get_or-take k (drop a b.imags) j nan h ∙ get_or-drop a b.imags j nan)

  module _ (p : Buffers) (same : SameSize (lent a k b) p) where
    long : length p.reals ≡ k
    long = same.reals ∙ lent_reals

    long' : length p.imags ≡ k
    long' = same.imags ∙ lent_imags

    pub back_same : SameSize b (returned a k b p)
    back_same =
        record { reals = list_length b.reals p.reals a k nan reals long; imags = list_length b.imags p.imags a k nan imags long' }

    pub back_inside : (j : ℕ) → j < k → at (returned a k b p) (a + j) ≡ at p j
    back_inside j h = ap₂ amplitude (list_inside b.reals p.reals a k nan reals long j h) (list_inside b.imags p.imags a k nan imags long' j h)

    pub back_before : (i : ℕ) → i < a → at (returned a k b p) i ≡ at b i
    back_before i h = ap₂ amplitude (list_before b.reals p.reals a k nan reals long i h) (list_before b.imags p.imags a k nan imags long' i h)

    pub back_after : (i : ℕ) → a + k ≤ i → at (returned a k b p) i ≡ at b i
    back_after i h = ap₂ amplitude (list_after b.reals p.reals a k nan reals long i h) (list_after b.imags p.imags a k nan imags long' i h)
