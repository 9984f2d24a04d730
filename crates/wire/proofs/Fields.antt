-- A field that was written is the field that is listed, and bytes at whose start a field is listed are that field and what follows it.
-- The three tests of `starts`, taken together and apart. Assumes nothing.
use Prim.Native.Nat.{ℕ, suc, ◌+◌, ◌*◌, ◌/◌, ◌%◌, ◌<◌, ◌≤◌}
use native.Mathlib.Omega.{arith}
use mathlib.Core.Bool.{Bool, true, false, ◌&&◌, cond}
use mathlib.Core.Path.{◌≡◌, refl, sym, ap, ◌∙◌}
use mathlib.Core.List.{List, [], ◌∷◌, ◌++◌}
use Rattle.std.specs.Prelude.{Option, Some, None}
use lib.Dec.{leb, eqb}
use lib.ListN.{length, get_or, take, drop, length-append, length-drop, take-append-drop}
use lib.Seq.{take-append_seam, drop-append_seam, drop-append-add, length-take-le}
use borrow.Author.Tests.{eq-eqb, le-leb, eqb-true, leb-true}
use Rattle.book.specs.Records.{number, field, starts, listed}
use Rattle.wire.specs.Bytes.{Bytes}
use Rattle.wire.proofs.Numbers.{bytes_drop, bytes_take}

-- ---- there and back

starts_field : (tag : ℕ) (c rest : List ℕ) → starts tag (length c) (field tag c ++ rest) ≡ true
starts_field tag c rest =
    rw (
      eq-eqb tag tag refl,
      eq-eqb (length c / 256 * 256 + (length c % 256 / 1 * 1 + 0)) (length c) (omega arith),
      le-leb (3 + length c) (suc (suc (suc (length (c ++ rest))))) (omega (arith, length-append c rest)),
    )

pub listed_field : {A : Type 0} (tag : ℕ) (c rest : List ℕ) (go : List ℕ → List ℕ → Option A) → listed tag (length c) (field tag c ++ rest) go ≡ go c rest
unfolding listed
listed_field tag c rest go =
    rw (
      starts_field tag c rest,
      take-append_seam c rest,
      drop-append-add (tag ∷ length c / 256 ∷ length c % 256 / 1 ∷ []) (c ++ rest) (length c),
      drop-append_seam c rest,
    )

-- ---- back and there

and_l : (a b : Bool) → a && b ≡ true → a ≡ true
and_l true b e = refl
and_l false b e = e

and_r : (a b : Bool) → a && b ≡ true → b ≡ true
and_r true b e = e
and_r false b e = let z : ◌≡◌ {A = ℕ} 0 1 = cc in absurd (omega arith)

module _ (tag len : ℕ) (bs : List ℕ) (e : starts tag len bs ≡ true) where
  has_tag : get_or bs 0 0 ≡ tag
  has_tag = eqb-true _ _ (and_l (eqb (get_or bs 0 0) tag) (eqb (number (take 2 (drop 1 bs))) len && leb (3 + len) (length bs)) e)

  others : eqb (number (take 2 (drop 1 bs))) len && leb (3 + len) (length bs) ≡ true
  others = and_r (eqb (get_or bs 0 0) tag) (eqb (number (take 2 (drop 1 bs))) len && leb (3 + len) (length bs)) e

  has_length : number (take 2 (drop 1 bs)) ≡ len
  has_length = eqb-true _ _ (and_l (eqb (number (take 2 (drop 1 bs))) len) (leb (3 + len) (length bs)) others)

  pub has_room : 3 + len ≤ length bs
  has_room = leb-true _ _ (and_r (eqb (number (take 2 (drop 1 bs))) len) (leb (3 + len) (length bs)) others)

same_field : (tag t b d len : ℕ) (c rest : List ℕ) → t ≡ tag → b ≡ len / 256 → d ≡ len % 256 / 1 → length c ≡ len
    → t ∷ b ∷ d ∷ (c ++ rest) ≡ field tag c ++ rest
same_field tag t b d len c rest p q r z = cc

starts_whole : (tag len : ℕ) (bs : List ℕ) → Bytes bs → starts tag len bs ≡ true → bs ≡ field tag (take len (drop 3 bs)) ++ drop (3 + len) bs
starts_whole tag len [] h e = absurd (omega (arith, has_room tag len [] e))
starts_whole tag len (t ∷ []) h e = absurd (omega (arith, has_room tag len (t ∷ []) e))
starts_whole tag len (t ∷ b ∷ []) h e = absurd (omega (arith, has_room tag len (t ∷ b ∷ []) e))
starts_whole tag len (t ∷ b ∷ d ∷ xs) h e =
    let bs : List ℕ = t ∷ b ∷ d ∷ xs in
    let room : 3 + len ≤ suc (suc (suc (length xs))) = has_room tag len bs e in
    let size : length (take len xs) ≡ len = length-take-le len xs (omega arith) in
    let given : b * 256 + (d * 1 + 0) ≡ len = has_length tag len bs e in
    let hb : b < 256 = h 1 in
    let hd : d < 256 = h 2 in
    let past : drop (3 + len) bs ≡ drop len xs = drop-append-add (t ∷ b ∷ d ∷ []) xs len in
    ap (λ (l : List ℕ). t ∷ b ∷ d ∷ l) (sym (take-append-drop len xs))
    ∙ same_field tag t b d len (take len xs) (drop len xs) (has_tag tag len bs e) (omega arith) (omega arith) size
    ∙ ap (λ (l : List ℕ). field tag (take len xs) ++ l) (sym past)

-- what is known of a field that was listed, with what follows it
pub record Field (tag len : ℕ) (bs contents rest : List ℕ) : Type 0 where
  pub whole : bs ≡ field tag contents ++ rest
  pub size : length contents ≡ len
  pub within : Bytes contents
  pub after : Bytes rest

starts_is : (tag len : ℕ) (bs : List ℕ) → Bytes bs → starts tag len bs ≡ true → Field tag len bs (take len (drop 3 bs)) (drop (3 + len) bs)
starts_is tag len bs h e =
    record {
      whole = starts_whole tag len bs h e;
      size = length-take-le len (drop 3 bs) (rw length-drop (omega (arith, has_room tag len bs e)));
      within = bytes_take len (drop 3 bs) (bytes_drop 3 bs h);
      after = bytes_drop (3 + len) bs h;
    }

-- a reading that ends well went on from the field that is listed
pub listed_is : {A : Type 0} (tag len : ℕ) (bs : List ℕ) (go : List ℕ → List ℕ → Option A) (a : A) → Bytes bs → listed tag len bs go ≡ Some a
    → (contents rest : List ℕ) × Field tag len bs contents rest × (go contents rest ≡ Some a)
unfolding listed
listed_is {A} tag len bs go a h = by (starts tag len bs) refl
  where
    contents : List ℕ
    contents = take len (drop 3 bs)

    rest : List ℕ
    rest = drop (3 + len) bs

    by : (b : Bool) → starts tag len bs ≡ b → cond b (go contents rest) None ≡ Some a
        → (c r : List ℕ) × Field tag len bs c r × (go c r ≡ Some a)
    by true e q = (contents, rest, starts_is tag len bs h e, q)
    by false e q = let z : ◌≡◌ {A = ℕ} 0 1 = cc in absurd (omega arith)
