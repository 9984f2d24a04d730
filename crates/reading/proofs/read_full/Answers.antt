use Rattle.std.proofs.Common.{◌≡◌, ℕ, ◌+◌, ◌-◌, ◌<◌, ◌≤◌, List, ◌++◌, rules, arith, length, take}
use Rattle.std.proofs.Common.{slice_range, sym, ap, ◌∙◌, subst, le_refl, drop_at, length-take-le, Result, Ok, Err, OnErr}
use Rattle.std.proofs.lemmas.Slice.{take-put_mid_below}
use Rattle.std.specs.Io.KnownBytes.{Consumes, Keeps}
use Rattle.std.proofs.KnownBytes.{Consumes-nil, Consumes-trans, Consumes-kept}
use borrow.Rule.Slice.PartMut.{put_mid, post_of}
use lib.Seq.{take-add, take-append-le}
use Rattle.std.specs.declared.option.Option.{Option}
use Rattle.reading.proofs.read_full.Goals as goal

take_split : (a n : ℕ) (old new : List ℕ) → take a new ≡ take a old → take a old ++ slice_range new a (a + n) ≡ take (a + n) new
take_split a n old new front =
    let same : a + ((a + n) - a) ≡ a + n = omega arith in
    ap (λ l. l ++ slice_range new a (a + n)) (sym front) ∙ sym (take-add a ((a + n) - a) new) ∙ ap (λ m. take m new) same

slice_range-put_mid : (a k n : ℕ) (xs ys : List ℕ) → a ≤ length xs → n ≤ length ys → slice_range (put_mid a k xs ys) a (a + n) ≡ take n ys
slice_range-put_mid a k n xs ys within fits =
    let same : (a + n) - a ≡ n = omega arith in
    let after = post_of a k xs in
    ap (take ((a + n) - a)) (drop_at (take a xs) (ys ++ after) a (length-take-le a xs within))
    ∙ ap (λ m. take m (ys ++ after)) same
    ∙ take-append-le n ys after fits

-- what was read into the part stands behind what was there
more : (a b c : Option (List ℕ)) (at k n : ℕ) (xs ys : List ℕ) → at ≤ length xs → n ≤ length ys → Consumes a b (take at xs) → Consumes b c (take n ys)
    → Consumes a c (take (at + n) (put_mid at k xs ys))
more a b c at k n xs ys within fits before read =
    let part = slice_range-put_mid at k n xs ys within fits in
    let joined = take_split at n xs (put_mid at k xs ys) (take-put_mid_below _ _ _ _ _ (le_refl _) within) in
    subst (Consumes a c) (ap (λ l. take at xs ++ l) (sym part) ∙ joined) (Consumes-trans a b c _ _ before read)

-- nothing was read into the part, since the input is at its end
none : (a b c : Option (List ℕ)) (at k n : ℕ) (xs ys : List ℕ) → n ≡ 0 → at ≤ length xs → n ≤ length ys → Consumes a b (take at xs) → Consumes b c (take n ys)
    → Consumes a c (take at (put_mid at k xs ys))
none a b c at k n xs ys zero within fits before read =
    let same : at + n ≡ at = omega (arith, zero) in
    subst (λ m. Consumes a c (take m (put_mid at k xs ys))) same (more a b c at k n xs ys within fits before read)

-- nothing was read into the part, since the read failed
kept : (a b c : Option (List ℕ)) (at k : ℕ) (xs ys : List ℕ) → at ≤ length xs → Consumes a b (take at xs) → Keeps b c
    → Consumes a c (take at (put_mid at k xs ys))
kept a b c at k xs ys within before keeps = subst (Consumes a c) (sym (take-put_mid_below _ _ _ _ _ (le_refl _) within)) (Consumes-kept a b c _ before keeps)

on_err : {A E : Type 0} (r : Result A E) (a b : Option (List ℕ)) (n : ℕ) (xs : List ℕ) → n < length xs → Consumes a b (take n xs)
    → OnErr r ((m : ℕ) × (m < length xs) × Consumes a b (take m xs))
on_err (Ok x) a b n xs some read = tt
on_err (Err e) a b n xs some read = (n, some, read)

pub loop-done-init : goal.loop-done-init
loop-done-init g c = (search rules, search rules, Consumes-nil _)

pub loop-done-preserved : goal.loop-done-preserved
loop-done-preserved g c =
    let before = c.loop-done.invariant in
    let read = c.in_ok-n.ensures in
    (search rules, search rules, more _ _ _ c.loop-done.done _ c.in_ok-n.n c.loop-done.buf c.read.new.buf before.1 read.bound.0 before.2 read.bytes.0)

pub returns-in_err-n-clause-err : goal.returns-in_err-n-clause-err
returns-in_err-n-clause-err g c =
    let before = c.loop-done.invariant in
    on_err _ _ _ _ _ (search rules) (kept _ _ _ c.loop-done.done _ c.loop-done.buf c.read.new.buf before.1 before.2 c.in_err-n.ensures.bytes)

pub returns-then-n-eq0-clause-bytes : goal.returns-then-n-eq0-clause-bytes
returns-then-n-eq0-clause-bytes g c =
    let before = c.loop-done.invariant in
    let read = c.in_ok-n.ensures in
    none _ _ _ c.loop-done.done _ c.in_ok-n.n c.loop-done.buf c.read.new.buf c.if-n-eq0.true before.1 read.bound.0 before.2 read.bytes.0
