-- How one delivery more changes the longest start found in order: by what is found in a list with one place more at its end. And there is one longest start.
-- Assumes nothing.
use Prim.Native.Nat.{ℕ, zero, suc, ◌+◌, ◌≤◌, ◌<◌}
use native.Mathlib.Omega.{arith}
use native.Mathlib.Numerals.{add-one}
use mathlib.Core.Logic.{◌⊎◌, inl, inr, ⊎_elim}
use mathlib.Core.Path.{◌≡◌, refl, sym, ap, ◌∙◌, subst}
use mathlib.Core.List.{List, [], ◌∷◌, ◌++◌}
use lib.ListN.{length, take, get_or}
use lib.Seq.{length-take-le, take-suc}
use Rattle.book.specs.ExactlyOnce.{FoundIn, done, skip, keep, Longest}

module _ {A : Type 0} where
  found_nil : {xs : List A} → FoundIn xs [] → xs ≡ []
  found_nil done = refl

  -- before any delivery
  pub longest_none : (rs : List A) → Longest 0 rs []
  longest_none rs = record { within = omega arith; found = done; most = λ j h a. omega (arith, length-take-le j rs h, ap length (found_nil a)) }

  found_more : {xs ys : List A} (y : A) → FoundIn xs ys → FoundIn xs (ys ++ (y ∷ []))
  found_more y done = skip done
  found_more y (skip a) = skip (found_more y a)
  found_more y (keep a) = keep (found_more y a)

  found_both : {xs ys : List A} (y : A) → FoundIn xs ys → FoundIn (xs ++ (y ∷ [])) (ys ++ (y ∷ []))
  found_both y done = keep done
  found_both y (skip a) = skip (found_both y a)
  found_both y (keep a) = keep (found_both y a)

  -- what is found among one more was found before, or ends in it
  found_last : (ys : List A) (y : A) (xs : List A) → FoundIn xs (ys ++ (y ∷ [])) → FoundIn xs ys ⊎ ((zs : List A) × (xs ≡ zs ++ (y ∷ [])) × FoundIn zs ys)
  found_last [] y xs (skip a) = inl a
  found_last [] y (_ ∷ xs) (keep done) = inr ([], refl, done)
  found_last (z ∷ ys) y xs (skip a) = ⊎_elim (λ b. inl (skip b)) (λ w. inr (w.0, w.1, skip w.2)) (found_last ys y xs a)
  found_last (z ∷ ys) y (_ ∷ xs) (keep a) =
      ⊎_elim (λ b. inl (keep b)) (λ w. inr (z ∷ w.0, ap (λ (l : List A). z ∷ l) w.1, keep w.2)) (found_last ys y xs a)

  nil_snoc : (zs : List A) (y : A) → [] ≡ zs ++ (y ∷ []) → ⊥
  nil_snoc [] y e = let z : ◌≡◌ {A = ℕ} 0 1 = cc in omega arith
  nil_snoc (x ∷ zs) y e = let z : ◌≡◌ {A = ℕ} 0 1 = cc in omega arith

  snoc_same : (xs zs : List A) (x y : A) → xs ++ (x ∷ []) ≡ zs ++ (y ∷ []) → (xs ≡ zs) × (x ≡ y)
  snoc_same [] [] x y e = (refl, cc e)
  snoc_same [] (z ∷ zs) x y e = absurd (nil_snoc zs y (cc e))
  snoc_same (w ∷ xs) [] x y e = absurd (nil_snoc xs x (cc e))
  snoc_same (w ∷ xs) (z ∷ zs) x y e =
      let r = snoc_same xs zs x y (cc e) in
      let p : w ≡ z = cc e in
      (cc (r.0, p), r.1)

  -- a start that ends in y: it is one place longer than the start before y
  start_last : (j : ℕ) (rs zs : List A) (y : A) → j ≤ length rs → take j rs ≡ zs ++ (y ∷ []) → (i : ℕ) × (j ≡ suc i) × (take i rs ≡ zs) × (get_or rs i y ≡ y)
  start_last zero rs zs y h e = absurd (nil_snoc zs y e)
  start_last (suc i) rs zs y h e = let r = snoc_same (take i rs) zs (get_or rs i y) y (sym (take-suc rs i y h) ∙ e) in (i, refl, r.0, r.1)

  -- what is found among one more has, but for its last place, been found before
  shorter : {k : ℕ} {rs ys : List A} → Longest k rs ys → (i : ℕ) → suc i ≤ length rs → {zs : List A} → take i rs ≡ zs → FoundIn zs ys → i ≤ k
  shorter {ys = ys} l i h e a = l.most i (omega arith) (subst (λ (z : List A). FoundIn z ys) (sym e) a)

  -- y is not the next record: nothing longer is found
  pub longest_same : {k : ℕ} {rs ys : List A} (y : A) → Longest k rs ys → (k < length rs → get_or rs k y ≡ y → ⊥) → Longest k rs (ys ++ (y ∷ []))
  longest_same {k} {rs} {ys} y l other =
      record {
        within = l.within;
        found = found_more y l.found;
        most = λ j h a. ⊎_elim (l.most j h) (λ w. longer j h (start_last j rs w.0 y h w.1) w.2) (found_last ys y (take j rs) a);
      }
    where
      longer : (j : ℕ) → j ≤ length rs → {zs : List A} → (i : ℕ) × (j ≡ suc i) × (take i rs ≡ zs) × (get_or rs i y ≡ y) → FoundIn zs ys → j ≤ k
      longer j h w a =
          let (i, p, q, r) = w in
          let room : suc i ≤ length rs = omega arith in
          let n : (i ≡ k) → ⊥ = λ e. other (omega arith) (subst (λ (m : ℕ). get_or rs m y ≡ y) e r) in
          omega (arith, shorter l i room q a)

  -- y is the next record: one more is found
  pub longest_next : {k : ℕ} {rs ys : List A} (y : A) → Longest k rs ys → k < length rs → take (suc k) rs ≡ take k rs ++ (y ∷ [])
      → Longest (k + 1) rs (ys ++ (y ∷ []))
  longest_next {k} {rs} {ys} y l room e =
      record {
        within = omega arith;
        found = rw (add-one, e) (found_both y l.found);
        most = λ j h a. ⊎_elim (λ b. omega (arith, l.most j h b)) (λ w. longer j h (start_last j rs w.0 y h w.1) w.2) (found_last ys y (take j rs) a);
      }
    where
      longer : (j : ℕ) → j ≤ length rs → {zs : List A} → (i : ℕ) × (j ≡ suc i) × (take i rs ≡ zs) × (get_or rs i y ≡ y) → FoundIn zs ys → j ≤ k + 1
      longer j h w a =
          let (i, p, q, r) = w in
          let room : suc i ≤ length rs = omega arith in
          omega (arith, shorter l i room q a)

  -- there is one longest start
  pub longest_one : {j k : ℕ} {rs ys : List A} → Longest j rs ys → Longest k rs ys → j ≡ k
  longest_one {j} {k} x y = omega (arith, y.most j x.within x.found, x.most k y.within y.found)
