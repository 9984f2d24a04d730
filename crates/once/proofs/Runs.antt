-- What comes to the book's run is exactly once: by the book's theorem, of the list but for its last delivery and of that one; before any delivery nothing was
-- found. So two results of the same deliveries are the same. Assumes nothing.
use Prim.Native.Nat.{ℕ}
use mathlib.Core.List.{List, [], ◌∷◌, ◌++◌}
use mathlib.Core.Path.{◌≡◌, refl, sym, ap, ◌∙◌, subst}
use Rattle.book.proofs.ExactlyOnce.{exactly_once, fresh_is, unmarked}
use Rattle.book.proofs.Found.{longest_none}
use Rattle.book.specs.Answers.{Buffers}
use Rattle.book.specs.ExactlyOnce.{OneOf, AllOf, seen, Given, Once}
use Rattle.book.specs.Sessions.{Session, fresh, Bench, deliver, deliver_all}
use Rattle.book.specs.declared.Record.{Record}
use Rattle.once.specs.AllOnce.{bench, AllOnce}

-- ---- a list by its last element

last_of : {A : Type 0} (x : A) (xs : List A) → (ys : List A) × (y : A) × (x ∷ xs ≡ ys ++ (y ∷ []))
last_of x [] = ([], x, refl)
last_of {A} x (z ∷ xs) = let (ys, y, e) = last_of z xs in (x ∷ ys, y, ap (λ (l : List A). x ∷ l) e)

all_last : (own : ℕ) (rs : List Record) (ds : List (List ℕ)) (bytes : List ℕ) → AllOf own rs (ds ++ (bytes ∷ [])) → AllOf own rs ds × OneOf own rs bytes
all_last own rs [] bytes w = (tt, w.0)
all_last own rs (d ∷ ds) bytes w = let (all, one) = all_last own rs ds bytes w.1 in ((w.0, all), one)

-- one delivery more at the end
run_last : (x : Bench) (ds : List (List ℕ)) (bytes : List ℕ) → let d = deliver (deliver_all x ds).session (deliver_all x ds).state bytes in
    deliver_all x (ds ++ (bytes ∷ [])) ≡ bench d.next d.left
run_last x [] bytes = refl
run_last x (d ∷ ds) bytes = run_last (bench (deliver x.session x.state d).next (deliver x.session x.state d).left) ds bytes

-- ---- exactly once

module _ {n own : ℕ} {b : Buffers} {rs : List Record} (g : Given n own b rs) where
  abbrev After : List (List ℕ) → Bench → Type 0
  After ds x = Once n b rs (seen ds) x.session x.state

  -- before any delivery
  before_any : After [] (bench (fresh n own) b)
  before_any = record { longest = longest_none rs; state = refl; value = refl; mark = unmarked }

  after_last : (ds : List (List ℕ)) (bytes : List ℕ) → AllOf own rs (ds ++ (bytes ∷ []))
      → After (ds ++ (bytes ∷ [])) (deliver_all (bench (fresh n own) b) (ds ++ (bytes ∷ [])))
  after_last ds bytes w =
      let (all, one) = all_last own rs ds bytes w in
      rw (run_last (bench (fresh n own) b) ds bytes, ← fresh_is g) (exactly_once n own b rs g ds bytes all one)

  after_all : (ds : List (List ℕ)) → AllOf own rs ds → After ds (deliver_all (bench (fresh n own) b) ds)
  after_all [] w = before_any
  after_all (d ∷ ds) w =
      let (start, last, e) = last_of d ds in
      subst (λ (l : List (List ℕ)). After l (deliver_all (bench (fresh n own) b) l)) (sym e) (after_last start last (subst (AllOf own rs) e w))

pub all_once : (s : Session) (b : Buffers) (ds : List (List ℕ)) (s' : Session) (b' : Buffers) → bench s' b' ≡ deliver_all (bench s b) ds → AllOnce s b ds s' b'
all_once s b ds s' b' run =
    record {
      run = search;
      once = λ rs g is all.
          subst (λ (x : Bench). Once s.n b rs (seen ds) x.session x.state)
          (ap (λ (t : Session). deliver_all (bench t b) ds) (sym is) ∙ sym run)
          (after_all g ds all);
    }

pub all_once_agree : {s s₁ s₂ : Session} {b b₁ b₂ : Buffers} {ds : List (List ℕ)} → AllOnce s b ds s₁ b₁ → AllOnce s b ds s₂ b₂ → (s₁ ≡ s₂) × (b₁ ≡ b₂)
all_once_agree x y =
    let same = x.run ∙ sym y.run in
    (ap (λ (z : Bench). z.session) same, ap (λ (z : Bench). z.state) same)
