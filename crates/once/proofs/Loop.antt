-- The laws of a loop that delivers part after part of a buffer: what is left, delivered from here, comes to what all comes to from the start. Assumes nothing.
use Prim.Native.Nat.{ℕ, zero, suc, ◌+◌, ◌-◌, ◌≤◌, ◌<◌, min}
use mathlib.Core.List.{List, [], ◌∷◌}
use mathlib.Core.Path.{◌≡◌, refl, sym, ap, ap₂, ◌∙◌}
use native.Mathlib.Numerals.{add-one, unary_clauses}
use lib.ListN.{length, take, drop, get_or, drop_of_length-le}
use lib.Seq.{drop-cons}
use Rattle.book.specs.Answers.{Buffers}
use Rattle.book.specs.Lent.{SameSize}
use Rattle.book.specs.Sessions.{Session, Bench, deliver, deliver_all}
use Rattle.once.specs.AllOnce.{cut, bench, AllOnce}
use Rattle.once.proofs.Runs.{all_once}

-- ---- fewer where fewer are left

take_min : (l : ℕ) (xs : List ℕ) → take (min l (length xs)) xs ≡ take l xs
take_min zero xs = simp unary_clauses
take_min (suc l) [] = simp unary_clauses
take_min (suc l) (x ∷ xs) = simp unary_clauses (ap (λ (ys : List ℕ). x ∷ ys) (take_min l xs))

drop_min : (l : ℕ) (xs : List ℕ) → drop (min l (length xs)) xs ≡ drop l xs
drop_min zero xs = simp unary_clauses
drop_min (suc l) [] = simp unary_clauses
drop_min (suc l) (x ∷ xs) = simp unary_clauses (drop_min l xs)

module _ (rest : List ℕ) (l : ℕ) {size : ℕ} (is : size ≡ min l (length rest)) where
  -- the part that is lent, and what lies behind it
  pub asked : {part : List ℕ} → part ≡ take size rest → part ≡ take l rest
  asked e = e ∙ ap (λ (k : ℕ). take k rest) is ∙ take_min l rest

  pub others : {behind : List ℕ} → behind ≡ drop size rest → behind ≡ drop l rest
  others e = e ∙ ap (λ (k : ℕ). drop k rest) is ∙ drop_min l rest

-- ---- the loop

-- `i` deliveries are made, and `rest` of the bytes is left
pub record Left (bytes lengths : List ℕ) (start : Bench) (rest : List ℕ) (i : ℕ) (here : Bench) : Type 0 where
  pub same : SameSize start.state here.state
  pub run : deliver_all here (cut rest (drop i lengths)) ≡ deliver_all start (cut bytes lengths)

pub begins : (bytes lengths : List ℕ) (x : Bench) → Left bytes lengths x bytes 0 x
begins bytes lengths x = record { same = record { reals = refl; imags = refl }; run = refl }

-- one delivery, of as many bytes as it asks or those that are left: it hands on the session and the buffers of the book's
pub turn : {bytes lengths rest part behind : List ℕ} {start : Bench} {i size : ℕ} {s s' : Session} {b b' : Buffers}
    → Left bytes lengths start rest i (bench s b) → i < length lengths → size ≡ min (get_or lengths i 0) (length rest)
    → part ≡ take size rest → behind ≡ drop size rest
    → s' ≡ (deliver s b part).next → b' ≡ (deliver s b part).left → SameSize b b'
    → Left bytes lengths start behind (i + 1) (bench s' b')
turn {bytes} {lengths} {rest} {part} {behind} {start} {i} {size} {s} {s'} {b} {b'} h room is cut_off left_over next left keeps =
    record {
      same = record { reals = keeps.reals ∙ h.same.reals; imags = keeps.imags ∙ h.same.imags };
      run =
          ap₂ (λ (s : Session) (b : Buffers). deliver_all (bench s b) (cut behind (drop (i + 1) lengths))) next left
          ∙ rw (asked rest (get_or lengths i 0) is cut_off, others rest (get_or lengths i 0) is left_over, add-one)
          (ap (λ (ls : List ℕ). deliver_all (bench s b) (cut rest ls)) (sym (drop-cons lengths i 0 room)))
          ∙ h.run;
    }

pub ends : {bytes lengths rest : List ℕ} {i : ℕ} {s s' : Session} {b b' : Buffers}
    → Left bytes lengths (bench s b) rest i (bench s' b') → length lengths ≤ i → AllOnce s b (cut bytes lengths) s' b'
ends {bytes} {lengths} {rest} {i} {s} {s'} {b} {b'} h past =
    all_once s b (cut bytes lengths) s' b'
    (sym (ap (λ (ls : List ℕ). deliver_all (bench s' b') (cut rest ls)) (drop_of_length-le lengths past)) ∙ h.run)
