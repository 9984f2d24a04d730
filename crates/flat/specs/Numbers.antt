-- A record as six whole numbers and eight floats. Definitions only. Assumes nothing.
use Rattle.std.specs.Prelude.{ℕ, Bool, cond, ◌||◌, List, [], ◌∷◌, ◌++◌, ◌≡◌, ltb, Float, length, drop, Result}
use Rattle.book.specs.Answers.{gives, denied, gives_of}
use Rattle.book.specs.Gates.{nought, angles_of}
use Rattle.book.specs.Records.{parts_of}
use Rattle.book.specs.declared.Angles.{Angles}
use Rattle.book.specs.declared.Record.{Record}
use Rattle.book.specs.declared.Refusal.{Refusal}
use Rattle.book.specs.declared.Shape.{Shape}
use Rattle.book.specs.declared.Shape.TheVariants.{Plain, Angled, Eight, Second, Forced, Noisy}
use Rattle.flat.specs.declared.Flat.{Flat}

-- ---- a record's numbers

-- U's eight numbers; another gate's stand in the first places, and +0.0 in the rest
abbrev pub two : Float → Float → Angles
two x y =
    record { ct = x; st = y; cl = nought; sl = nought; cpl = nought; spl = nought; cp = nought; sp = nought }

abbrev pub laid : ℕ → ℕ → Angles → Flat
laid other reset numbers = record { second = other; reset = reset; numbers = numbers }

abbrev pub flat_of : Shape → Flat
flat_of (Plain c) = laid c.ones 0 (two nought nought)
flat_of (Angled c a) = laid c.ones 0 (two a.cosine a.sine)
flat_of (Eight c g) = laid c.ones 0 g
flat_of (Second u) = laid u 0 (two nought nought)
flat_of (Forced f) = laid f.outcome f.reset (two nought nought)
flat_of (Noisy n) = laid 0 0 (two n.prob n.draw)

-- session, number, code, target, second, reset
abbrev pub flat_fields : Record → List ℕ
flat_fields r =
    let p = parts_of r.gate in
    let f = flat_of p.shape in
    r.session ∷ r.number ∷ p.code ∷ p.target ∷ f.second ∷ f.reset ∷ []

abbrev pub flat_numbers : Record → List Float
flat_numbers r = angles_of (flat_of (parts_of r.gate).shape).numbers

-- a list with its first places written over
abbrev pub over : {A : Type 0} → List A → List A → List A
over new old = new ++ drop (length new) old

-- fewer than six fields, or fewer than eight numbers
unfoldable pub too_few : List ℕ → List Float → Bool
too_few fs xs = ltb (length fs) 6 || ltb (length xs) 8

-- A record's numbers put into lent places: refusal 12 where there are too few, and then nothing changes.
pub record Puts (r : Record) (fs : List ℕ) (xs : List Float) (answer : Result Unit Refusal) (fs' : List ℕ) (xs' : List Float) : Type 0 where
  pub answers : gives_of answer ≡ cond (too_few fs xs) (denied 12) (gives tt)
  pub fields : fs' ≡ cond (too_few fs xs) fs (over (flat_fields r) fs)
  pub numbers : xs' ≡ cond (too_few fs xs) xs (over (flat_numbers r) xs)
