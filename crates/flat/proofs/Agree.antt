-- Any two results that putting a record's numbers allows agree. That a record is read from them so is the reader's law. Assumes nothing.
use Prim.Native.Nat.{ℕ}
use mathlib.Core.List.{List}
use mathlib.Core.Path.{◌≡◌, sym, ◌∙◌}
use lib.Ieee.{Float}
use Rattle.book.proofs.Agree.{gives_agree}
use Rattle.std.specs.Prelude.{Result}
use Rattle.book.specs.declared.Record.{Record}
use Rattle.book.specs.declared.Refusal.{Refusal}
use Rattle.flat.specs.Numbers.{Puts}

pub puts_agree : {r : Record} {fs fs₁ fs₂ : List ℕ} {xs xs₁ xs₂ : List Float} {a a' : Result Unit Refusal} → Puts r fs xs a fs₁ xs₁ → Puts r fs xs a' fs₂ xs₂
    → (a ≡ a') × (fs₁ ≡ fs₂) × (xs₁ ≡ xs₂)
puts_agree p q = (gives_agree p.answers q.answers, p.fields ∙ sym q.fields, p.numbers ∙ sym q.numbers)
