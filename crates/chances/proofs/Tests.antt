-- Tests 6 and 7, each from the code's flag and the one that was passed. Assumes nothing.
use mathlib.Core.Bool.{Bool, true, false}
use mathlib.Core.List.{[], ◌∷◌}
use mathlib.Core.Path.{◌≡◌, sym, ◌∙◌}
use lib.Ieee.{Float}
use Rattle.std.specs.Prelude.{Ok, Err}
use Rattle.book.specs.Answers.{◌⇒◌, first}
use Rattle.book.specs.Measuring.{bad_forced, bad_chance}
use Rattle.book.specs.declared.Forced.{Forced}
use Rattle.book.specs.declared.Refusal.TheVariants.{Number, Chance}
use Rattle.seated.specs.Judging.{Ruling, Judges}

module _ (f : Forced) (p : Float) where
  abbrev Own : Ruling → Type 0
  Own r = Judges (bad_forced f ⇒ 6 ∷ bad_chance p ⇒ 7 ∷ []) r

  pub own_number : {x : Bool} → x ≡ bad_forced f → x ≡ true → Own (Err Number)
  unfolding first
  own_number e h = record { is = rw (sym e ∙ h) }

  module _ {x : Bool} (e6 : x ≡ bad_forced f) (h6 : x ≡ false) {y : Bool} (e7 : y ≡ bad_chance p) where
    pub own_chance : y ≡ true → Own (Err Chance)
    unfolding first
    own_chance h = record { is = rw (sym e6 ∙ h6, sym e7 ∙ h) }

    pub own_passed : y ≡ false → Own (Ok tt)
    unfolding first
    own_passed h = record { is = rw (sym e6 ∙ h6, sym e7 ∙ h) }

-- whichever return it is
pub ruleset own = (own_number, own_chance, own_passed)
