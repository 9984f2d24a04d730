-- What a call gave or denied tells what it was made of: by the two cases of the option behind it. Assumes nothing.
use Prim.Native.Nat.{ℕ}
use Rattle.std.specs.Prelude.{Option, Some, None}
use mathlib.Core.Path.{◌≡◌, refl}
use native.Mathlib.Omega.{arith}
use Rattle.book.specs.Answers.{gives, denied, or_denied}

module _ {A : Type 0} (k : ℕ) where
  pub gives_is : {a : A} (o : Option A) → gives a ≡ or_denied k o → o ≡ Some a
  gives_is (Some b) e = cc
  gives_is None e = let z : ◌≡◌ {A = ℕ} 0 1 = cc in absurd (omega arith)

  pub denied_is : {x : ℕ} (o : Option A) → denied x ≡ or_denied k o → (o ≡ None) × (x ≡ k)
  denied_is (Some b) e = let z : ◌≡◌ {A = ℕ} 0 1 = cc in absurd (omega arith)
  denied_is None e = (refl, cc)
