-- What a judge finds of a list of tests, and what holds of a call whose seat they let pass. Definitions only. Assumes nothing.
use Rattle.std.specs.Prelude.{ℕ, ◌^◌, ◌≤◌, ◌<◌, List, [], ◌∷◌, ◌≡◌, leb, length, Result, Ok, Err}
use Rattle.book.specs.Answers.{number_of, Test, ◌⇒◌, first, Buffers}
use Rattle.book.specs.State.{bit}
use Rattle.book.specs.declared.Controls.{Controls}
use Rattle.book.specs.declared.Refusal.{Refusal}

-- a judge lets a call pass, or refuses it
abbrev pub Ruling : Type 0
Ruling = Result Unit Refusal

-- a refusal's number, and 0 for none
abbrev pub ruled : Ruling → ℕ
ruled (Ok _) = 0
ruled (Err r) = number_of r

-- the ruling is the first test that applies, and none where none does
pub record Judges (tests : List Test) (ruling : Ruling) : Type 0 where
  pub is : ruled ruling ≡ first tests

-- 3 of a gate that takes no control mask: 4 and 5 cannot happen to it
abbrev pub free_tests : ℕ → ℕ → List Test
free_tests n target = leb n target ⇒ 3 ∷ []

-- what holds of a call that tests 1 to 4 let pass
pub record Seated (n target : ℕ) (controls : Controls) (b : Buffers) : Type 0 where
  pub some : 1 ≤ n
  pub fits : n ≤ 24
  pub reals : length b.reals ≡ 2 ^ n
  pub imags : length b.imags ≡ 2 ^ n
  pub qubit : target < n
  pub inside : controls.ones < 2 ^ n
  pub free : bit target controls.ones ≡ 0
