-- `judging::numbers` meets its contract. Assumes nothing.
use mathlib.Core.Bool.{true, false}
use mathlib.Core.List.{List}
use mathlib.Core.Path.{◌≡◌, sym, ◌∙◌}
use lib.Ieee.{Float}
use Rattle.book.specs.Answers.{first}
use Rattle.book.specs.Gates.{all_finite, finite_tests}
use Rattle.judging.proofs.numbers.Goals as goal

all_fit : (xs : List Float) → all_finite xs ≡ true → 0 ≡ first (finite_tests xs)
unfolding first
all_fit xs e = rw e

one_not : (xs : List Float) → all_finite xs ≡ false → 6 ≡ first (finite_tests xs)
unfolding first
one_not xs e = rw e

pub returns-then-all_finite : goal.returns-then-all_finite
returns-then-all_finite c = record { is = all_fit c.args.fed.now (sym c.all_finite.ensures ∙ c.if-all_finite.true) }

pub returns : goal.returns
returns c = record { is = one_not c.args.fed.now (sym c.all_finite.ensures ∙ c.if-all_finite.false) }
