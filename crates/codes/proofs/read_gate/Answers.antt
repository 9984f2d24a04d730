-- `codes::read_gate` reads what stands behind 04 by the row that its code has in the table. Assumes nothing.
use mathlib.Core.Path.{◌≡◌, ap, ◌∙◌}
use Rattle.std.specs.Prelude.{Option, Some, None, MatchOption, option_map, IsSomeAnd}
use Rattle.std.proofs.Common.{rules}
use Rattle.book.specs.declared.Gate.TheVariants.{H, X, Y, Z, P, Rx, Ry, Rz}
use Rattle.codes.proofs.read_gate.Goals as goal

-- what `map` by a closure leaves, where the closure gives f
mapped : {A B : Type 0} (f : A → B) (o : Option A) (r : Option B) {Q : A → B → Type 0} → MatchOption o (r ≡ None) (λ x. IsSomeAnd r (Q x))
    → ((x : A) (y : B) → Q x y → y ≡ f x) → r ≡ option_map f o
mapped f (Some x) (Some y) h is = ap Some (is x y h)
mapped f (Some x) None h is = absurd h
mapped f None r h is = h

pub returns-in-1 : goal.returns-in-1
returns-in-1 c = rw c.in-1.is
    (mapped (H c.args.target) c.read_plain.result _ c.map.ensures.cases (λ x y q. search rules)
    ∙ c.read_plain.ensures H c.args.target)

pub returns-in-2 : goal.returns-in-2
returns-in-2 c = rw c.in-2.is
    (mapped (X c.args.target) c.read_plain-in-2.result _ c.map-in-2.ensures.cases (λ x y q. search rules)
    ∙ c.read_plain-in-2.ensures X c.args.target)

pub returns-in-3 : goal.returns-in-3
returns-in-3 c = rw c.in-3.is
    (mapped (Y c.args.target) c.read_plain-in-3.result _ c.map-in-3.ensures.cases (λ x y q. search rules)
    ∙ c.read_plain-in-3.ensures Y c.args.target)

pub returns-in-4 : goal.returns-in-4
returns-in-4 c = rw c.in-4.is
    (mapped (Z c.args.target) c.read_plain-in-4.result _ c.map-in-4.ensures.cases (λ x y q. search rules)
    ∙ c.read_plain-in-4.ensures Z c.args.target)

pub returns-in-5 : goal.returns-in-5
returns-in-5 c = rw c.in-5.is
    (mapped (λ p. P c.args.target p.0 p.1) c.read_angled.result _ c.map-in-5.ensures.cases (λ x y q. search rules)
    ∙ c.read_angled.ensures P c.args.target)

pub returns-in-6 : goal.returns-in-6
returns-in-6 c = rw c.in-6.is
    (mapped (λ p. Rx c.args.target p.0 p.1) c.read_angled-in-6.result _ c.map-in-6.ensures.cases (λ x y q. search rules)
    ∙ c.read_angled-in-6.ensures Rx c.args.target)

pub returns-in-7 : goal.returns-in-7
returns-in-7 c = rw c.in-7.is
    (mapped (λ p. Ry c.args.target p.0 p.1) c.read_angled-in-7.result _ c.map-in-7.ensures.cases (λ x y q. search rules)
    ∙ c.read_angled-in-7.ensures Ry c.args.target)

pub returns-in-8 : goal.returns-in-8
returns-in-8 c = rw c.in-8.is
    (mapped (λ p. Rz c.args.target p.0 p.1) c.read_angled-in-8.result _ c.map-in-8.ensures.cases (λ x y q. search rules)
    ∙ c.read_angled-in-8.ensures Rz c.args.target)
