-- What a value of Rule names: the rule of the book, how many controls its gate takes, and the gate's own tests. Definitions only. Assumes nothing.
use Rattle.std.specs.Prelude.{ℕ, List, []}
use Rattle.book.specs.Answers.{Test}
use Rattle.book.specs.Calls.{any}
use Rattle.book.specs.Gates.{angle_of, angles_of, finite_tests, x_rule, y_rule, z_rule, h_rule, p_rule, rx_rule, ry_rule, rz_rule, u_matrix, u_rule}
use Rattle.book.specs.declared.Pair.{Pair}
use Rattle.slow_rules.specs.declared.Rule.{Rule}
use Rattle.slow_rules.specs.declared.Rule.TheVariants.{H, X, Y, Z, P, Rx, Ry, Rz, U}

abbrev pub rule_of : Rule → Pair → Pair
rule_of H = h_rule
rule_of X = x_rule
rule_of Y = y_rule
rule_of Z = z_rule
rule_of (P angle) = p_rule angle
rule_of (Rx angle) = rx_rule angle
rule_of (Ry angle) = ry_rule angle
rule_of (Rz angle) = rz_rule angle
rule_of (U angles) = u_rule (u_matrix angles)

abbrev pub most_of : Rule → ℕ
most_of H = 1
most_of X = any
most_of Y = 1
most_of Z = 0
most_of (P angle) = any
most_of (Rx angle) = any
most_of (Ry angle) = any
most_of (Rz angle) = 1
most_of (U angles) = 1

abbrev pub own_of : Rule → List Test
own_of H = []
own_of X = []
own_of Y = []
own_of Z = []
own_of (P angle) = finite_tests (angle_of angle)
own_of (Rx angle) = finite_tests (angle_of angle)
own_of (Ry angle) = finite_tests (angle_of angle)
own_of (Rz angle) = finite_tests (angle_of angle)
own_of (U angles) = finite_tests (angles_of angles)
