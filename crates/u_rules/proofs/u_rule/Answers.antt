-- `u_rules::u_rule` meets its contract: the ten values of F, each within the next. Where the numbers are 2 at most in size, a term is 4 at most, and what
-- stands behind one F or two is 16 at most, so sides that meet are F. 01 has the matrix's number first, the short way has it second. Assumes nothing.
use Prim.Native.Nat.{ℕ, suc, ◌+◌, ◌≤◌}
use mathlib.Core.Path.{◌≡◌, refl, ap, ap₂, ◌∙◌}
use native.Mathlib.Omega.{arith}
use lib.Ieee.{Float, binary64, neg, mul}
use Rattle.exact.specs.Window.{reach}
use Rattle.exact.specs.Steps.{Under}
use Rattle.short.specs.Steps.{Meet}
use Rattle.short.specs.declared.Sides.{Sides}
use Rattle.short.proofs.Unders.{under_more, under_neg, under_mul, under_fused}
use Rattle.abreast.proofs.Swapped.{swapped}
use Rattle.abreast.proofs.Terms.{Around}
use Rattle.book.specs.Gates.{F}
use Rattle.book.specs.State.{amplitude, pair}
use Rattle.u_rules.proofs.u_rule.Goals as goal

-- ---- how large a term is: 2 ^ j at most, and one F more, 2 ^ (1 + j)
abbrev Most : ℕ → Float → Type 0
Most = Under binary64

-- z is 01's w, and not large
abbrev Term : ℕ → Float → Float → Type 0
Term j z w = (z ≡ w) × Most j z

product : (x y : Float) → Most 1 x → Most 1 y → Term 2 (mul binary64 x y) (mul binary64 x y)
product x y u v = (refl, under_mul binary64 1 1 x y (omega arith) u v)

product_neg : (x y : Float) → Most 1 x → Most 1 y → Term 2 (mul binary64 (neg x) y) (mul binary64 (neg x) y)
product_neg x y u = product (neg x) y (under_neg binary64 1 x u)

-- sides that meet around F(x,k,z)
module _ (j : ℕ) (x k : Float) (r : Sides) {z w : Float} (around : Around r x k z) (met : Meet r) (term : Term (1 + j) z w) where
  is : j ≤ 3 → r.left ≡ F x k z
  is l = around met (under_more binary64 (1 + j) (reach binary64) z (omega arith) term.1)

  within : j ≤ 3 → r.left ≡ F k x w
  within l = is l ∙ swapped binary64 x k z ∙ ap (F k x) term.0

  behind : (1 ≤ j) × (j ≤ 2) → Most 1 x → Most 1 k → Term (suc (1 + j)) r.left (F k x w)
  behind l u v = (
    within (omega arith),
    rw (is (omega arith)) (under_fused binary64 1 j x k z (omega arith) u (under_more binary64 1 j k (omega arith) v) term.1),
  )

pub returns-then-all_meet-3 : goal.returns-then-all_meet-3
returns-then-all_meet-3 c =
    let small = c.all_modest.ensures c.if-all_modest.true in
    let h = c.args.gate.split c.if-h.true in
    let m = c.all_meet.ensures c.if-all_meet.true in
    let n = c.all_meet-then-all_meet.ensures c.if-all_meet-2.true in
    let o = c.all_meet-then-all_meet-2.ensures c.if-all_meet-3.true in
    let q0' = behind 1 _ _ _ c.from_both_sides-q0.ensures m.0 (product_neg _ _ h.r_most small.3.under) (omega arith) small.1.under h.q_most in
    let q1' = behind 1 _ _ _ c.from_both_sides-q1.ensures m.1 (product _ _ h.r_most small.1.under) (omega arith) small.3.under h.q_most in
    let e0' = behind 1 _ _ _ c.from_both_sides-e0.ensures m.2 (product_neg _ _ h.f_most small.3.under) (omega arith) small.1.under h.e_most in
    let e1' = behind 1 _ _ _ c.from_both_sides-e1.ensures m.3 (product _ _ h.f_most small.1.under) (omega arith) small.3.under h.e_most in
    let v0' = behind 2 _ _ _ c.from_both_sides-v0.ensures n.2 e0' (omega arith) small.2.under (under_neg binary64 1 _ h.v_most) in
    let v1' = behind 2 _ _ _ c.from_both_sides-v1.ensures n.3 e1' (omega arith) small.0.under h.v_most in
    rw c.lefts.ensures (ap₂ pair
    (ap₂ amplitude (within 2 _ _ _ c.from_both_sides-re0.ensures n.0 q0' (omega arith))
    (within 2 _ _ _ c.from_both_sides-im0.ensures n.1 q1' (omega arith)))
    (ap₂ amplitude (within 3 _ _ _ c.from_both_sides-re1.ensures o.0 v0' (omega arith))
    (within 3 _ _ _ c.from_both_sides-im1.ensures o.2 v1' (omega arith))))
