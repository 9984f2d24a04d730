-- `terms::of_ordinary` meets its contract: an operand that is none is not ordinary, and of three that are F is `multiply_add`'s sum. Assumes nothing.
use mathlib.Core.Path.{sym, ◌∙◌}
use Prim.Native.Nat.{◌*◌, ◌^◌}
use lib.Ieee.{binary64}
use Rattle.numbers.specs.Fused.{fused}
use Rattle.operands.specs.Operands.{ordinary}
use Rattle.terms.proofs.Ordinary.{fused_ordinary, all_three}
use Rattle.terms.proofs.of_ordinary.Goals as goal

pub returns : goal.returns
returns c =
    let x = c.in-Some.a in
    let y = c.in-Some-unpack.b in
    let z = c.in-Some-unpack-2.c in
    let (o, v) = c.in-Some.ensures in
    let (p, w) = c.in-Some-unpack.ensures in
    let (q, u) = c.in-Some-unpack-2.ensures in
    let a = c.args in
    c.multiply_add.ensures
    ∙ sym (fused_ordinary binary64 a.x a.y a.z x.neg y.neg z.neg (x.m * 2 ^ x.e) (y.m * 2 ^ y.e) (z.m * 2 ^ z.e) v w u)
    ∙ sym (all_three (ordinary a.x) (ordinary a.y) (ordinary a.z) (fused binary64 a.x a.y a.z) _ o p q)
