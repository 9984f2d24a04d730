-- `fused::fused` meets its contract: of ordinary numbers, sides that meet are F, and the rest is left to `terms`; other operands need no rounding of their own.
-- Assumes nothing.
use mathlib.Core.Path.{◌∙◌}
use mathlib.Core.Logic.{inl, inr}
use lib.Ieee.{binary64}
use Rattle.operands.proofs.Floats.{yes, no}
use Rattle.fused.proofs.Special.{special_factor, zero_term, special_term}
use Rattle.fused.proofs.fused.Goals as goal

pub returns-then-not-is_ordinary : goal.returns-then-not-is_ordinary
returns-then-not-is_ordinary c = let a = c.args in
    c.with_one_nan.ensures
    ∙ special_factor binary64 a.x a.y a.z (inl (no c.is_ordinary.ensures c.if-not-is_ordinary.true))

pub returns-then-not-is_ordinary-2 : goal.returns-then-not-is_ordinary-2
returns-then-not-is_ordinary-2 c = let a = c.args in
    c.with_one_nan-then-not-is_ordinary-2.ensures
    ∙ special_factor binary64 a.x a.y a.z (inr (no c.is_ordinary-2.ensures c.if-not-is_ordinary-2.true))

pub returns-then-is_finite : goal.returns-then-is_finite
returns-then-is_finite c = let a = c.args in
    zero_term binary64 a.x a.y a.z (yes c.is_ordinary.ensures c.if-not-is_ordinary.false)
    (yes c.is_ordinary-2.ensures c.if-not-is_ordinary-2.false) (yes c.is_finite.ensures c.if-is_finite.true)
    (no c.is_ordinary-3.ensures c.if-is_ordinary.false)

pub returns : goal.returns
returns c = let a = c.args in
    c.with_one_nan-2.ensures
    ∙ special_term binary64 a.x a.y a.z (yes c.is_ordinary.ensures c.if-not-is_ordinary.false)
    (yes c.is_ordinary-2.ensures c.if-not-is_ordinary-2.false) (no c.is_finite.ensures c.if-is_finite.false)
