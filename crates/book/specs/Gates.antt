-- The rule of each gate on the pair (a,b) at s0 and (c,d) at s1, operation for operation. Definitions only. Assumes nothing.
-- Each sum, difference and product rounds once, in the order written; a minus before a letter is an exact change of sign and binds first.
use Rattle.std.specs.Prelude.{ℕ, List, [], ◌∷◌, Bool, false, not, Float, pos, get_or}
use Rattle.std.specs.List.{list_all}
use Rattle.std.specs.Float.Ieee as Ieee
use Rattle.std.specs.Float.{fin, nan, binary64}
use Rattle.std.specs.Float.Ieee.Scale.{finite}
use Rattle.numbers.specs.Fused as Fused
use Rattle.book.specs.Answers.{Test, ◌⇒◌}
use Rattle.book.specs.State.{amplitude, pair}
use Rattle.book.specs.declared.Amplitude.{Amplitude}
use Rattle.book.specs.declared.Angle.{Angle}
use Rattle.book.specs.declared.Angles.{Angles}
use Rattle.book.specs.declared.Matrix.{Matrix}
use Rattle.book.specs.declared.Noise.{Noise}
use Rattle.book.specs.declared.Pair.{Pair}

-- ---- the operations of f64

abbrev pub ◌⊕◌ : Float → Float → Float
x ⊕ y = Ieee.add binary64 x y

abbrev pub ◌⊖◌ : Float → Float → Float
x ⊖ y = Ieee.sub binary64 x y

abbrev pub ◌⊗◌ : Float → Float → Float
x ⊗ y = Ieee.mul binary64 x y

abbrev pub −◌ : Float → Float
− x = Ieee.neg x

infixl 60 ◌⊕◌
infixl 60 ◌⊖◌
infixl 70 ◌⊗◌
infixl 80 −◌
-- F(x,y,z) is xy+z rounded once
abbrev pub F : Float → Float → Float → Float
F x y z = Fused.fused binary64 x y z

-- 0.0 and 1
abbrev pub nought : Float
nought = fin false 0 (pos 0)

abbrev pub one : Float
one = fin false 1 (pos 0)

-- ---- rules

-- a rule, from (a,b) at s0 and (c,d) at s1
abbrev pub on : (Float → Float → Float → Float → Pair) → Pair → Pair
on rule p = rule p.s0.re p.s0.im p.s1.re p.s1.im

-- s0 = (x,y), s1 = (z,w)
abbrev pub becomes : Float × Float → Float × Float → Pair
becomes xy zw = pair (amplitude xy.0 xy.1) (amplitude zw.0 zw.1)

-- s0, s1 exchanged
abbrev pub x_rule : Pair → Pair
x_rule p = pair p.s1 p.s0

abbrev pub y_rule : Pair → Pair
y_rule = on λ a b c d. becomes (d, − c) (− b, a)

abbrev pub z_rule : Pair → Pair
z_rule = on λ a b c d. becomes (a, b) (− c, − d)

-- the root of one half
abbrev pub h : Float
h = Ieee.of_bits binary64 0x3FE6A09E667F3BCD

abbrev pub h_rule : Pair → Pair
h_rule =
    on λ a b c d.
    let a1 = h ⊗ a in
    let b1 = h ⊗ b in
    let c1 = h ⊗ c in
    let d1 = h ⊗ d in
    becomes (a1 ⊕ c1, b1 ⊕ d1) (a1 ⊖ c1, b1 ⊖ d1)

-- k and s are cosine and sine of the angle
abbrev pub p_rule : Angle → Pair → Pair
p_rule angle =
    let k = angle.cosine in
    let s = angle.sine in
    on λ a b c d. becomes (a, b) (F c k ((− d) ⊗ s), F d k (c ⊗ s))

-- RX, RY, RZ take k and s of the half angle
abbrev pub rx_rule : Angle → Pair → Pair
rx_rule angle =
    let k = angle.cosine in
    let w = − angle.sine in
    on λ a b c d. becomes (a ⊗ k ⊖ d ⊗ w, b ⊗ k ⊕ c ⊗ w) (c ⊗ k ⊖ b ⊗ w, d ⊗ k ⊕ a ⊗ w)

abbrev pub ry_rule : Angle → Pair → Pair
ry_rule angle =
    let k = angle.cosine in
    let s = angle.sine in
    on λ a b c d. becomes (a ⊗ k ⊖ c ⊗ s, b ⊗ k ⊖ d ⊗ s) (a ⊗ s ⊕ c ⊗ k, b ⊗ s ⊕ d ⊗ k)

-- (x,y) with m
abbrev pub turned : Amplitude → Amplitude → Amplitude
turned m z =
    let x = z.re in
    let y = z.im in
    amplitude (F x m.re ((− y) ⊗ m.im)) (F x m.im (y ⊗ m.re))

abbrev pub rz_rule : Angle → Pair → Pair
rz_rule angle p =
    let k = angle.cosine in
    let s = angle.sine in
    pair (turned (amplitude k (− s)) p.s0) (turned (amplitude k s) p.s1)

-- ---- U

abbrev pub matrix : Amplitude → Amplitude → Amplitude → Amplitude → Matrix
matrix e0 e1 e2 e3 = record { entries = e0 ∷ e1 ∷ e2 ∷ e3 ∷ [] }

abbrev pub entry : Matrix → ℕ → Amplitude
entry m k = get_or m.entries k (amplitude nan nan)

-- p; q, r; u, v; e, f: rounded products, made once
abbrev pub u_matrix : Angles → Matrix
u_matrix g =
    let p = g.ct in
    let q = (− g.cl) ⊗ g.st in
    let r = (− g.sl) ⊗ g.st in
    let u = g.cp ⊗ g.st in
    let v = g.sp ⊗ g.st in
    let e = g.cpl ⊗ g.ct in
    let f = g.spl ⊗ g.ct in
    matrix (amplitude p nought) (amplitude q r) (amplitude u v) (amplitude e f)

abbrev pub u_rule : Matrix → Pair → Pair
u_rule m =
    let p = (entry m 0).re in
    let q = (entry m 1).re in
    let r = (entry m 1).im in
    let u = (entry m 2).re in
    let v = (entry m 2).im in
    let e = (entry m 3).re in
    let f = (entry m 3).im in
    on λ a b c d.
    becomes
    (F p a (F q c ((− r) ⊗ d)), F p b (F q d (r ⊗ c)))
    (F u a (F (− v) b (F e c ((− f) ⊗ d))), F u b (F v a (F e d (f ⊗ c))))

-- ---- the numbers that a gate is fed, in 01's order, and test 6

abbrev pub angle_of : Angle → List Float
angle_of angle = angle.cosine ∷ angle.sine ∷ []

abbrev pub angles_of : Angles → List Float
angles_of g = g.ct ∷ g.st ∷ g.cl ∷ g.sl ∷ g.cpl ∷ g.spl ∷ g.cp ∷ g.sp ∷ []

abbrev pub noise_of : Noise → List Float
noise_of noise = noise.prob ∷ noise.draw ∷ []

abbrev pub all_finite : List Float → Bool
all_finite = list_all finite

-- 6: a supplied number is NaN or infinite
abbrev pub finite_tests : List Float → List Test
finite_tests xs = not (all_finite xs) ⇒ 6 ∷ []
