-- `rounding::pack_near` meets its contract: rounding by way of the quarters, which are rounded to odd, is rounding once. Assumes nothing.
use mathlib.Core.Path.{◌≡◌, sym, ap, ◌∙◌, subst}
use Prim.Native.Nat.{ℕ, suc, ◌+◌, ◌-◌, ◌*◌, ◌/◌, ◌%◌, ◌^◌, ◌≤◌, ◌<◌, compare}
use native.Mathlib.Nat.{pow-succ'}
use native.Mathlib.Numerals.{add-one}
use native.Mathlib.Omega.{arith}
use lib.Ieee.{Format, binary64, prec, emax, low, hid, size, units}
use lib.Ieee.Digits.{size-le}
use lib.Ieee.Fits.{nearest-le, two}
use lib.Ieee.Nearest.{closest, nearest-ge}
use Rattle.numbers.proofs.Sizes.{size_shl}
use Rattle.rounding.specs.Odd.{cut_to_odd}
use Rattle.rounding.specs.Working.{below, Kept}
use Rattle.rounding.proofs.RoundToOdd.{cut_lt, cut_ge, round_cut}
use Rattle.rounding.proofs.pack_near.Goals as goal

-- the quarters have prec + 2 digits, or fewer where none are dropped
few : (f : Format) (n k : ℕ) → k ≡ size n - (below f + prec f) → cut_to_odd n (below f - 2 + k) < 2 ^ suc (prec f + 1)
few f n k e = cut_lt n (below f - 2 + k) (prec f + 1) (room (size n) k (low f) (prec f) e)
  where
    room : (z k l p : ℕ) → k ≡ z - (l + 16 + p) → z ≤ suc (p + 1) + (l + 16 - 2 + k)
    room z k l p h = omega arith

kept : (f : Format) (n k : ℕ) → k ≡ size n - (below f + prec f) → k < 4 * emax f → Kept f (closest (cut_to_odd n (below f - 2 + k)) 4) k
kept f n k e l =
    let t = cut_to_odd n (below f - 2 + k) in
    let up : closest t 4 ≤ suc (t / 4) = nearest-le (t / 4) (compare (t % 4 * 2) 4) in
    let lo : t / 4 ≤ closest t 4 = nearest-ge (t / 4) (compare (t % 4 * 2) 4) in
    record {
      most = most t (closest t 4) up (few f n k e);
      full = λ h. full t (closest t 4) lo
          (cut_ge n (below f - 2 + k) (prec f) (room (size n) k (low f) (prec f) e h));
      near = l;
    }
  where
    quarters : (p : ℕ) → 2 ^ suc (suc p) ≡ 4 * 2 ^ p
    quarters p = pow-succ' 2 (suc p) ∙ ap (λ (y : ℕ). 2 * y) (pow-succ' 2 p) ∙ two_two (2 ^ p)
      where
        two_two : (x : ℕ) → 2 * (2 * x) ≡ 4 * x
        two_two x = omega arith

    most : (t q : ℕ) → q ≤ suc (t / 4) → t < 2 ^ suc (prec f + 1) → q ≤ 2 ^ prec f
    most t q a b = go (2 ^ prec f) (subst (λ (y : ℕ). t < y) (ap (λ (y : ℕ). 2 ^ suc y) (add-one (prec f)) ∙ quarters (prec f)) b)
      where
        go : (P : ℕ) → t < 4 * P → q ≤ P
        go P h = omega arith

    full : (t q : ℕ) → t / 4 ≤ q → 2 ^ suc (prec f) ≤ t → hid f ≤ q
    full t q a b = go (hid f) (subst (λ (y : ℕ). y ≤ t) (ap (λ (y : ℕ). 2 ^ suc y) (pred (prec f) (two f)) ∙ quarters (prec f - 1)) b)
      where
        pred : (p : ℕ) → 2 ≤ p → p ≡ suc (p - 1)
        pred p h = omega arith

        go : (H : ℕ) → 4 * H ≤ t → H ≤ q
        go H h = omega arith

    room : (z k l p : ℕ) → k ≡ z - (l + 16 + p) → 0 < k → suc p + (l + 16 - 2 + k) < z
    room z k l p e h = omega arith

pub quarter-requires : goal.quarter-requires
quarter-requires c = let a = c.args in
    let k = c.dropped-k in
    let z = size_shl a.s a.e c.requires.0 in
    let l = few binary64 (a.s * 2 ^ a.e) k.result (omega (arith, k.ensures)) in
    omega (arith, c.quarters-t.ensures)

pub assemble-requires : goal.assemble-requires
assemble-requires c = let a = c.args in
    let k = c.dropped-k in
    let z = size_shl a.s a.e c.requires.0 in
    subst (λ (q : ℕ). Kept binary64 q k.result) (sym (c.quarter.ensures ∙ ap (λ (t : ℕ). closest t 4) c.quarters-t.ensures))
    (kept binary64 (a.s * 2 ^ a.e) k.result (omega (arith, k.ensures)) (omega (arith, k.ensures, size-le a.s 64 (omega arith))))

pub returns : goal.returns
returns c = let a = c.args in
    let k = c.dropped-k in
    let z = size_shl a.s a.e c.requires.0 in
    c.assemble.ensures
    ∙ ap (λ (q : ℕ). units binary64 a.neg q k.result) (c.quarter.ensures ∙ ap (λ (t : ℕ). closest t 4) c.quarters-t.ensures)
    ∙ sym (round_cut binary64 a.neg (a.s * 2 ^ a.e) (below binary64 - 2) k.result (omega (arith, k.ensures)))
