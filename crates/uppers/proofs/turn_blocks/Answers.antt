-- `uppers::turn_blocks` meets its contract, by the law of the blocks. Assumes nothing.
use Prim.Native.Nat.{ℕ, ◌+◌, ◌-◌, ◌%◌, ◌^◌, ◌≤◌, ◌<◌}
use mathlib.Core.Path.{◌≡◌, ◌∙◌}
use native.Mathlib.Nat.{mod-le}
use native.Mathlib.Omega.{arith}
use lib.ListN.{length, length-take, length-drop}
use lib.Pow.{pow_pos}
use Rattle.book.specs.Answers.{Buffers}
use Rattle.book.specs.declared.Amplitude.{Amplitude}
use Rattle.seated.proofs.Shifts.{shl, shl_is, pow_le}
use Rattle.pairs.proofs.Bits.{or_ge}
use Rattle.pairs.proofs.Halves.{blocks_room, blocks_end}
use Rattle.uppers.specs.Uppers.{Blocked}
use Rattle.uppers.proofs.Skips.{Among, among_start, among_step, among_reach, back_le, under_le}
use Rattle.uppers.proofs.turn_blocks.Goals as goal

bit_is : {n t fixed back : ℕ} {b : Buffers} → Blocked n t fixed back b → shl t ≡ 2 ^ t
bit_is {t = t} ok = shl_is t (omega (arith, ok.qubit, ok.fits))

-- the numbers of a turn: the half begins at the base, key - over, and is bit places long
record Turn (n t key over : ℕ) (b : Buffers) : Type 0 where
  is : shl t ≡ 2 ^ t
  inside : key - over < 2 ^ n
  room : key - over + shl t + shl t ≤ 2 ^ n
  some : 0 < shl t
  small : 2 ^ n ≤ 2 ^ 24
  reals : length b.reals ≡ 2 ^ n
  imags : length b.imags ≡ 2 ^ n
  reach : over ≤ key
  back : over < 2 ^ n

turn : {fixed back : ℕ} {upper : Amplitude → Amplitude} {n t key : ℕ} {b₀ b : Buffers} → Blocked n t fixed back b₀
    → Among fixed back upper n t (shl t) b₀ key b → key - (back - back % shl t) < shl n → Turn n t key (back - back % shl t) b
turn {fixed} {back} {upper} {n} {t} {key} {b₀} {b} ok among less =
    let is : shl t ≡ 2 ^ t = bit_is ok in
    let inside : key - (back - back % shl t) < 2 ^ n = omega (arith, less, shl_is n ok.fits) in
    record {
      is = is;
      inside = inside;
      room = omega (arith, is, blocks_room _ _ _ ok.qubit _ among.blocks inside);
      some = omega (arith, is, pow_pos t);
      small = pow_le _ 24 ok.fits;
      reals = among.blocks.same.reals ∙ ok.reals;
      imags = among.blocks.same.imags ∙ ok.imags;
      reach = among_reach _ ok _ is among;
      back = omega (arith, back_le upper ok, ok.below);
    }

pub loop-key-init : goal.loop-key-init
loop-key-init g c = among_start _ c.requires _ (bit_is c.requires)

pub overflow_sub-key : goal.overflow_sub-key
overflow_sub-key g c = among_reach _ c.requires _ (bit_is c.requires) c.loop-key.invariant

pub overflow_sub-a : goal.overflow_sub-a
overflow_sub-a g c = (turn c.requires c.loop-key.invariant c.loop-key-test.true).reach

pub slice_bounds-turn_half-end : goal.slice_bounds-turn_half-end
slice_bounds-turn_half-end g c = let q = turn c.requires c.loop-key.invariant c.loop-key-test.true in omega arith

pub turn_half-requires : goal.turn_half-requires
turn_half-requires g c =
    let q = turn c.requires c.loop-key.invariant c.loop-key-test.true in
    let ok = c.requires in
    let args = c.args in
    record {
      equal = simp (length-take, length-drop, q.reals, q.imags);
      reach = under_le (g.R.UpperRule.upper args.rule) ok _ q.is;
      small = omega (arith, mod-le args.fixed (shl args.target), ok.below, q.small);
    }

pub loop-key-smaller : goal.loop-key-smaller
loop-key-smaller g c =
    let q = turn c.requires c.loop-key.invariant c.loop-key-test.true in
    let bit = shl c.args.target in
    let fixed = c.args.fixed in
    omega (arith, c.loop-key-test.true, q, or_ge (c.loop-key.key + bit + bit) (fixed - fixed % bit))

pub loop-key-preserved : goal.loop-key-preserved
loop-key-preserved g c =
    let q = turn c.requires c.loop-key.invariant c.loop-key-test.true in
    among_step _ c.requires _ _ q.reals q.imags _ _ q.is c.loop-key.invariant q.inside c.turn_half.ensures

pub returns : goal.returns
returns g c = blocks_end _ _ _ _ c.loop-key.invariant.blocks (omega (arith, c.loop-key-test.false, shl_is c.args.n c.requires.fits))
