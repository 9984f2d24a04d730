-- `heads::number` reads the number that the bytes are. Assumes nothing.
use Prim.Native.Nat.{ℕ, ◌<◌, ◌+◌, ◌*◌, ◌^◌}
use native.Mathlib.Nat.{pow-le-pow_right}
use native.Mathlib.Numerals.{add-one}
use native.Mathlib.Omega.{arith}
use mathlib.Core.Path.{sym, ap, ◌∙◌}
use lib.ListN.{length, get_or}
use Rattle.wire.proofs.Numbers.{number_next}
use Rattle.heads.proofs.number.Goals as goal

-- a number of fewer than 8 bytes has room for one more
room : (n i : ℕ) → n < 256 ^ i → i < 8 → n < 2 ^ 56
room n i h l = omega (arith, pow-le-pow_right {n = 256} (omega arith) {i = i} {j = 7} (omega arith))

more : (n b i : ℕ) → n < 256 ^ i → b < 256 → n * 256 + b < 256 ^ (i + 1)
more n b i h l = rw add-one (omega arith)

pub overflow_mul-n : goal.overflow_mul-n
overflow_mul-n c = let l = c.loop-byte in omega (arith, room l.n l.byte-index l.invariant.1 (omega arith))

pub loop-byte-preserved : goal.loop-byte-preserved
loop-byte-preserved c = let s = c.args.bytes.now in
    let l = c.loop-byte in
    let inside : l.byte-index < length s = omega arith in (
      ap (λ (m : ℕ). m * 256 + get_or s l.byte-index 0) l.invariant.0 ∙ sym (number_next s l.byte-index inside),
      more l.n (get_or s l.byte-index 0) l.byte-index l.invariant.1 (omega (arith, c.type_inv.bytes l.byte-index)),
    )
