-- `marks::turned` meets its contract: the bits that come in below are free, so what is set there is what is added. Assumes nothing.
use Rattle.std.proofs.Common.{◌≡◌, ℕ, ◌+◌, ◌*◌, ◌/◌, ◌%◌, ◌^◌, ◌<◌, ◌∙◌, arith, bit_or}
use Rattle.std.proofs.lemmas.Nat.{or_shifted}
use Rattle.marks.proofs.turned.Goals as goal

turned : (m : ℕ) → m < 2 ^ 32 → bit_or (m * 2 ^ 5 % 2 ^ 32) (m / 2 ^ 27) ≡ m * 2 ^ 5 % 2 ^ 32 + m / 2 ^ 27
turned m h =
    let e : m * 2 ^ 5 % 2 ^ 32 ≡ m % 2 ^ 27 * 2 ^ 5 = omega arith in
    let low : m / 2 ^ 27 < 2 ^ 5 = omega arith in
    rw e (or_shifted (m % 2 ^ 27) 5 (m / 2 ^ 27) low)

pub returns : goal.returns
returns c = c.rotate_left.ensures ∙ turned c.args.mark (omega arith)
