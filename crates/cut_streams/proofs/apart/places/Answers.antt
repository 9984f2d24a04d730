-- `places` is at most 2 ^ 11. Assumes nothing.
use Rattle.std.proofs.Common.{◌≤◌, ◌*◌, ◌^◌, arith}
use Rattle.std.proofs.Math.Nat.{mod-le}
use Rattle.std.proofs.Math.Pow.{pow_mono}
use Rattle.cut_streams.proofs.apart.places.Goals as goal

pub returns : goal.returns
returns c =
    let few : c.min.result ≤ 11 = omega arith in
    let most : 2 ^ c.min.result ≤ 2 ^ 11 = pow_mono few in
    omega (arith, mod-le (1 * 2 ^ c.min.result) (2 ^ 64))
