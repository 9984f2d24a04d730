-- What a run begins with. Assumes nothing.
use Rattle.std.proofs.Common.{◌≡◌, ℕ, [], replicate}
use Rattle.feeding.specs.Feeding.{rest_in}
use Rattle.frames.specs.Streams.{begun}
use Rattle.gathering.proofs.Kept.{none_kept}
use Rattle.program.specs.Program.{fresh}

-- behind the header nothing is kept
pub fresh_rest : (n own : ℕ) → rest_in (fresh n own).form ≡ begun []
fresh_rest n own = none_kept (replicate 97 0)
