-- `feeding::Feed::is_cut` meets its contract: nothing is left of a frame only where nothing is kept. Assumes nothing.
use Prim.Native.Nat.{ℕ}
use mathlib.Core.Bool.{Bool, true, false, not}
use mathlib.Core.List.{List, [], ◌∷◌}
use mathlib.Core.Path.{◌≡◌, refl, sym, ap, ◌∙◌}
use lib.Dec.{eqb}
use lib.ListN.{length}
use borrow.Author.Rules.{rules}
use borrow.Author.Tests.{eqb-true, eqb-false}
use Rattle.frames.specs.Streams.{Rest, begun, passing, stopped}
use Rattle.gathering.proofs.Kept.{none_kept, none_only}
use Rattle.gathering.specs.Gathering.{rest_of}
use Rattle.feeding.specs.Feeding.{cuts}
use Rattle.feeding.proofs.Feed.is_cut.Goals as goal

pub returns : goal.returns
returns c = let f = c.args.self in
    let size : length f.held ≡ 97 = search rules in
    cut f.held f.kept size (eqb f.kept 0) refl
  where
    left : (r : Rest) → (r ≡ begun [] → ⊥) → true ≡ cuts r
    left (begun []) more = absurd (more refl)
    left (begun (b ∷ bs)) more = refl
    left (passing k) more = refl
    left stopped more = refl

    cut : (held : List ℕ) (kept : ℕ) → length held ≡ 97 → (t : Bool) → eqb kept 0 ≡ t → not t ≡ cuts (rest_of held kept)
    cut held kept size true e = ap cuts (sym (none_kept held) ∙ ap (rest_of held) (sym (eqb-true kept 0 e)))
    cut held kept size false e = left (rest_of held kept) (λ is. eqb-false kept 0 e (none_only held kept size is))
