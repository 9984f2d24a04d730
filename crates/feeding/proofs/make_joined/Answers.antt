-- `feeding::make_joined` meets its contract: the two parts stand one behind the other at the start of the frame. Assumes nothing.
use Prim.Native.Nat.{ℕ, ◌-◌}
use native.Mathlib.Omega.{arith}
use mathlib.Core.List.{List, ◌++◌}
use mathlib.Core.Path.{◌≡◌, ap, ◌∙◌}
use lib.ListN.{length, take, drop, length-append, length-drop}
use lib.Seq.{take_at, drop-append-le}
use Rattle.stores.proofs.Stored.{store_then, store_first}
use Rattle.words.specs.Words.{Added}
use Rattle.feeding.specs.Feeding.{Joins}
use Rattle.feeding.proofs.make_joined.Goals as goal

joined : (zeros first last frame frame₂ : List ℕ) {have end j k : ℕ} → Joins first last → length zeros ≡ 97
    → Added first j zeros 0 have frame → Added last k frame have end frame₂ → take (end - 3) (drop 3 frame₂) ≡ drop 3 (first ++ last)
joined zeros first last frame frame₂ {have} {end} fits size p q =
    let all = first ++ last in
    let many = length-append first last in
    let is : frame₂ ≡ all ++ drop (length all) zeros =
    store_then zeros frame frame₂ 0 have first last p.stored q.stored p.behind ∙ store_first zeros all (omega (arith, fits.most)) in
    ap (λ (l : List ℕ). take (end - 3) (drop 3 l)) is
    ∙ ap (take (end - 3)) (drop-append-le 3 all (drop (length all) zeros) (omega (arith, fits.least)))
    ∙ take_at (drop 3 all) (drop (length all) zeros) (end - 3) (omega (arith, length-drop 3 all, p.behind, q.behind))

pub returns : goal.returns
returns g c = let a = c.args in
    let same = joined _ a.first.now a.last.now _ _ c.requires (omega arith) c.add-have.ensures c.add-end.ensures in
    rw (← same) c.make.ensures
