-- `gathering::gather` meets its contract, by what the number stands for: where bytes are held, by what they begin. Assumes nothing.
-- Stays: what two answers take by a `let` is of the goal's own record `c`; a lemma would take each of its parts as an argument.
use Prim.Native.Nat.{ℕ, ◌<◌}
use native.Mathlib.Omega.{arith}
use mathlib.Core.List.{List, [], ◌++◌, append-nil}
use mathlib.Core.Path.{◌≡◌, refl, sym, ap, ◌∙◌}
use lib.ListN.{take}
use Rattle.frames.proofs.Nexts.{next_none}
use Rattle.frames.specs.Frames.{next_of}
use Rattle.frames.specs.Streams.{Rest, stopped, step}
use Rattle.gathering.specs.Gathering.{most_held, rest_of, bytes_of, Gathers}
use Rattle.gathering.specs.declared.Gathered.{Gathered}
use Rattle.gathering.proofs.Kept.{rest_passing, rest_stopped, rest_held, none_kept, no_begun}
use Rattle.gathering.proofs.gather.Goals as goal

module _ (held : List ℕ) (kept : ℕ) (piece : List ℕ) {r : Gathered} where
  behind : {rest : Rest} → rest_of held kept ≡ rest → Gathers (step rest piece) (bytes_of rest ++ piece) r
      → Gathers (step (rest_of held kept) piece) (bytes_of (rest_of held kept) ++ piece) r
  behind e h = rw e h

pub go_on-requires : goal.go_on-requires
go_on-requires c = next_none [] refl

pub returns-then-kept-eq0 : goal.returns-then-kept-eq0
returns-then-kept-eq0 c = let a = c.args in
    behind a.held.now a.kept a.piece.now (ap (rest_of a.held.now) c.if-kept-eq0.true ∙ none_kept a.held.now) c.go_on.ensures

pub returns-then-kept-gt-STOPPED : goal.returns-then-kept-gt-STOPPED
unfolding step
returns-then-kept-gt-STOPPED c = let a = c.args in
    behind a.held.now a.kept a.piece.now (rest_passing a.held.now a.kept c.if-kept-gt-STOPPED.true) (c.read_past.ensures a.piece.now)

pub returns-then-kept-eq-STOPPED : goal.returns-then-kept-eq-STOPPED
unfolding step
returns-then-kept-eq-STOPPED c = let a = c.args in
    behind a.held.now a.kept a.piece.now (rest_stopped a.held.now a.kept c.if-kept-eq-STOPPED.true)
    (c.waiting.ensures stopped a.piece.now refl)

pub returns-in-More : goal.returns-in-More
returns-in-More c = let few : (c.args.kept < most_held) = omega arith in
    let first : (List ℕ) = let a = c.args in take a.kept a.held.now in
    let tells : (c.next_frame.result ≡ next_of first) = c.next_frame.ensures ∙ ap next_of (append-nil first) in
    let a = c.args in
    behind a.held.now a.kept a.piece.now
    (rest_held a.held.now a.kept few (sym tells ∙ c.in-More.is))
    c.go_on-in-More.ensures

pub returns-in_default : goal.returns-in_default
unfolding step
returns-in_default c = let few : (c.args.kept < most_held) = omega arith in
    let first : (List ℕ) = let a = c.args in take a.kept a.held.now in
    let tells : (c.next_frame.result ≡ next_of first) = c.next_frame.ensures ∙ ap next_of (append-nil first) in
    let a = c.args in
    behind a.held.now a.kept a.piece.now
    (rest_held a.held.now a.kept few (sym tells) ∙ no_begun c.next_frame.result first c.in_default.not-More)
    (c.waiting-in_default.ensures stopped a.piece.now refl)
