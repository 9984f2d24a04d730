-- `feeding::take_piece` meets its contract, by what is due: of what is held, and of where the frame's contents stand. Assumes nothing.
use Prim.Native.Nat.{ℕ, ◌+◌, ◌-◌, ◌<◌}
use native.Mathlib.Omega.{arith}
use mathlib.Core.List.{List, ◌++◌}
use Rattle.std.specs.Prelude.{Some}
use mathlib.Core.Path.{◌≡◌, sym, ap, ◌∙◌, subst}
use lib.ListN.{length, take, drop}
use Rattle.book.specs.Answers.{buffers}
use Rattle.frames.proofs.Streams.{step_within}
use Rattle.frames.specs.Frames.{next_of}
use Rattle.frames.specs.Streams.{step}
use Rattle.frames.specs.declared.Next.TheVariants.{Whole}
use Rattle.gathering.specs.Gathering.{most_held, rest_of, bytes_of, due_of, IsWhole, Gathers}
use Rattle.gathering.specs.declared.Due.{Due}
use Rattle.gathering.specs.declared.Due.TheVariants.{Nothing, Frame}
use Rattle.gathering.specs.declared.Gathered.{Gathered}
use Rattle.sessions.specs.Deliveries.{meant}
use Rattle.feeding.proofs.Steps.{Holds, holds_on, stays, nothing_due, made, sized, none_held, Parts, in_two}
use Rattle.feeding.proofs.take_piece.Goals as goal

-- what is gathered of a piece
module _ (held : List ℕ) (kept : ℕ) (piece : List ℕ) {r : Gathered}
    (g : Gathers (step (rest_of held kept) piece) (bytes_of (rest_of held kept) ++ piece) r) where
  due_at : {d : Due} → r.due ≡ d → due_of d (bytes_of (rest_of held kept) ++ piece) ≡ (step (rest_of held kept) piece).due
  due_at e = sym (ap (λ (d : Due). due_of d (bytes_of (rest_of held kept) ++ piece)) e) ∙ g.due

  whole : {len : ℕ} → r.due ≡ Frame len → next_of (bytes_of (rest_of held kept) ++ piece) ≡ Whole len
  whole e = subst (λ (d : Due). IsWhole d (bytes_of (rest_of held kept) ++ piece)) e g.whole

  holding : (size : length held ≡ most_held) → r.due ≡ Nothing → r.kept < most_held → Holds held kept piece size (step (rest_of held kept) piece).rest
  holding size e few = holds_on held kept piece size (due_at e) (rw g.kept at few)

  parts : {len : ℕ} → length held ≡ most_held → r.due ≡ Frame len → r.used < 3 + len
      → Parts held piece (3 + len - r.used) r.used (take len (drop 3 (bytes_of (rest_of held kept) ++ piece)))
  parts {len} size e low = in_two held kept piece size len r.used low (whole e) (due_at e) g.used

pub add-requires : goal.add-requires
add-requires g c =
    let a = c.args in
    let g = c.gather-used in
    let fits = (holding a.held.now a.kept a.piece.now g.ensures (omega arith) c.in-Nothing.is c.if-next-lt-STOPPED.true).fits in
    omega (arith, fits)

pub overflow_add-end : goal.overflow_add-end
overflow_add-end g c =
    let a = c.args in
    let g = c.gather-used in
    omega (arith, (sized _ (whole a.held.now a.kept a.piece.now g.ensures c.in-Frame.is)).most)

pub slice_bounds-make_joined-length : goal.slice_bounds-make_joined-length
slice_bounds-make_joined-length g c =
    let a = c.args in
    let g = c.gather-used in
    sym (parts a.held.now a.kept a.piece.now g.ensures (omega arith) c.in-Frame.is c.if-used-end.true).first_is

pub slice_bounds-make_joined-end : goal.slice_bounds-make_joined-end
slice_bounds-make_joined-end g c =
    let a = c.args in
    let g = c.gather-used in
    sym (parts a.held.now a.kept a.piece.now g.ensures (omega arith) c.in-Frame.is c.if-used-end.true).last_is

pub make_joined-requires : goal.make_joined-requires
make_joined-requires g c =
    let a = c.args in
    let g = c.gather-used in
    (parts a.held.now a.kept a.piece.now g.ensures (omega arith) c.in-Frame.is c.if-used-end.true).joins

pub returns-then-used-end : goal.returns-then-used-end
returns-then-used-end g c =
    let a = c.args in
    let g = c.gather-used in
    let p = parts a.held.now a.kept a.piece.now g.ensures (omega arith) c.in-Frame.is c.if-used-end.true in
    search
    (made a.held.now a.kept a.piece.now (ap Some p.contents_are ∙ due_at a.held.now a.kept a.piece.now g.ensures c.in-Frame.is) (p.last_is ∙ g.ensures.used)
    c.make_joined.ensures)

pub slice_bounds-make-end : goal.slice_bounds-make-end
slice_bounds-make-end g c =
    let a = c.args in
    let g = c.gather-used in
    omega (arith, g.ensures.used, step_within (rest_of a.held.now a.kept) a.piece.now)

pub returns-then-next-lt-STOPPED : goal.returns-then-next-lt-STOPPED
returns-then-next-lt-STOPPED g c =
    let a = c.args in
    let g = c.gather-used in
    let holds = holding a.held.now a.kept a.piece.now g.ensures (omega arith) c.in-Nothing.is c.if-next-lt-STOPPED.true in
    search
    (nothing_due (meant a.session) (buffers a.reals.now a.imags.now) a.held.now a.kept a.piece.now g.ensures.used g.ensures.kept
    (due_at a.held.now a.kept a.piece.now g.ensures c.in-Nothing.is) (c.add.ensures.stored ∙ holds.is))

pub returns-else-next-lt-STOPPED : goal.returns-else-next-lt-STOPPED
returns-else-next-lt-STOPPED g c =
    let a = c.args in
    let g = c.gather-used in
    let due = due_at a.held.now a.kept a.piece.now g.ensures c.in-Nothing.is in
    let many = rw g.ensures.kept at c.if-next-lt-STOPPED.false in
    search
    (nothing_due (meant a.session) (buffers a.reals.now a.imags.now) a.held.now a.kept a.piece.now g.ensures.used g.ensures.kept
    due (stays a.held.now a.kept a.piece.now due many))

pub returns-else-used-end : goal.returns-else-used-end
returns-else-used-end g c =
    let a = c.args in
    let g = c.gather-used in
    let len = c.in-Frame.len in
    let bare =
    none_held (rest_of a.held.now a.kept) a.piece.now (whole a.held.now a.kept a.piece.now g.ensures c.in-Frame.is)
    (rw g.ensures.used at c.if-used-end.false) in
    let same : 3 + len - 3 ≡ len = omega arith in
    let here = ap (λ (n : ℕ). take n (drop 3 a.piece.now)) same ∙ ap (λ (h : List ℕ). take len (drop 3 (h ++ a.piece.now))) (sym bare) in
    search (made a.held.now a.kept a.piece.now (ap Some here ∙ due_at a.held.now a.kept a.piece.now g.ensures c.in-Frame.is) g.ensures.used c.make.ensures)

pub returns-in-TooLong : goal.returns-in-TooLong
returns-in-TooLong g c =
    let a = c.args in
    let g = c.gather-used in
    search (made a.held.now a.kept a.piece.now (due_at a.held.now a.kept a.piece.now g.ensures c.in-TooLong.is) g.ensures.used c.make-in-TooLong.ensures)
