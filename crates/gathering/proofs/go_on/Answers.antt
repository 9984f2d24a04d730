-- `gathering::go_on` meets its contract, by what the bytes begin with: a frame that is begun is no longer than what it tells. Assumes nothing.
-- Stays: what two answers take by a `let` is of the goal's own record `c`; a lemma would take each of its parts as an argument.
use Prim.Native.Nat.{ℕ, ◌+◌, ◌<◌}
use native.Mathlib.Omega.{arith}
use mathlib.Core.List.{List, ◌++◌}
use mathlib.Core.Path.{◌≡◌, refl, sym, ◌∙◌}
use lib.ListN.{length, length-append}
use Rattle.frames.proofs.Nexts.{tells}
use Rattle.frames.specs.Frames.{next_of}
use Rattle.frames.specs.Streams.{begun, stopped, step, frame_of}
use Rattle.frames.specs.declared.Next.{Next}
use Rattle.frames.specs.declared.Next.TheVariants.{Whole, Over, More}
use Rattle.wire.specs.Bytes.{Bytes}
use Rattle.gathering.specs.Gathering.{most_held, Gathers}
use Rattle.gathering.specs.declared.Gathered.{Gathered}
use Rattle.gathering.proofs.Kept.{Framed, goes_on}
use Rattle.gathering.proofs.go_on.Goals as goal

-- `x` is what the bytes begin with, as the call tells
module _ (first piece : List ℕ) {x : Next} (tell : x ≡ next_of (first ++ piece)) where
  begins : {y : Next} → x ≡ y → next_of (first ++ piece) ≡ y
  begins e = sym tell ∙ e

  gathers : {y : Next} {r : Gathered} → x ≡ y → Gathers (frame_of y first piece) (first ++ piece) r
      → Gathers (step (begun first) piece) (first ++ piece) r
  unfolding step
  gathers e h = rw (begins e) h

module _ (first piece : List ℕ) (more : next_of first ≡ More) (fs : Bytes first) (ps : Bytes piece) {x : Next} (tell : x ≡ next_of (first ++ piece)) where
  whole : {len : ℕ} → x ≡ Whole len → Framed first len
  whole e = goes_on first piece more fs ps (tells (first ++ piece) (begins first piece tell e)).0

  over : {len : ℕ} → x ≡ Over len → Framed first len
  over e = goes_on first piece more fs ps (tells (first ++ piece) (begins first piece tell e))

pub overflow_add-len : goal.overflow_add-len
overflow_add-len c =
    let a = c.args in
    let framed : Framed a.first.now c.in-Whole.len =
    whole a.first.now a.piece.now c.requires (λ i. omega (arith, c.type_inv.first i)) (λ i. omega (arith, c.type_inv.piece i))
    c.next_frame.ensures c.in-Whole.is in
    omega (arith, framed.two)

pub overflow_sub-len : goal.overflow_sub-len
overflow_sub-len c =
    let a = c.args in
    let framed : Framed a.first.now c.in-Whole.len =
    whole a.first.now a.piece.now c.requires (λ i. omega (arith, c.type_inv.first i)) (λ i. omega (arith, c.type_inv.piece i))
    c.next_frame.ensures c.in-Whole.is in
    framed.within

pub overflow_add-len-in-Over : goal.overflow_add-len-in-Over
overflow_add-len-in-Over c =
    let a = c.args in
    let framed : Framed a.first.now c.in-Over.len =
    over a.first.now a.piece.now c.requires (λ i. omega (arith, c.type_inv.first i)) (λ i. omega (arith, c.type_inv.piece i))
    c.next_frame.ensures c.in-Over.is in
    omega (arith, framed.two)

pub overflow_sub-len-in-Over : goal.overflow_sub-len-in-Over
overflow_sub-len-in-Over c =
    let a = c.args in
    let framed : Framed a.first.now c.in-Over.len =
    over a.first.now a.piece.now c.requires (λ i. omega (arith, c.type_inv.first i)) (λ i. omega (arith, c.type_inv.piece i))
    c.next_frame.ensures c.in-Over.is in
    framed.within

pub read_past-requires : goal.read_past-requires
read_past-requires c =
    let a = c.args in
    let framed : Framed a.first.now c.in-Over.len =
    over a.first.now a.piece.now c.requires (λ i. omega (arith, c.type_inv.first i)) (λ i. omega (arith, c.type_inv.piece i))
    c.next_frame.ensures c.in-Over.is in
    omega (arith, framed.two)

pub overflow_cast-have : goal.overflow_cast-have
overflow_cast-have c =
    let a = c.args in
    let few : length a.first.now + length a.piece.now < most_held =
    omega (
      arith,
      tells (a.first.now ++ a.piece.now) (begins a.first.now a.piece.now c.next_frame.ensures c.in-More.is),
      length-append a.first.now a.piece.now,
    ) in
    omega (arith, few)

pub returns-in-Whole : goal.returns-in-Whole
returns-in-Whole c =
    let a = c.args in
    gathers a.first.now a.piece.now c.next_frame.ensures c.in-Whole.is
    (c.complete.ensures (a.first.now ++ a.piece.now) _ refl (begins a.first.now a.piece.now c.next_frame.ensures c.in-Whole.is))

pub returns-in-Over : goal.returns-in-Over
returns-in-Over c =
    let a = c.args in
    gathers a.first.now a.piece.now c.next_frame.ensures c.in-Over.is (c.read_past.ensures (a.first.now ++ a.piece.now))

pub returns-in-Wrong : goal.returns-in-Wrong
returns-in-Wrong c =
    let a = c.args in
    gathers a.first.now a.piece.now c.next_frame.ensures c.in-Wrong.is (c.waiting.ensures stopped (a.first.now ++ a.piece.now) refl)

pub returns-in-More : goal.returns-in-More
returns-in-More c =
    let a = c.args in
    gathers a.first.now a.piece.now c.next_frame.ensures c.in-More.is
    (c.waiting-in-More.ensures (begun (a.first.now ++ a.piece.now)) (a.first.now ++ a.piece.now) (sym (length-append a.first.now a.piece.now)))
