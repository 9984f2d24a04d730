-- `frames::next_frame` tests in the order of the definition: nothing there, the tag, the length, the contents. Assumes nothing.
use Prim.Native.Nat.{ℕ, ◌+◌, ◌*◌, ◌≤◌, ◌<◌}
use native.Mathlib.Omega.{arith}
use mathlib.Core.List.{List, ◌++◌}
use mathlib.Core.Path.{◌≡◌, sym, ap₂, ◌∙◌}
use lib.ListN.{length, get_or, length-append}
use Rattle.frames.specs.Frames.{next_of, sized}
use Rattle.frames.specs.declared.Next.{Next}
use Rattle.frames.specs.declared.Next.TheVariants.{Wrong, More}
use Rattle.frames.proofs.Reading.{two_is}
use Rattle.frames.proofs.Nexts.{length_of, next_none, next_wrong, next_short, next_sized}
use Rattle.frames.proofs.next_frame.Goals as goal

-- a frame in two parts, of which so many bytes are there
module _ (first second : List ℕ) where
  abbrev parts : List ℕ
  parts = first ++ second

  abbrev have : ℕ
  have = length first + length second

  many : have ≡ length parts
  many = sym (length-append first second)

  none : have ≡ 0 → More ≡ next_of parts
  none e = sym (next_none parts (sym many ∙ e))

  module _ (some : have ≡ 0 → ⊥) {tag : ℕ} (is : tag ≡ get_or parts 0 0) where
    there : length parts ≡ 0 → ⊥
    there e = some (many ∙ e)

    wrong : (tag ≡ 0x20 → ⊥) → Wrong ≡ next_of parts
    wrong h = sym (next_wrong parts there (λ e. h (is ∙ e)))

    short : tag ≡ 0x20 → have < 3 → More ≡ next_of parts
    short t h = sym (next_short parts there (sym is ∙ t) (omega (arith, many)))

    long : (high low : ℕ) {len : ℕ} {r : Next} → tag ≡ 0x20 → 3 ≤ have → high ≡ get_or parts 1 0 → low ≡ get_or parts 2 0
        → len ≡ high * 256 + low → r ≡ sized have len → r ≡ next_of parts
    long high low t h p q e answer =
        let tells : high * 256 + low ≡ length_of parts = omega (arith, two_is parts 1 (omega (arith, many)), p, q) in
        answer ∙ ap₂ sized many (e ∙ tells) ∙ sym (next_sized parts there (sym is ∙ t) (omega (arith, many)))

pub returns-then-have-eq0 : goal.returns-then-have-eq0
returns-then-have-eq0 c = none c.args.first.now c.args.second.now c.if-have-eq0.true

pub returns-then-byte_at-ne-FRAME : goal.returns-then-byte_at-ne-FRAME
returns-then-byte_at-ne-FRAME c = wrong c.args.first.now c.args.second.now c.if-have-eq0.false c.byte_at.ensures c.if-byte_at-ne-FRAME.true

pub returns-then-have-lt3 : goal.returns-then-have-lt3
returns-then-have-lt3 c =
    short c.args.first.now c.args.second.now c.if-have-eq0.false c.byte_at.ensures c.if-byte_at-ne-FRAME.false c.if-have-lt3.true

pub returns : goal.returns
returns c =
    long c.args.first.now c.args.second.now c.if-have-eq0.false c.byte_at.ensures c.byte_at-2.result c.byte_at-3.result c.if-byte_at-ne-FRAME.false
    c.if-have-lt3.false c.byte_at-2.ensures c.byte_at-3.ensures (c.from.ensures ∙ c.from_be_bytes.ensures ∙ omega arith) c.sized.ensures
