-- `feeding::fill` meets its contract: an answer's own number is small, so that it and the count fit one; and a full list keeps what it has. Assumes nothing.
use Prim.Native.Nat.{ℕ, ◌+◌, ◌*◌}
use mathlib.Core.List.{List}
use mathlib.Core.Path.{◌≡◌, sym, ap₂, subst}
use Rattle.book.specs.Answers.{replies}
use Rattle.book.specs.declared.Reply.{Reply}
use Rattle.feeding.specs.Feeding.{told_of, Filled}
use Rattle.std.specs.Prelude.{Option, Some}
use Rattle.feeding.proofs.Numbers.{filled_none, filled_one, filled_out}
use Rattle.feeding.proofs.fill.Goals as goal

-- what was told, put for the reply
told_is : {told : Option Reply} (reply : Reply) (answers : List ℕ) (filled count : ℕ) {next : ℕ} {after : List ℕ} → told ≡ Some reply
    → Filled answers filled (told_of (Some reply) count) next after → Filled answers filled (told_of told count) next after
told_is reply answers filled count {next} {after} e h = subst (λ (t : Option Reply). Filled answers filled (told_of t count) next after) (sym e) h

pub returns-in_default : goal.returns-in_default
returns-in_default c =
    let a = c.args in
    subst (λ (t : Option Reply). Filled a.answers.now a.filled (told_of t a.count) a.filled a.answers.now) (sym c.in_default.is)
    (filled_none a.answers.now a.filled c.requires)

pub returns-then-filled-answers : goal.returns-then-filled-answers
returns-then-filled-answers c =
    let a = c.args in
    let reply = c.in-Some.reply in
    told_is reply a.answers.now a.filled a.count c.in-Some.is
    (filled_one a.answers.now a.filled (record { says = replies reply; count = a.count }) c.if-filled-answers.true
    (ap₂ (λ (n k : ℕ). n * 65536 + k) c.tell_reply.ensures c.from.ensures))

pub returns : goal.returns
returns c =
    let a = c.args in
    let reply = c.in-Some.reply in
    told_is reply a.answers.now a.filled a.count c.in-Some.is
    (filled_out a.answers.now a.filled (record { says = replies reply; count = a.count }) c.requires c.if-filled-answers.false)
