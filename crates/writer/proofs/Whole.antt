-- A record is its first four fields and what stands behind them; and the writer's two answers. Assumes nothing.
use Prim.Native.Nat.{ℕ, ◌+◌, ◌≤◌, ◌<◌}
use native.Mathlib.Omega.{arith}
use mathlib.Core.Bool.{true, false}
use mathlib.Core.List.{List, ◌++◌}
use mathlib.Core.Path.{◌≡◌, sym, ap, ◌∙◌}
use lib.Dec.{ltb}
use lib.ListN.{length, length-append}
use borrow.Author.Tests.{lt-ltb, le-ltb}
use Rattle.book.specs.Answers.{gives, denied}
use Rattle.book.specs.Records.{parts_of, fields_of, write_record, wrote_of, left_by}
use Rattle.book.specs.declared.Parts.{Parts}
use Rattle.book.specs.declared.Record.{Record}
use Rattle.stores.proofs.Stored.{stored_then, store_first}
use Rattle.stores.specs.Stores.{Stored}
use Rattle.writer.specs.Heads.{head_of}

-- the record of a gate in parts
abbrev in_parts : ℕ → ℕ → Parts → List ℕ
in_parts session number p = head_of session number p.code p.target ++ fields_of p.shape

module _ (r : Record) (out : List ℕ) (p : Parts) (e : p ≡ parts_of r.gate) (n : ℕ) (size : n ≡ 20 + length (fields_of p.shape)) where
  whole : write_record r ≡ in_parts r.session r.number p
  whole = ap (in_parts r.session r.number) (sym e)

  size_is : length (write_record r) ≡ n
  size_is = omega (arith, ap length whole, length-append (head_of r.session r.number p.code p.target) (fields_of p.shape))

  pub no_room : length out < n → (denied 12 ≡ wrote_of r out) × (out ≡ left_by r out)
  no_room h =
      let less : ltb (length out) (length (write_record r)) ≡ true = lt-ltb (length out) (length (write_record r)) (omega (arith, size_is)) in
      (rw less, rw less)

  pub wrote : (out₁ out₂ : List ℕ) (at m : ℕ) → n ≤ length out
      → Stored (head_of r.session r.number p.code p.target) out 0 at out₁ → Stored (fields_of p.shape) out₁ at m out₂
      → (gives m ≡ wrote_of r out) × (out₂ ≡ left_by r out)
  wrote out₁ out₂ at m h q₁ q₂ =
      let enough : ltb (length out) (length (write_record r)) ≡ false = le-ltb (length out) (length (write_record r)) (omega (arith, size_is)) in
      let all : Stored (write_record r) out 0 m out₂ = rw (sym whole) at (stored_then q₁ q₂) in
      let many : m ≡ length (write_record r) = omega (arith, all.behind) in
      (rw enough (ap gives many), rw enough (all.stored ∙ store_first out (write_record r) (omega (arith, size_is))))
