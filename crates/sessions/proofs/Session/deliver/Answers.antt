-- `sessions::Session::deliver` meets its contract: by what was read, and by where the record stands. Assumes nothing.
use mathlib.Core.Path.{refl, sym, ap, ◌∙◌}
use native.Mathlib.Omega.{arith}
use Rattle.book.proofs.Gives.{gives_is, denied_is}
use Rattle.book.specs.Answers.{gives_of}
use Rattle.book.specs.Records.{read_record}
use Rattle.records.proofs.Taken.{taken_writes_back}
use Rattle.standing.specs.Stands.{stands}
use Rattle.wire.specs.Bytes.{Bytes}
use Rattle.sessions.specs.Deliveries.{meant}
use Rattle.sessions.proofs.Steps.{unread, answered, goes, by_is, ran}
use Rattle.sessions.proofs.Session.deliver.Goals as goal

pub returns-in_default : goal.returns-in_default
returns-in_default g c = let a = c.args in
    let none_read = (denied_is 8 (read_record a.bytes.now) (sym (ap gives_of c.in_default.is) ∙ c.read_record.ensures)).0 in
    search (by_is (unread (meant a.self) _ a.bytes.now none_read) c.passed.ensures)

pub returns-in-Ok-stand : goal.returns-in-Ok-stand
returns-in-Ok-stand g c = let a = c.args in
    let it = c.in-Ok.it in
    let found = gives_is 8 (read_record a.bytes.now) (sym (ap gives_of c.in-Ok.is) ∙ c.read_record.ensures) in
    let within : Bytes a.bytes.now = λ i. omega (arith, c.type_inv.bytes i) in
    let next = sym (ap stands c.in-Ok-stand.is) ∙ c.stand.ensures.is (meant a.self) refl refl refl in
    let raised = c.stand.ensures.next _ c.in-Ok-stand.is in
    search
    (by_is (goes (meant a.self) _ a.bytes.now it found next)
    (ran a.self _ c.told.ensures a.bytes.now it c.run-answer.ensures raised
    (taken_writes_back _ _ a.bytes.now it within found) c.ran.ensures))

pub returns-in-Err : goal.returns-in-Err
returns-in-Err g c = let a = c.args in
    let it = c.in-Ok.it in
    let found = gives_is 8 (read_record a.bytes.now) (sym (ap gives_of c.in-Ok.is) ∙ c.read_record.ensures) in
    let said = sym (ap stands c.in-Err.is) ∙ c.stand.ensures.is (meant a.self) refl refl refl in
    search (by_is (answered (meant a.self) _ a.bytes.now it found _ said) c.passed-in-Err.ensures)
