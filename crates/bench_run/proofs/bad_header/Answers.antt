-- The line lies within its buffer, all of it.
use Rattle.std.proofs.Common.{◌≡◌, ◌≤◌, ℕ, List, length, take, drop, ap, ◌∙◌, sym, arith, rules, take_at}
use Rattle.puts.specs.Put.{Put}
use Rattle.stores.proofs.Stored.{store_first}
use Rattle.stream.specs.Lines.{bad_header_line}
use Rattle.bench_run.proofs.bad_header.Goals as goal

line : {before after : List ℕ} {next : ℕ} → Put bad_header_line before 0 next after → length before ≡ 128 → take next after ≡ bad_header_line
line {before} {next = next} p size =
    let room : length bad_header_line ≤ length before = omega (arith, size) in
    let many : next ≡ length bad_header_line = omega (arith, p.behind) in
    ap (take next) (p.stored ∙ store_first before bad_header_line room) ∙ take_at bad_header_line (drop (length bad_header_line) before) next (sym many)

pub returns : goal.returns
returns g c = rw (line c.put_bad_header-n.ensures (search rules)) at c.in_ok-write_all.ensures.bytes
