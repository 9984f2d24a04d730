-- The program's buffer has room for all that a piece prints, and for what stands behind the last delivery: a line has at most 128 bytes, and no piece has more
-- deliveries than bytes. So what stands in it is what is printed, and nothing is left out. Assumes nothing.
use Rattle.std.proofs.Common.{◌≡◌, ℕ, ◌≤◌, Bool, List, [], ◌∷◌, length, take, drop, sym, refl, ap, ◌∙◌, arith, take_at}
use Rattle.book.specs.Answers.{Buffers}
use Rattle.book.specs.Sessions.{Session, Bench, deliver}
use Rattle.feeding.specs.Feeding.{rest_in}
use Rattle.frames.proofs.Streams.{stream_few}
use Rattle.frames.specs.Streams.{stream_of}
use Rattle.gathering.proofs.Kept.{rest_settled}
use Rattle.once.specs.AllOnce.{bench}
use Rattle.once.specs.Answered.{answers_of}
use Rattle.printing.proofs.Short.{answers_short, closing_short}
use Rattle.printing.specs.Printed.{answer_lines, closing}
use Rattle.puts.specs.Put.{Put}
use Rattle.stores.proofs.Stored.{store_first}
use Rattle.program.specs.Program.{Run, Prints}

-- ---- from the buffer's start on

-- the first bytes are these words, all of them
pub record Stand (words : List ℕ) (next : ℕ) (after : List ℕ) : Type 0 where
  pub many : next ≡ length words
  pub are : take next after ≡ words

all_stand : {words before after : List ℕ} {next : ℕ} → Put words before 0 next after → length words ≤ length before → Stand words next after
all_stand {words} {before} {next = next} p room =
    let many : next ≡ length words = omega (arith, p.behind) in
    record {
      many = many;
      are = ap (take next) (p.stored ∙ store_first before words room) ∙ take_at words (drop (length words) before) next (sym many);
    }

-- ---- what a piece prints

-- one answer to a delivery
many_answers : (x : Bench) (ds : List (List ℕ)) → length (answers_of x ds) ≡ length ds
many_answers x [] = refl
many_answers x (d ∷ ds) =
    let made = deliver x.session x.state d in
    omega (arith, many_answers (bench made.next made.left) ds)

few_answers : {x x' : Run} {b b' : Buffers} {piece before after : List ℕ} {at next : ℕ} (p : Prints x b piece before at x' b' next after)
    → length p.answers ≤ length piece
few_answers {x} {b = b} {piece = piece} p =
    let f = x.form in
    let ds = (stream_of (rest_in f) piece).deliveries in
    let many = ap length p.takes.told ∙ many_answers (bench f.session b) ds in
    omega (arith, many, stream_few (rest_in f) piece (rest_settled f.held f.kept))

pub piece_stands : {x x' : Run} {b b' : Buffers} {piece before after : List ℕ} {next : ℕ} (p : Prints x b piece before 0 x' b' next after)
    → length piece ≤ 2048 → length before ≡ 262400 → Stand (answer_lines x.index p.answers) next after
piece_stands {x} p short size = all_stand p.put (omega (arith, few_answers p, answers_short x.index p.answers))

-- ---- and what stands behind the last delivery

pub closing_stands : (cut : Bool) (s : Session) (b : Buffers) {before after : List ℕ} {next : ℕ} → Put (closing cut s b) before 0 next after
    → length b.reals ≤ 2048 → length before ≡ 262400 → Stand (closing cut s b) next after
closing_stands cut s b p short size = all_stand p (omega (arith, closing_short cut s b))
