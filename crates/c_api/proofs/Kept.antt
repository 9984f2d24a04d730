-- The caller's words behind a delivery and behind a piece are the book's session. Two results that the contracts allow are the same. Assumes nothing.
use Prim.Native.Nat.{ℕ}
use mathlib.Core.List.{List}
use Rattle.std.specs.Prelude.{Option, Some, None}
use mathlib.Core.Path.{◌≡◌, sym, ap, ap₂, ◌∙◌, subst}
use Rattle.answers.specs.Told.{replied_number}
use Rattle.book.proofs.ExactlyOnce.{Own, same_own, keeps_its_own}
use Rattle.book.specs.Answers.{replies, Buffers}
use Rattle.book.specs.Sessions as Book
use Rattle.book.specs.Sessions.{Bench, deliver, deliver_all}
use Rattle.feeding.specs.Feeding.{form, list_of, Takes}
use Rattle.frames.specs.Streams.{step}
use Rattle.gathering.specs.Gathering.{rest_of}
use Rattle.keeping.proofs.Laws.{session_kept}
use Rattle.keeping.specs.Kept.{session_in, Keeps}
use Rattle.once.specs.AllOnce.{bench}
use Rattle.once.specs.Answered.{Answered}
use Rattle.sessions.specs.Deliveries.{Delivers}
use Rattle.sessions.specs.declared.Delivered.{Delivered}
use Rattle.c_api.specs.Tells.{becoming, TellsDelivery, fed_number, Words, words, TellsFeed}

module _ {w w' : List ℕ} {s : Book.Session} (k : Keeps w s.count s.value s.mark w') (own : Own (session_in w) s) where
  session_is : session_in w' ≡ s
  session_is = session_kept k own

  words_are : w' ≡ becoming w (session_in w')
  words_are = k.words ∙ ap (becoming w) (sym session_is)

-- a delivery
pub tells : {w w' bytes : List ℕ} {b b' : Buffers} {a : Delivered} {code : ℕ}
    → Delivers (deliver (session_in w) b bytes) a b' → Keeps w a.next.count a.next.value a.next.mark w'
    → code ≡ replied_number (replies a.reply) → TellsDelivery w b bytes code w' b'
tells {w} {w'} {bytes} {b} {b'} {a} x k e =
    let own = subst (Own (session_in w)) (sym x.next) (keeps_its_own (session_in w) b bytes) in
    record {
      answers = e ∙ ap replied_number x.reply;
      session = session_is k own ∙ x.next;
      words = words_are k own;
      leaves = x.leaves;
    }

-- what is due is no delivery or one
due_own : (x : Bench) (o : Option (List ℕ)) → Own x.session (deliver_all x (list_of o)).session
due_own x None = same_own x.session
due_own x (Some bytes) = keeps_its_own x.session x.state bytes

-- a piece
pub tells_fed : {w w' held held' piece : List ℕ} {kept kept' used code : ℕ} {b b' : Buffers} {s : Book.Session} {told : List Answered}
    → Takes (form (session_in w) kept held) b piece used told (form s kept' held') b' → Keeps w s.count s.value s.mark w' → code ≡ fed_number told kept'
    → TellsFeed (words w kept held) b piece code used (words w' kept' held') b'
tells_fed {w} {w'} {held} {held'} {piece} {kept} {kept'} {b = b} {b'} {s} {told} t k e =
    let due = (step (rest_of held kept) piece).due in
    let is : s ≡ (deliver_all (bench (session_in w) b) (list_of due)).session = ap (λ (x : Bench). x.session) t.run in
    let own = subst (Own (session_in w)) (sym is) (due_own (bench (session_in w) b) due) in
    record {
      told = told;
      takes = record {
        used = t.used;
        kept = t.kept;
        held = t.held;
        run = ap (λ (x : Book.Session). bench x b') (session_is k own) ∙ t.run;
        told = t.told;
      };
      words = words_are k own;
      tells = e;
    }

-- ---- two results are the same

pub tells_delivery_agree : {w w₁ w₂ bytes : List ℕ} {b b₁ b₂ : Buffers} {c₁ c₂ : ℕ}
    → TellsDelivery w b bytes c₁ w₁ b₁ → TellsDelivery w b bytes c₂ w₂ b₂ → (c₁ ≡ c₂) × (w₁ ≡ w₂) × (b₁ ≡ b₂)
tells_delivery_agree {w} x y = (
  x.answers ∙ sym y.answers,
  x.words ∙ ap (becoming w) (x.session ∙ sym y.session) ∙ sym y.words,
  x.leaves ∙ sym y.leaves,
)

pub tells_fed_agree : {f f₁ f₂ : Words} {b b₁ b₂ : Buffers} {piece : List ℕ} {c₁ c₂ u₁ u₂ : ℕ}
    → TellsFeed f b piece c₁ u₁ f₁ b₁ → TellsFeed f b piece c₂ u₂ f₂ b₂ → (c₁ ≡ c₂) × (u₁ ≡ u₂) × (f₁ ≡ f₂) × (b₁ ≡ b₂)
tells_fed_agree {f} x y =
    let same = x.takes.run ∙ sym y.takes.run in
    let kept = x.takes.kept ∙ sym y.takes.kept in
    let held = x.takes.held ∙ sym y.takes.held in
    let session = x.words ∙ ap (λ (z : Bench). becoming f.session z.session) same ∙ sym y.words in (
      x.tells ∙ ap₂ fed_number (x.takes.told ∙ sym y.takes.told) kept ∙ sym y.tells,
      x.takes.used ∙ sym y.takes.used,
      λ i. words (session i) (kept i) (held i),
      ap (λ (z : Bench). z.state) same,
    )
