-- Any two results that a start's or a delivery's contract allows agree: what is told of an answer gives it back, and a session's meaning the session.
-- Assumes nothing.
use Prim.Native.Nat.{ℕ}
use mathlib.Core.Path.{◌≡◌, refl, sym, ap, ap₂, ◌∙◌}
use Rattle.book.proofs.Agree.{agree, refusal_of, refusal_back, answer_of, answer_back}
use Rattle.std.specs.Prelude.{Result, Ok, Err}
use Rattle.book.specs.Answers.{Replied, again, said, replies, Gives, gives, denied, Buffers}
use Rattle.book.specs.Sessions as Book
use Rattle.book.specs.declared.Reply.{Reply}
use Rattle.book.specs.declared.Reply.TheVariants.{Again, Said}
use Rattle.book.specs.declared.Refusal.{Refusal}
use Rattle.sessions.specs.Deliveries.{meant, resumed, started_says, Delivers}
use Rattle.sessions.specs.declared.Delivered.{Delivered}
use Rattle.sessions.specs.declared.Session.{Session}

abbrev reply_of : Replied → Reply
reply_of (again v) = Again v
reply_of (said x) = Said (answer_of x)

reply_back : (x : Reply) → reply_of (replies x) ≡ x
reply_back (Again v) = refl
reply_back (Said a) = ap Said (answer_back a)

abbrev session_of : Book.Session → Session
session_of s = resumed s.n s.number s.count s.value s.mark

session_back : (s : Session) → session_of (meant s) ≡ s
session_back s = refl

abbrev started_by : Gives Book.Session → Result Session Refusal
started_by (gives s) = Ok (session_of s)
started_by (denied k) = Err (refusal_of k)

started_back : (x : Result Session Refusal) → started_by (started_says x) ≡ x
started_back (Ok s) = ap Ok (session_back s)
started_back (Err x) = ap Err (refusal_back x)

-- a start
pub starts_agree : {g : Gives Book.Session} {a a' : Result Session Refusal} → started_says a ≡ g → started_says a' ≡ g → a ≡ a'
starts_agree = agree started_says started_by started_back

-- a delivery
pub delivers_agree : {d : Book.Delivery} {a a' : Delivered} {b b' : Buffers} → Delivers d a b → Delivers d a' b' → (a ≡ a') × (b ≡ b')
delivers_agree {a = a} {a' = a'} x y = (
  ap₂ (λ (s : Session) (r : Reply). made s r a.count) next reply ∙ ap (made a'.next a'.reply) (x.count ∙ sym y.count),
  x.leaves ∙ sym y.leaves,
)
  where
    made : Session → Reply → ℕ → Delivered
    made s r k = record { next = s; reply = r; count = k }

    next : a.next ≡ a'.next
    next = agree meant session_of session_back x.next y.next

    reply : a.reply ≡ a'.reply
    reply = agree replies reply_of reply_back x.reply y.reply
