-- Demand 3: exactly once. What it speaks of, and the statement; proofs/ExactlyOnce.antt proves it. Definitions only. Assumes nothing.
-- "Found in order" and "longest" speak of lists alone: the session's count has no part in them.
use Rattle.std.specs.Prelude.{ℕ, ◌+◌, ◌^◌, ◌≤◌, false, cond, ◌⊎◌, ◌≡◌, length, take, Option, Some, None}
use mathlib.Core.List.{List, [], ◌∷◌, ◌++◌, flat_map}
use Rattle.book.specs.Answers.{Buffers, accepts}
use Rattle.book.specs.Calls.{call_of, act}
use Rattle.book.specs.Kernels.{bad_length}
use Rattle.book.specs.Records.{write_record, read_record}
use Rattle.book.specs.Sessions.{Session, start, marked, deliver, deliver_all}
use Rattle.book.specs.declared.Record.{Record}

-- ---- the longest start of a list found in order

-- `xs` is found in order in `ys`: leaving some of `ys` out gives `xs`
pub data FoundIn {A : Type 0} : List A → List A → Type 0 where
  done : FoundIn [] []
  skip : {y : A} {xs ys : List A} → FoundIn xs ys → FoundIn xs (y ∷ ys)
  keep : {y : A} {xs ys : List A} → FoundIn xs ys → FoundIn (y ∷ xs) (y ∷ ys)

-- k is the length of the longest start of `rs` found in order in `ys`
pub record Longest {A : Type 0} (k : ℕ) (rs ys : List A) : Type 0 where
  pub within : k ≤ length rs
  pub found : FoundIn (take k rs) ys
  pub most : (j : ℕ) → j ≤ length rs → FoundIn (take j rs) ys → j ≤ k

-- ---- the records

abbrev pub In : Record → List Record → Type 0
In r [] = ⊥
In r (x ∷ xs) = (r ≡ x) ⊎ In r xs

-- made for the session, numbered from k
abbrev pub Numbered : ℕ → ℕ → List Record → Type 0
Numbered own k [] = Unit
Numbered own k (r ∷ rs) = (r.session ≡ own) × (r.number ≡ k) × Numbered own (k + 1) rs

-- what records give, applied once each in order: nothing where one is refused
abbrev pub give : ℕ → Buffers → List Record → Option Buffers
give n b [] = Some b
give n b (r ∷ rs) =
    let o = act n r.gate b in
    cond (accepts o.says) (give n o.left rs) None

-- the value of the last of them, and `v` where there are none
abbrev pub last_value : ℕ → Buffers → Option ℕ → List Record → Option ℕ
last_value n b v [] = v
last_value n b v (r ∷ rs) = last_value n (act n r.gate b).left (call_of n r.gate b).answer rs

-- ---- the deliveries

-- unreadable bytes, one of the records, or a record of another session
abbrev pub OneOf : ℕ → List Record → List ℕ → Type 0
OneOf own rs bytes = (read_record bytes ≡ None) ⊎ ((r : Record) × (In r rs ⊎ (r.session ≡ own → ⊥)) × (read_record bytes ≡ Some r))

abbrev pub AllOf : ℕ → List Record → List (List ℕ) → Type 0
AllOf own rs [] = Unit
AllOf own rs (bytes ∷ more) = OneOf own rs bytes × AllOf own rs more

-- the records among the deliveries
abbrev pub cons : Option Record → List Record → List Record
cons (Some r) rs = r ∷ rs
cons None rs = rs

abbrev pub seen : List (List ℕ) → List Record
seen [] = []
seen (bytes ∷ more) = cons (read_record bytes) (seen more)

-- ---- the statement

-- A fresh session, buffers of its length, and up to 65,535 records made for it, numbered from 0, which applied once each in order are all accepted.
pub record Given (n own : ℕ) (b : Buffers) (rs : List Record) : Type 0 where
  pub session : Session
  pub fresh : start n own ≡ Some session
  pub fits : bad_length (2 ^ n) b ≡ false
  pub few : length rs ≤ 65535
  pub made : Numbered own 0 rs
  pub last : Buffers
  pub accepted : give n b rs ≡ Some last

-- After a delivery: the session's count k is the length of the longest start of the list found in order among the records delivered so far,
-- the buffers are what the first k records give, once each, the value that is kept is that of the last of these, none at k = 0, and the mark is the one
-- worked out afresh over their bytes.
pub record Once (n : ℕ) (b : Buffers) (rs so_far : List Record) (s : Session) (left : Buffers) : Type 0 where
  pub longest : Longest s.count rs so_far
  pub state : give n b (take s.count rs) ≡ Some left
  pub value : s.value ≡ last_value n b None (take s.count rs)
  pub mark : s.mark ≡ marked 0 (flat_map write_record (take s.count rs))

-- Whatever was delivered before, `ds`, and whatever comes now, `bytes`.
abbrev pub ExactlyOnce : Type 0
ExactlyOnce =
    (n own : ℕ) (b : Buffers) (rs : List Record) (given : Given n own b rs)
    → (ds : List (List ℕ)) (bytes : List ℕ) → AllOf own rs ds → OneOf own rs bytes
    → let bench = deliver_all (record { session = given.session; state = b }) ds in
    let d = deliver bench.session bench.state bytes in
    Once n b rs (seen (ds ++ (bytes ∷ []))) d.next d.left
