-- Where a record stands, test by test: each test that applies, with those before it passed, gives the reply. Assumes nothing.
use Prim.Native.Nat.{ℕ, ◌+◌, ◌≤◌, ◌<◌}
use Rattle.std.specs.Prelude.{Option, Some, Result, Ok, Err}
use mathlib.Core.Path.{◌≡◌, sym, ap, ap₂, ◌∙◌}
use native.Mathlib.Omega.{arith}
use borrow.Author.Tests.{lt-ltb, le-ltb, eq-eqb, ne_eqb}
use Rattle.book.specs.Answers.{again}
use Rattle.book.specs.Sessions.{Session, told_again}
use Rattle.book.specs.declared.Record.{Record}
use Rattle.book.specs.declared.Refusal.TheVariants.{Session as NoSession, Early, Full}
use Rattle.book.specs.declared.Reply.{Reply}
use Rattle.book.specs.declared.Reply.TheVariants.{Again, Said}
use Rattle.standing.specs.Stands.{Stood}

-- a reply is no next record
no_next : {x : Reply} {k m : ℕ} → ◌≡◌ {A = Result ℕ Reply} (Err x) (Ok k) → k ≡ m
no_next e = let z : ◌≡◌ {A = ℕ} 0 1 = cc in absurd (omega arith)

module _ (own count : ℕ) (v : Option ℕ) (r : Record) where
  pub other : (r.session ≡ own → ⊥) → Stood own count v r (Err (Said (Err NoSession)))
  other h = record { is = λ s e f k. rw (ne_eqb r.session s.number (λ q. h (q ∙ e))); next = λ j e. no_next e }

  module _ (mine : r.session ≡ own) where
    theirs : (s : Session) → s.number ≡ own → r.session ≡ s.number
    theirs s e = mine ∙ sym e

    pub full : r.number ≡ 65535 → Stood own count v r (Err (Said (Err Full)))
    full h =
        record {
          is = λ s e f k. rw (eq-eqb r.session s.number (theirs s e), eq-eqb r.number 65535 h);
          next = λ j e. no_next e;
        }

    module _ (room : r.number ≡ 65535 → ⊥) where
      pub repeated : {t : Option ℕ} → r.number < count → t ≡ told_again count v r.number
          → Stood own count v r (Err (Again t))
      repeated {t} h told =
          record {
            is = λ s e f k.
                let tells = told ∙ ap₂ (λ (m : ℕ) (w : Option ℕ). told_again m w r.number) (sym f) (sym k) in
                rw (eq-eqb r.session s.number (theirs s e), ne_eqb r.number 65535 room, lt-ltb r.number s.count (omega (arith, f)))
                (ap (λ (w : Option ℕ). Some (again w)) tells);
            next = λ j e. no_next e;
          }

      pub early : count < r.number → Stood own count v r (Err (Said (Err Early)))
      early h =
          record {
            is = λ s e f k.
                rw (
                  eq-eqb r.session s.number (theirs s e),
                  ne_eqb r.number 65535 room,
                  le-ltb r.number s.count (omega (arith, f)),
                  lt-ltb s.count r.number (omega (arith, f)),
                );
            next = λ j e. no_next e;
          }

      pub next : count ≤ r.number → r.number ≤ count → Stood own count v r (Ok (count + 1))
      next l h =
          record {
            is = λ s e f k.
                rw (
                  eq-eqb r.session s.number (theirs s e),
                  ne_eqb r.number 65535 room,
                  le-ltb r.number s.count (omega (arith, f)),
                  le-ltb s.count r.number (omega (arith, f)),
                );
            next = λ j e. let same : count + 1 ≡ j = cc in sym same;
          }

-- each asks for the tests that it takes, wherever they stand
pub ruleset standings = (other, full, repeated, early, next)
