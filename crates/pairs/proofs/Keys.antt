-- The keys that have all bits of a set, gone over by w = (w + 1) | fixed: no key is passed over. Assumes nothing.
use Prim.Native.Nat.{ℕ, ◌+◌, ◌-◌, ◌^◌, ◌≤◌, ◌<◌}
use mathlib.Core.Path.{◌≡◌, refl, ◌∙◌, subst}
use native.Mathlib.Decide.{dec_lt}
use native.Mathlib.Omega.{arith}
use lib.Bits.{bit_or, and_self, and_le_l}
use Rattle.book.specs.Answers.{Buffers}
use Rattle.book.specs.Lent.{SameSize}
use Rattle.book.specs.State.{at}
use Rattle.book.specs.declared.Pair.{Pair}
use Rattle.pairs.specs.Pairs.{TwoPlaces, PairPut, Apart, Paired, Has, Keyed, Swept}
use Rattle.pairs.proofs.Bits.{or_ge, or_covers, next_least}
use Rattle.pairs.proofs.Loop.{nothing, one, join}
use Rattle.seated.proofs.Shifts.{shl, shl_is, pow_le}

pub key_ge : (fixed w : ℕ) → Has fixed w → fixed ≤ w
key_ge fixed w k = omega (arith, and_le_l w fixed)

-- what the loop keeps, at its key w: the pairs of the keys below w are done
pub record Upto (rule : Pair → Pair) (n fixed back0 back1 : ℕ) (b₀ : Buffers) (w : ℕ) (b : Buffers) : Type 0 where
  pub same : SameSize b₀ b
  pub on : Has fixed w
  pub under : (v : ℕ) → Has fixed v → v < w → v < 2 ^ n
  pub done : Paired rule (Has fixed) (λ v. v - back0) (λ v. v - back1) 0 w (at b₀) (at b)

module _ {n fixed back0 back1 : ℕ} {b₀ : Buffers} (ok : Keyed n fixed back0 back1 b₀) where
  pub apart : Apart (Has fixed) (λ w. w - back0) (λ w. w - back1)
  apart =
      record {
        lower = λ v w k l e. omega (arith, key_ge fixed v k, key_ge fixed w l, ok.reach);
        upper = λ v w k l e. omega (arith, key_ge fixed v k, key_ge fixed w l, ok.reach, ok.order);
        cross = λ v w k l e.
            let i : ℕ = v - back0 in
            let p : v ≡ i + back0 = omega (arith, key_ge fixed v k, ok.reach) in
            let q : w ≡ i + back1 = omega (arith, key_ge fixed w l, ok.reach, ok.order) in
            ok.apart i (subst (Has fixed) p k) (subst (Has fixed) q l);
      }

  pub size_is : shl n ≡ 2 ^ n
  size_is = shl_is n ok.fits

  pub small : 2 ^ n ≤ 2 ^ 24
  small = pow_le n 24 ok.fits

  module _ {rule : Pair → Pair} where
    pub starts : Upto rule n fixed back0 back1 b₀ fixed b₀
    starts =
        record {
          same = record { reals = refl; imags = refl };
          on = and_self fixed;
          under = λ v k l. absurd (omega (arith, key_ge fixed v k));
          done = nothing rule (Has fixed) (λ v. v - back0) (λ v. v - back1) 0 fixed (at b₀) (λ v k x y. omega (arith, key_ge fixed v k));
        }

    module _ {w : ℕ} {b : Buffers} (u : Upto rule n fixed back0 back1 b₀ w b) where
      pub reach : back0 ≤ w
      reach = omega (arith, key_ge fixed w u.on, ok.reach)

      pub asked : w < 2 ^ n → TwoPlaces b (w - back0) (w - back1)
      asked l =
          record {
            apart = omega (arith, reach, ok.order);
            reals = omega (arith, u.same.reals, ok.reals);
            imags = omega (arith, u.same.imags, ok.imags);
          }

      pub steps : {b' : Buffers} → w < 2 ^ n → PairPut rule (w - back0) (w - back1) (at b) (at b') × SameSize b b'
          → Upto rule n fixed back0 back1 b₀ (bit_or (w + 1) fixed) b'
      steps {b'} l st =
          let next : w + 1 ≤ bit_or (w + 1) fixed = or_ge (w + 1) fixed in
          record {
            same = record { reals = st.1.reals ∙ u.same.reals; imags = st.1.imags ∙ u.same.imags };
            on = or_covers (w + 1) fixed;
            under = λ v k x. elim (dec_lt w v) [ yes h ↦ absurd (omega (arith, next_least w fixed v u.on k h)) | no h ↦ omega arith ];
            done =
                join rule (Has fixed) (λ v. v - back0) (λ v. v - back1) apart (omega arith) (omega arith) u.done
                (join rule (Has fixed) (λ v. v - back0) (λ v. v - back1) apart (omega arith) next
                (one rule (Has fixed) (λ v. v - back0) (λ v. v - back1) u.on st.0)
                (nothing rule (Has fixed) (λ v. v - back0) (λ v. v - back1) (w + 1) (bit_or (w + 1) fixed) (at b')
                (λ v k x y. omega (arith, next_least w fixed v u.on k (let h : w < v = omega arith in h)))));
          }

      pub ends : 2 ^ n ≤ w → Swept rule n fixed back0 back1 b₀ b
      ends l =
          record {
            same = u.same;
            pairs =
                record {
                  lower = λ v k x y. u.done.lower v k x (omega arith);
                  upper = λ v k x y. u.done.upper v k x (omega arith);
                  others = λ i f. u.done.others i (λ v k x y. f v k x (u.under v k y));
                };
          }
