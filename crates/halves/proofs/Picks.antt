-- The places of a half by their keys, for any fixed bits and any number taken back: no chosen place is passed over. Assumes nothing.
use Prim.Native.Nat.{ℕ, ◌+◌, ◌-◌, ◌*◌, ◌/◌, ◌%◌, ◌≤◌, ◌<◌, min, max}
use mathlib.Core.Path.{◌≡◌, refl, sym, ap, ap₂, ◌∙◌, subst}
use native.Mathlib.Omega.{arith}
use borrow.Author.Tests.{eq-eqb, ne_eqb}
use lib.Bits.{bit_and, bit_or, and_self, and_zero_r, and_step, or_step}
use lib.Ieee.{Float}
use lib.ListN.{length, set}
use Rattle.book.specs.Answers.{Buffers, buffers}
use Rattle.book.specs.Lent.{SameSize}
use Rattle.book.specs.State.{State, amplitude, at}
use Rattle.book.specs.declared.Amplitude.{Amplitude}
use Rattle.pairs.specs.Pairs.{Mapped, Has}
use Rattle.pairs.proofs.Bits.{or_ge, or_covers, next_least}
use Rattle.pairs.proofs.Halves.{turn_same, Walked, walk_starts, walk_steps, walk_two_steps, walk_skips, walk_ends}
use Rattle.pairs.proofs.Keys.{key_ge}
use Rattle.halves.specs.Halves.{turned_at, Half}

module _ (fixed back : ℕ) (upper : Amplitude → Amplitude) (i : ℕ) where
  -- a place whose key has the fixed bits is turned, any other stays
  pub here_chosen : Has fixed (i + back) → (x : Amplitude) → turned_at fixed back upper i x ≡ upper x
  here_chosen e x = rw (eq-eqb _ _ e)

  pub unchosen : (Has fixed (i + back) → ⊥) → (x : Amplitude) → turned_at fixed back upper i x ≡ x
  unchosen ne x = rw (ne_eqb _ _ ne)

-- where no bit is fixed every place is turned
pub unasked : (fixed back : ℕ) (upper : Amplitude → Amplitude) {b : ℕ} {s s' : State} → fixed ≡ 0
    → Mapped (λ _. upper) 0 b s s' → Mapped (turned_at fixed back upper) 0 b s s'
unasked fixed back upper e =
    turn_same (λ _. upper) (turned_at fixed back upper)
    (λ i l x. sym (here_chosen fixed back upper i (ap (bit_and (i + back)) e ∙ and_zero_r (i + back) ∙ sym e) x))

-- the number after an even key is a key too
beside : (fixed w : ℕ) → Has fixed w → w % 2 ≡ 0 → Has fixed (w + 1)
beside fixed w on even =
    let half : (w + 1) / 2 ≡ w / 2 = omega arith in
    let last : min ((w + 1) % 2) (fixed % 2) ≡ min (w % 2) (fixed % 2) = odd (bit_and (w / 2) (fixed / 2)) (w % 2) (sym on ∙ and_step w fixed) even in
    and_step (w + 1) fixed ∙ ap₂ (λ (a b : ℕ). bit_and a (fixed / 2) * 2 + b) half last ∙ sym (and_step w fixed) ∙ on
  where
    odd : (q a : ℕ) → fixed ≡ q * 2 + min a (fixed % 2) → a ≡ 0 → min ((w + 1) % 2) (fixed % 2) ≡ min a (fixed % 2)
    odd q a e h = omega arith

-- and the next key after both is even
pub next_even : (fixed w : ℕ) → fixed % 2 ≡ 0 → w % 2 ≡ 0 → bit_or w fixed % 2 ≡ 0
next_even fixed w h l = ap (λ (n : ℕ). n % 2) (or_step w fixed) ∙ none (bit_or (w / 2) (fixed / 2)) (w % 2) (fixed % 2) h l
  where
    none : (q a b : ℕ) → b ≡ 0 → a ≡ 0 → (q * 2 + max a b) % 2 ≡ 0
    none q a b h l = omega arith

-- ---- the places whose keys have all fixed bits, one by one; the last step may go past the end
pub record Picked (fixed back : ℕ) (upper : Amplitude → Amplitude) (b₀ : Buffers) (w : ℕ) (b : Buffers) : Type 0 where
  pub on : Has fixed w
  pub walked : Walked (turned_at fixed back upper) b₀ (min (w - back) (length b₀.reals)) b

module _ (upper : Amplitude → Amplitude) {fixed back : ℕ} {b₀ : Buffers} (ok : Half fixed back b₀) where
  abbrev f : ℕ → Amplitude → Amplitude
  f = turned_at fixed back upper

  abbrev size : ℕ
  size = length b₀.reals

  pub picks_start : Picked fixed back upper b₀ fixed b₀
  picks_start =
      record {
        on = and_self fixed;
        walked = walk_skips f b₀ ok.equal (min (fixed - back) size) (walk_starts f b₀ ok.equal) (omega arith) (omega arith)
            (λ i x y. unchosen fixed back upper i (λ h. omega (arith, key_ge fixed (i + back) h)));
      }

  -- a key is not below what is taken back
  pub picks_reach : {w : ℕ} {b : Buffers} → Picked fixed back upper b₀ w b → back ≤ w
  picks_reach {w} u = omega (arith, key_ge fixed w u.on, ok.reach)

  -- a key within the half: the walk stands at its place
  here_key : {w : ℕ} {b : Buffers} → Picked fixed back upper b₀ w b → w - back < length b.reals
      → Walked f b₀ (w - back) b × Has fixed (w - back + back)
  here_key {w} {b} u l =
      let here : min (w - back) size ≡ w - back = omega (arith, u.walked.same.reals) in
      let key : w ≡ w - back + back = omega (arith, picks_reach u) in
      (subst (λ (k : ℕ). Walked f b₀ k b) here u.walked, subst (Has fixed) key u.on)

  -- the place of the key w is done, which is the n-th: on to the next key
  picks_on : (w m n : ℕ) {b : Buffers} → m ≡ w + 1 → m ≡ n + back → Has fixed w → Walked f b₀ n b → Picked fixed back upper b₀ (bit_or m fixed) b
  picks_on w m n p q on u =
      let next : bit_or m fixed ≡ bit_or (w + 1) fixed = ap (λ (k : ℕ). bit_or k fixed) p in
      record {
        on = or_covers m fixed;
        walked = walk_skips f b₀ ok.equal (min (bit_or m fixed - back) size) u (omega (arith, or_ge m fixed, u.within)) (omega arith)
            (λ i x y. unchosen fixed back upper i
            (λ h. omega (arith, next_least w fixed (i + back) on h (let g : w < i + back = omega arith in g))));
      }

  pub picks_step : (w : ℕ) (b : Buffers) (x y : Float) → Picked fixed back upper b₀ w b → w - back < length b.reals
      → amplitude x y ≡ upper (at b (w - back))
      → Picked fixed back upper b₀ (bit_or (w + 1) fixed) (buffers (set b.reals (w - back) x) (set b.imags (w - back) y))
  picks_step w b x y u l e =
      let j : ℕ = w - back in
      let at_key = here_key u l in
      picks_on w (w + 1) (j + 1) refl (omega (arith, picks_reach u)) u.on
      (walk_steps f b₀ ok.equal j b x y at_key.0 l (e ∙ sym (here_chosen fixed back upper j at_key.1 (at b j))))

  -- an even key, and the one after it
  pub picks_two_steps : (w : ℕ) (b : Buffers) (x y z v : Float) → Picked fixed back upper b₀ w b → w % 2 ≡ 0 → w - back + 1 < length b.reals
      → amplitude x y ≡ upper (at b (w - back)) → amplitude z v ≡ upper (at b (w - back + 1))
      → Picked fixed back upper b₀ (bit_or (w + 2) fixed)
      (buffers (set (set b.reals (w - back) x) (w - back + 1) z) (set (set b.imags (w - back) y) (w - back + 1) v))
  picks_two_steps w b x y z v u even l e g =
      let j : ℕ = w - back in
      let at_key = here_key u (omega arith) in
      let second : Has fixed (w + 1) = beside fixed w u.on even in
      let key : w + 1 ≡ j + 1 + back = omega (arith, picks_reach u) in
      picks_on (w + 1) (w + 2) (j + 2) (omega arith) (omega (arith, picks_reach u)) second
      (walk_two_steps f b₀ ok.equal j b x y z v at_key.0 l
      (e ∙ sym (here_chosen fixed back upper j at_key.1 (at b j)))
      (g ∙ sym (here_chosen fixed back upper (j + 1) (subst (Has fixed) key second) (at b (j + 1)))))

  pub picks_end : (w : ℕ) (b : Buffers) → Picked fixed back upper b₀ w b → length b.reals ≤ w - back
      → Mapped f 0 (length b₀.reals) (at b₀) (at b) × SameSize b₀ b
  picks_end w b u l = walk_ends f b₀ ok.equal (min (w - back) size) b u.walked (omega (arith, u.walked.same.reals))
