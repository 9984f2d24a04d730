-- Places turned one by one, over any function of the place: a walk along a lent part, and the upper half of each block in turn.
-- What a gate that leaves s0 does is this, with the identity on the lower halves. Assumes nothing.
use Prim.Native.Nat.{ℕ, zero, suc, ◌+◌, ◌-◌, ◌*◌, ◌^◌, ◌≤◌, ◌<◌}
use mathlib.Core.Bool.{Bool, true, false, cond}
use mathlib.Core.Logic.{⊎_elim}
use mathlib.Core.Path.{◌≡◌, refl, sym, ap, ap₂, ◌∙◌, subst}
use native.Mathlib.Decide.{dec_lt}
use native.Mathlib.Nat.{pow-suc, add-mul, one-mul}
use native.Mathlib.Omega.{arith}
use lib.Ieee.{Float, nan}
use lib.ListN.{length, set, length-set}
use lib.Seq.{get_or-set_same, get_or-set_other}
use Rattle.book.specs.Answers.{Buffers, buffers}
use Rattle.book.specs.Lent.{SameSize}
use Rattle.book.specs.State.{State, amplitude, at, bit, chosen, half, choice, pair, place_by, placed, on_pairs}
use Rattle.book.specs.declared.Amplitude.{Amplitude}
use Rattle.book.specs.declared.Controls.{Controls}
use Rattle.book.specs.declared.Pair.{Pair}
use Rattle.seated.specs.Judging.{Seated}
use Rattle.pairs.specs.Pairs.{Mapped, UppersTurned}
use Rattle.pairs.proofs.Bits.{halves}
use Rattle.book.proofs.Tables.{held_only as held_ext}
use Rattle.pairs.proofs.Lending.{lent, returned, lent_reals, lent_place, back_same, back_inside, back_before, back_after}
use Rattle.pairs.proofs.Blocks.{Base, room, low, high as upper}

module _ (f : ℕ → Amplitude → Amplitude) where
  -- no place yet
  pub turn_none : (a : ℕ) (s : State) → Mapped f a a s s
  turn_none a s = record { inside = λ i x y. absurd (omega arith); before = λ i x. refl; after = λ i x. refl }

  -- a stretch that f leaves as it is
  pub turn_idle : (a b : ℕ) (s : State) → ((i : ℕ) → a ≤ i → i < b → f i (s i) ≡ s i) → Mapped f a b s s
  turn_idle a b s idle = record { inside = λ i x y. sym (idle i x y); before = λ i x. refl; after = λ i x. refl }

  -- a function that makes the same of each place
  pub turn_same : (g : ℕ → Amplitude → Amplitude) {a b : ℕ} {s s' : State} → ((i : ℕ) → i < b → (x : Amplitude) → f i x ≡ g i x) → Mapped f a b s s'
      → Mapped g a b s s'
  turn_same g {s = s} same p = record { inside = λ i x y. p.inside i x y ∙ same i y (s i); before = p.before; after = p.after }

  -- from a to b, then on to c
  pub turn_join : {a b c : ℕ} {s s' s'' : State} → a ≤ b → b ≤ c → Mapped f a b s s' → Mapped f b c s' s'' → Mapped f a c s s''
  turn_join {a} {b} {c} {s} {s'} {s''} ab bc p q =
      record {
        inside = λ i x y. elim (dec_lt i b) [
          | yes h ↦ q.before i h ∙ p.inside i x h
          | no h ↦ q.inside i (omega arith) y ∙ ap (f i) (p.after i (omega arith))
        ];
        before = λ i x. q.before i (omega arith) ∙ p.before i x;
        after = λ i x. q.after i x ∙ p.after i (omega arith);
      }

  -- one place stored in both buffers
  pub turn_one : (j : ℕ) (b : Buffers) (x y : Float) → j < length b.reals → j < length b.imags → amplitude x y ≡ f j (at b j)
      → Mapped f j (j + 1) (at b) (at (buffers (set b.reals j x) (set b.imags j y)))
  turn_one j b x y lr li e =
      record {
        inside = λ i p q.
            let z : j ≡ i = omega arith in
            subst (λ (k : ℕ). at (buffers (set b.reals j x) (set b.imags j y)) k ≡ f k (at b k)) z
            (ap₂ amplitude (get_or-set_same b.reals j x nan lr) (get_or-set_same b.imags j y nan li) ∙ e);
        before = λ i p. other i (λ z. omega arith);
        after = λ i p. other i (λ z. omega arith);
      }
    where
      other : (i : ℕ) → (i ≡ j → ⊥) → at (buffers (set b.reals j x) (set b.imags j y)) i ≡ at b i
      other i ne = ap₂ amplitude (get_or-set_other b.reals j i x nan ne) (get_or-set_other b.imags j i y nan ne)

-- ---- a walk along a part
pub record Walked (f : ℕ → Amplitude → Amplitude) (b₀ : Buffers) (j : ℕ) (b : Buffers) : Type 0 where
  pub same : SameSize b₀ b
  pub within : j ≤ length b₀.reals
  pub turned : Mapped f 0 j (at b₀) (at b)

module _ (f : ℕ → Amplitude → Amplitude) (b₀ : Buffers) (equal : length b₀.imags ≡ length b₀.reals) where
  pub walk_starts : Walked f b₀ 0 b₀
  walk_starts = record { same = record { reals = refl; imags = refl }; within = omega arith; turned = turn_none f 0 (at b₀) }

  pub walk_steps : (j : ℕ) (b : Buffers) (x y : Float) → Walked f b₀ j b → j < length b.reals → amplitude x y ≡ f j (at b j)
      → Walked f b₀ (j + 1) (buffers (set b.reals j x) (set b.imags j y))
  walk_steps j b x y u l e =
      record {
        same = record { reals = length-set b.reals j x ∙ u.same.reals; imags = length-set b.imags j y ∙ u.same.imags };
        within = omega (arith, u.same.reals);
        turned = turn_join f (omega arith) (omega arith) u.turned (turn_one f j b x y l (omega (arith, u.same.reals, u.same.imags)) e);
      }

  -- on to k, past places that f leaves as they are
  pub walk_skips : {j : ℕ} {b : Buffers} (k : ℕ) → Walked f b₀ j b → j ≤ k → k ≤ length b₀.reals → ((i : ℕ) → j ≤ i → i < k → (x : Amplitude) → f i x ≡ x)
      → Walked f b₀ k b
  walk_skips {j} {b} k u l m idle =
      record { same = u.same; within = m; turned = turn_join f (omega arith) l u.turned (turn_idle f j k (at b) (λ i x y. idle i x y (at b i))) }

  -- two places at once
  pub walk_two_steps : (j : ℕ) (b : Buffers) (x y z w : Float) → Walked f b₀ j b → j + 1 < length b.reals → amplitude x y ≡ f j (at b j)
      → amplitude z w ≡ f (j + 1) (at b (j + 1))
      → Walked f b₀ (j + 2) (buffers (set (set b.reals j x) (j + 1) z) (set (set b.imags j y) (j + 1) w))
  walk_two_steps j b x y z w u l e g =
      let b₁ : Buffers = buffers (set b.reals j x) (set b.imags j y) in
      let first = turn_one f j b x y (omega arith) (omega (arith, u.same.reals, u.same.imags)) e in
      let two : j + 1 + 1 ≡ j + 2 = omega arith in
      subst (λ (k : ℕ). Walked f b₀ k (buffers (set b₁.reals (j + 1) z) (set b₁.imags (j + 1) w))) two
      (walk_steps (j + 1) b₁ z w (walk_steps j b x y u (omega arith) e)
      (omega (arith, length-set b.reals j x)) (g ∙ ap (f (j + 1)) (sym (first.after (j + 1) (omega arith)))))

  pub walk_ends : (j : ℕ) (b : Buffers) → Walked f b₀ j b → length b.reals ≤ j → Mapped f 0 (length b₀.reals) (at b₀) (at b) × SameSize b₀ b
  walk_ends j b u l =
      let e : j ≡ length b₀.reals = omega (arith, u.within, u.same.reals) in
      (subst (λ (k : ℕ). Mapped f 0 k (at b₀) (at b)) e u.turned, u.same)

-- ---- the blocks: base is where a block starts
up_by : ℕ → (Amplitude → Amplitude) → Amplitude → Amplitude
up_by zero f x = x
up_by (suc b) f x = f x

-- g on the upper halves
pub on_upper : (ℕ → Amplitude → Amplitude) → ℕ → ℕ → Amplitude → Amplitude
on_upper g t i = up_by (bit t i) (g i)

pub record Blocks (g : ℕ → Amplitude → Amplitude) (n t : ℕ) (b₀ : Buffers) (base : ℕ) (b : Buffers) : Type 0 where
  pub same : SameSize b₀ b
  pub block : ℕ
  pub here : base ≡ block * 2 ^ suc t
  pub turned : Mapped (on_upper g t) 0 base (at b₀) (at b)

module _ (g : ℕ → Amplitude → Amplitude) (n t : ℕ) (qubit : t < n) (b₀ : Buffers) where
  pub blocks_start : Blocks g n t b₀ 0 b₀
  blocks_start =
      record { same = record { reals = refl; imags = refl }; block = 0; here = omega arith; turned = turn_none (on_upper g t) 0 (at b₀) }

  -- on to a later block, past places that g leaves as they are; that block may start behind the end
  pub blocks_skip : {base : ℕ} {b : Buffers} (k block : ℕ) → Blocks g n t b₀ base b → k ≡ block * 2 ^ suc t → base ≤ k
      → ((i : ℕ) → base ≤ i → i < k → (x : Amplitude) → g i x ≡ x) → Blocks g n t b₀ k b
  unfolding on_upper up_by
  blocks_skip {base} {b} k block u here l idle =
      record {
        same = u.same;
        block = block;
        here = here;
        turned = turn_join (on_upper g t) (omega arith) l u.turned (turn_idle (on_upper g t) base k (at b) (λ i x y. go (bit t i) (idle i x y (at b i))));
      }
    where
      go : {i : ℕ} {x : Amplitude} (k : ℕ) → g i x ≡ x → up_by k (g i) x ≡ x
      go zero e = refl
      go (suc k) e = e

  module _ {base : ℕ} {b : Buffers} (u : Blocks g n t b₀ base b) (l : base < 2 ^ n) where
    more : 2 ^ suc t ≡ 2 ^ t + 2 ^ t
    more = omega (arith, pow-suc 2 t)

    starts : Base n t base
    starts = record { block = u.block; here = u.here; within = omega arith }

    pub blocks_room : base + 2 ^ t + 2 ^ t ≤ 2 ^ n
    blocks_room = room starts qubit l

    low_bit : (i : ℕ) → base ≤ i → i < base + 2 ^ t → bit t i ≡ 0
    low_bit = low starts qubit l

    high_bit : (i : ℕ) → base + 2 ^ t ≤ i → i < base + 2 ^ t + 2 ^ t → bit t i ≡ 1
    high_bit = upper starts qubit l

    -- the upper half was lent and came back turned
    pub blocks_step : (reals : length b.reals ≡ 2 ^ n) (imags : length b.imags ≡ 2 ^ n) (p : Buffers)
        → Mapped (λ j. g (base + 2 ^ t + j)) 0 (length (lent (base + 2 ^ t) (2 ^ t) b).reals) (at (lent (base + 2 ^ t) (2 ^ t) b)) (at p) × SameSize
        (lent (base + 2 ^ t) (2 ^ t) b) p
        → Blocks g n t b₀ (base + 2 ^ t + 2 ^ t) (returned (base + 2 ^ t) (2 ^ t) b p)
    unfolding on_upper up_by
    blocks_step reals imags p (tu, same) =
        let a : ℕ = base + 2 ^ t in
        let fr : a + 2 ^ t ≤ length b.reals = omega (arith, blocks_room) in
        let fi : a + 2 ^ t ≤ length b.imags = omega (arith, blocks_room) in
        let back : SameSize b (returned a (2 ^ t) b p) = back_same a (2 ^ t) b fr fi p same in
        let lower : Mapped (on_upper g t) base a (at b) (at b) =
        turn_idle (on_upper g t) base a (at b) (λ i x y. ap (λ (k : ℕ). up_by k (g i) (at b i)) (low_bit i x y)) in
        let upper : Mapped (on_upper g t) a (a + 2 ^ t) (at b) (at (returned a (2 ^ t) b p)) =
        record {
          inside = λ i x y.
              let j : ℕ = i - a in
              let e : a + j ≡ i = omega arith in
              subst (λ (k : ℕ). at (returned a (2 ^ t) b p) k ≡ g k (at b k)) e
              (back_inside a (2 ^ t) b fr fi p same j (omega arith) ∙ tu.inside j (omega arith) (omega (arith, lent_reals a (2 ^ t) b fr fi))
              ∙ ap (g (a + j)) (lent_place a (2 ^ t) b fr fi j (omega arith)))
              ∙ sym (ap (λ (k : ℕ). up_by k (g i) (at b i)) (high_bit i x y));
          before = back_before a (2 ^ t) b fr fi p same;
          after = back_after a (2 ^ t) b fr fi p same;
        } in
        record {
          same = record { reals = back.reals ∙ u.same.reals; imags = back.imags ∙ u.same.imags };
          block = u.block + 1;
          here = omega (arith, u.here, more, add-mul u.block 1 (2 ^ suc t), one-mul (2 ^ suc t));
          turned = turn_join (on_upper g t) (omega arith) (omega arith) u.turned (turn_join (on_upper g t) (omega arith) (omega arith) lower upper);
        }

    -- the same in the code's terms: bit is the value of `1 << target`
    abbrev Step : ℕ → ℕ → Buffers → Type 0
    Step x k p =
        Mapped (λ j. g (base + x + j)) 0 (length (lent (base + x) k b).reals) (at (lent (base + x) k b)) (at p) × SameSize (lent (base + x) k b) p
        → Blocks g n t b₀ (base + x + x) (returned (base + x) k b p)

    pub blocks_steps : (bit : ℕ) → bit ≡ 2 ^ t → length b.reals ≡ 2 ^ n → length b.imags ≡ 2 ^ n → (p : Buffers)
        → Step bit (base + bit + bit - (base + bit)) p
    blocks_steps bit e reals imags p =
        let k : base + bit + bit - (base + bit) ≡ 2 ^ t = omega arith in
        subst (λ (x : ℕ). Step x (base + bit + bit - (base + bit)) p) (sym e) (subst (λ (x : ℕ). Step (2 ^ t) x p) (sym k) (blocks_step reals imags p))

-- past the last block
pub blocks_end : (g : ℕ → Amplitude → Amplitude) (n t : ℕ) {b b' : Buffers} (base : ℕ) → Blocks g n t b base b' → 2 ^ n ≤ base → UppersTurned g n t b b'
unfolding on_upper up_by
blocks_end g n t {b} base u l =
    record {
      same = u.same;
      lower = λ i il z. u.turned.inside i (omega arith) (omega arith) ∙ ap (λ (k : ℕ). up_by k (g i) (at b i)) z;
      upper = λ i il o. u.turned.inside i (omega arith) (omega arith) ∙ ap (λ (k : ℕ). up_by k (g i) (at b i)) o;
    }

-- ---- a gate that leaves s0 is its s1 on the upper halves, where the controls choose
module _ (rule : Pair → Pair) (up : Amplitude → Amplitude) (keeps : (p : Pair) → rule p ≡ pair p.s0 (up p.s1)) (t : ℕ) (c : Controls) (s : State)
    (i : ℕ) where
  by_bit : (x : Bool) (k : ℕ) → place_by (half x k) rule s (2 ^ t) i ≡ up_by k (λ z. cond x (up z) z) (s i)
  unfolding up_by
  by_bit false zero = refl
  by_bit false (suc k) = refl
  by_bit true zero = ap (λ (p : Pair). p.s0) (keeps (pair (s i) (s (i + 2 ^ t))))
  by_bit true (suc k) = ap (λ (p : Pair). p.s1) (keeps (pair (s (i - 2 ^ t)) (s i)))

  placed_by : (k : ℕ) → bit t i ≡ k → placed rule t c s i ≡ up_by k (λ z. cond (chosen c i) (up z) z) (s i)
  unfolding placed choice
  placed_by k e = ap (λ (k : ℕ). place_by (half (chosen c i) k) rule s (2 ^ t) i) e ∙ by_bit (chosen c i) k

-- whatever says which places are chosen
pub uppers_gate : {n t : ℕ} {c : Controls} {b b' : Buffers} (rule : Pair → Pair) (up : Amplitude → Amplitude) → Seated n t c b
    → ((p : Pair) → rule p ≡ pair p.s0 (up p.s1)) → (pick : ℕ → Bool) → ((i : ℕ) → pick i ≡ chosen c i)
    → UppersTurned (λ i x. cond (pick i) (up x) x) n t b b' → b' ≡ on_pairs rule n t c b
unfolding on_pairs up_by
uppers_gate {n} {t} {c} {b} {b'} rule up ok keeps pick same u =
    held_ext (2 ^ n) (placed rule t c (at b)) b' (u.same.reals ∙ ok.reals) (u.same.imags ∙ ok.imags)
    (λ i il. ⊎_elim
    (λ z. u.lower i il z ∙ sym (placed_by rule up keeps t c (at b) i 0 z))
    (λ o. u.upper i il o ∙ ap (λ (x : Bool). cond x (up (at b i)) (at b i)) (same i) ∙ sym (placed_by rule up keeps t c (at b) i 1 o))
    (halves t i))
