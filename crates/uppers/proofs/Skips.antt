-- The blocks that hold a chosen place, one after the other, for any fixed bits and any of them taken back; and what the controls fix. Assumes nothing.
use Prim.Native.Nat.{ℕ, suc, ◌+◌, ◌-◌, ◌*◌, ◌%◌, ◌^◌, ◌≤◌, ◌<◌}
use mathlib.Core.Bool.{Bool, cond}
use mathlib.Core.Path.{◌≡◌, refl, sym, ap, ap₂, ◌∙◌, subst}
use native.Mathlib.Nat.{pow-suc, add-zero, zero-div}
use native.Mathlib.Omega.{arith}
use lib.Bits.{bit_and, bit_or, and_self, and_zero_r}
use lib.Dec.{eqb}
use lib.ListN.{length}
use Rattle.book.specs.Answers.{Buffers}
use Rattle.book.specs.State.{chosen}
use Rattle.book.specs.declared.Amplitude.{Amplitude}
use Rattle.book.specs.declared.Controls.{Controls}
use Rattle.halves.specs.Halves.{picked, turned_at, HalfTurned}
use Rattle.halves.proofs.Picks.{unchosen}
use Rattle.seated.specs.Judging.{Seated}
use Rattle.pairs.specs.Pairs.{Has}
use Rattle.pairs.proofs.Bits.{or_ge, or_covers, next_block}
use Rattle.pairs.proofs.Halves.{turn_same, Blocks, blocks_start, blocks_skip, blocks_room, blocks_steps}
use Rattle.pairs.proofs.Keys.{key_ge}
use Rattle.pairs.proofs.Lending.{lent, returned, lent_reals}
use Rattle.uppers.specs.Uppers.{Blocked}
use Rattle.uppers.proofs.Parts.{has_low, above, high_is, less_times, less, before_first, between, inner}

-- what is known at a block's key; x is the value of `1 << target`
pub record Among (fixed back : ℕ) (upper : Amplitude → Amplitude) (n t x : ℕ) (b₀ : Buffers) (key : ℕ) (b : Buffers) : Type 0 where
  pub blocks : Blocks (turned_at fixed back upper) n t b₀ (key - (back - back % x)) b
  pub number : ℕ
  pub here : key ≡ number * 2 ^ suc t
  pub on : Has (above t fixed) number

module _ (upper : Amplitude → Amplitude) {n t fixed back : ℕ} {b₀ : Buffers} (ok : Blocked n t fixed back b₀) where
  abbrev g : ℕ → Amplitude → Amplitude
  g = turned_at fixed back upper

  -- the place of a block's key
  base_is : (q : ℕ) → Has (above t fixed) q → q * 2 ^ suc t - (back - back % 2 ^ t) ≡ (q - above t back) * 2 ^ suc t
  base_is q on =
      let reach : above t back ≤ q = omega (arith, less t fixed back ok.free ok.off ok.among, key_ge (above t fixed) q on) in
      omega (arith, high_is t back ok.off, less_times q (above t back) (2 ^ suc t) reach)

  -- what is taken back of a block's key is not above it
  over_le : (q : ℕ) → Has (above t fixed) q → back - back % 2 ^ t ≤ q * 2 ^ suc t
  over_le q on =
      let reach : above t back ≤ q = omega (arith, less t fixed back ok.free ok.off ok.among, key_ge (above t fixed) q on) in
      omega (arith, high_is t back ok.off, less_times q (above t back) (2 ^ suc t) reach)

  pub among_reach : (x : ℕ) → x ≡ 2 ^ t → {key : ℕ} {b : Buffers} → Among fixed back upper n t x b₀ key b → back - back % x ≤ key
  among_reach x is u = omega (arith, u.here, over_le u.number u.on, ap (λ (y : ℕ). back % y) is)

  pub back_le : back ≤ fixed
  back_le = key_ge back fixed ok.among

  -- nor is what is taken back within a half
  pub under_le : (x : ℕ) → x ≡ 2 ^ t → back % x ≤ fixed % x
  under_le x is =
      subst (λ (y : ℕ). back % y ≤ fixed % y) (sym is) (key_ge (back % 2 ^ t) (fixed % 2 ^ t) (has_low t back fixed ok.among))

  abbrev Start : ℕ → Type 0
  Start x = Among fixed back upper n t x b₀ (fixed - fixed % x) b₀

  start : Start (2 ^ t)
  start =
      let here : fixed - fixed % 2 ^ t ≡ above t fixed * 2 ^ suc t = high_is t fixed ok.free in
      let base : fixed - fixed % 2 ^ t - (back - back % 2 ^ t) ≡ (above t fixed - above t back) * 2 ^ suc t =
      ap (λ (k : ℕ). k - (back - back % 2 ^ t)) here ∙ base_is (above t fixed) (and_self (above t fixed)) in
      record {
        blocks = blocks_skip g n t ok.qubit b₀ _ (above t fixed - above t back) (blocks_start g n t ok.qubit b₀) base (omega arith)
            (λ i x y. unchosen fixed back upper i (before_first t fixed back ok.free ok.off ok.among i (omega (arith, base))));
        number = above t fixed;
        here = here;
        on = and_self (above t fixed);
      }

  pub among_start : (x : ℕ) → x ≡ 2 ^ t → Start x
  among_start x is = subst Start (sym is) start

  module _ (key : ℕ) (b : Buffers) (reals : length b.reals ≡ 2 ^ n) (imags : length b.imags ≡ 2 ^ n) (p : Buffers) where
    -- the upper half was lent and came back with its chosen places turned
    abbrev Step : ℕ → Type 0
    Step x =
        let a = key - (back - back % x) + x in
        Among fixed back upper n t x b₀ key b → key - (back - back % x) < 2 ^ n
        → HalfTurned (turned_at (fixed % x) (back % x) upper) (lent a (a + x - a) b) p
        → Among fixed back upper n t x b₀ (bit_or (key + x + x) (fixed - fixed % x)) (returned a (a + x - a) b p)

    step : Step (2 ^ t)
    step u l (mapped, same) =
        let over : ℕ = back - back % 2 ^ t in
        let base : ℕ = key - over in
        let a : ℕ = base + 2 ^ t in
        let k : ℕ = a + 2 ^ t - a in
        let q : ℕ = u.number in
        let next : ℕ = bit_or (q + 1) (above t fixed) in
        let is : base ≡ (q - above t back) * 2 ^ suc t = ap (λ (z : ℕ). z - over) u.here ∙ base_is q u.on in
        let room = blocks_room g n t ok.qubit b₀ u.blocks l in
        let long : length (lent a k b).reals ≡ k = lent_reals a k b (omega arith) (omega arith) in
        let alike : (j : ℕ) → j < length (lent a k b).reals → (x : Amplitude) → turned_at (fixed % 2 ^ t) (back % 2 ^ t) upper j x ≡ g (a + j) x =
        (λ j y x. ap (λ (c : Bool). cond c (upper x) x)
        (inner t fixed back ok.free ok.off ok.among q j u.on (omega arith) ∙ ap (λ (z : ℕ). picked fixed back (z + 2 ^ t + j)) (sym is))) in
        let stepped = blocks_steps g n t ok.qubit b₀ u.blocks l (2 ^ t) refl reals imags p
        (turn_same (turned_at (fixed % 2 ^ t) (back % 2 ^ t) upper) (λ j. g (a + j)) alike mapped, same) in
        let end : key + 2 ^ t + 2 ^ t ≡ q * 2 ^ suc t + 2 ^ suc t = omega (arith, u.here, pow-suc 2 t) in
        let here : bit_or (key + 2 ^ t + 2 ^ t) (fixed - fixed % 2 ^ t) ≡ next * 2 ^ suc t =
        ap₂ bit_or end (high_is t fixed ok.free) ∙ next_block (suc t) q (above t fixed) in
        let on : Has (above t fixed) next = or_covers (q + 1) (above t fixed) in
        let then : bit_or (key + 2 ^ t + 2 ^ t) (fixed - fixed % 2 ^ t) - over ≡ (next - above t back) * 2 ^ suc t =
        ap (λ (z : ℕ). z - over) here ∙ base_is next on in
        record {
          blocks = blocks_skip g n t ok.qubit b₀ _ (next - above t back) stepped then
              (omega (arith, or_ge (key + 2 ^ t + 2 ^ t) (fixed - fixed % 2 ^ t), u.here, is, over_le q u.on))
              (λ i x y. unchosen fixed back upper i
              (between t fixed back ok.free ok.off ok.among q i u.on (omega (arith, is, pow-suc 2 t)) (omega (arith, then))));
          number = next;
          here = here;
          on = on;
        }

    pub among_step : (x : ℕ) → x ≡ 2 ^ t → Step x
    among_step x is = subst Step (sym is) step

-- ---- what the controls fix: all their ones, and nothing is taken back

module _ {n t : ℕ} {c : Controls} {b : Buffers} (ok : Seated n t c b) where
  pub blocked : Blocked n t c.ones 0 b
  blocked =
      record {
        fits = ok.fits;
        reals = ok.reals;
        imags = ok.imags;
        qubit = ok.qubit;
        below = ok.inside;
        free = ok.free;
        off = ap (λ (x : ℕ). x % 2) (zero-div (2 ^ t));
        among = and_zero_r c.ones;
      }

pub chosen_picked : (c : Controls) (i : ℕ) → picked c.ones 0 i ≡ chosen c i
unfolding chosen
chosen_picked c i = ap (λ (w : ℕ). eqb (bit_and w c.ones) c.ones) (add-zero i)
