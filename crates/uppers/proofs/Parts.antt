-- A key in parts, for any fixed bits and any of them taken back: those above the target choose the block, those below it the places of a half.
-- By division: the block's number is the quotient by 2 * 2^target, and no part of a key is below what is taken back of it. Assumes nothing.
use Prim.Native.Nat.{ℕ, suc, ◌+◌, ◌-◌, ◌*◌, ◌/◌, ◌%◌, ◌^◌, ◌≤◌, ◌<◌}
use mathlib.Core.Path.{◌≡◌, sym, ap, ap₂, ◌∙◌, subst}
use native.Mathlib.Decide.{ℕ_discrete, dec_lt}
use native.Mathlib.Nat.{pow-suc, mod-lt, mod-eq_of_lt, add-mod_right, mul_comm}
use native.Mathlib.Nat.{mul_assoc, mul-add-mod_self_right, add-mul, one-mul, lt_of_mul-lt-mul_right, mul-le-mul_right}
use native.Mathlib.Numerals.{add-one}
use native.Mathlib.Omega.{arith}
use borrow.Author.Tests.{eq-eqb, ne_eqb}
use lib.Arith.{bin_ind}
use lib.Bits.{bit_and, bit_or, and_step, and_block, and_shr, and_mod, and_zero_l, and_zero_r}
use lib.Pow.{pow_pos, split, shr-shr}
use Rattle.book.specs.State.{bit}
use Rattle.halves.specs.Halves.{picked}
use Rattle.pairs.specs.Pairs.{Has}
use Rattle.pairs.proofs.Bits.{next_least}
use Rattle.pairs.proofs.Keys.{key_ge}

has_high : (k m w : ℕ) → Has m w → Has (m / 2 ^ k) (w / 2 ^ k)
has_high k m w h = sym (and_shr w m k) ∙ ap (λ (x : ℕ). x / 2 ^ k) h

pub has_low : (k m w : ℕ) → Has m w → Has (m % 2 ^ k) (w % 2 ^ k)
has_low k m w h = sym (and_mod w m k) ∙ ap (λ (x : ℕ). x % 2 ^ k) h

-- what has all bits of a set has those of a part of it
has_part : (m p w : ℕ) → Has p m → Has m w → Has p w
has_part m =
    bin_ind (λ (n : ℕ). (p w : ℕ) → bit_and n p ≡ p → bit_and w n ≡ n → bit_and w p ≡ p)
    (λ p w e f.
    let z : p ≡ 0 = sym e ∙ and_zero_l p in
    ap (bit_and w) z ∙ and_zero_r w ∙ sym z)
    (λ n ih p w e f.
    let ep : bit_and (n / 2) (p / 2) ≡ p / 2 = omega (arith, and_step n p) in
    let lp : p % 2 ≤ n % 2 = omega (arith, and_step n p) in
    let ew : bit_and (w / 2) (n / 2) ≡ n / 2 = omega (arith, and_step w n) in
    let lw : n % 2 ≤ w % 2 = omega (arith, and_step w n) in
    omega (arith, and_step w p, ih (p / 2) (w / 2) ep ew)) m

-- ---- the bits above the target, as a block's number has them
abbrev pub above : ℕ → ℕ → ℕ
above t m = m / 2 ^ suc t

module _ (t m : ℕ) (free : bit t m ≡ 0) where
  above_twice : m / 2 ^ t ≡ above t m * 2
  above_twice = let d : m / 2 ^ t / 2 ≡ above t m = shr-shr m t 1 ∙ ap (λ (k : ℕ). m / 2 ^ k) (add-one t) in omega arith

  pub parts : above t m * 2 * 2 ^ t + m % 2 ^ t ≡ m
  parts = ap (λ (z : ℕ). z * 2 ^ t + m % 2 ^ t) (sym above_twice) ∙ split m t

pub twice : (t q : ℕ) → q * 2 ^ suc t ≡ q * 2 * 2 ^ t
twice t q = ap (λ (z : ℕ). q * z) (pow-suc 2 t ∙ mul_comm (2 ^ t) 2) ∙ sym (mul_assoc q 2 (2 ^ t))

pub high_is : (t m : ℕ) → bit t m ≡ 0 → m - m % 2 ^ t ≡ above t m * 2 ^ suc t
high_is t m free = omega (arith, parts t m free, twice t (above t m))

-- a product with a difference
pub less_times : (q b x : ℕ) → b ≤ q → q * x ≡ (q - b) * x + b * x
less_times q b x l = let e : q ≡ q - b + b = omega arith in ap (λ (z : ℕ). z * x) e ∙ add-mul (q - b) b x

module _ (t fixed back : ℕ) (free : bit t fixed ≡ 0) (off : bit t back ≡ 0) (among : Has back fixed) where
  pub less : above t back ≤ above t fixed
  less = key_ge (above t back) (above t fixed) (has_high (suc t) back fixed among)

  -- the block of a chosen place
  record Block (i : ℕ) : Type 0 where
    number : ℕ
    from : number * 2 ^ suc t ≤ i
    to : i < number * 2 ^ suc t + 2 ^ suc t
    on : Has (above t fixed) (number + above t back)

  block_of : (i : ℕ) → Has fixed (i + back) → Block i
  block_of i h =
      let w : ℕ = i + back in
      let q : ℕ = w / 2 ^ suc t in
      let has : Has back w = has_part fixed back w among h in
      let reach : above t back ≤ q = key_ge (above t back) q (has_high (suc t) back w has) in
      let low : back % 2 ^ suc t ≤ w % 2 ^ suc t = key_ge (back % 2 ^ suc t) (w % 2 ^ suc t) (has_low (suc t) back w has) in
      let e : q ≡ q - above t back + above t back = omega arith in
      let m : q * 2 ^ suc t ≡ (q - above t back) * 2 ^ suc t + above t back * 2 ^ suc t = less_times q (above t back) (2 ^ suc t) reach in
      record {
        number = q - above t back;
        from = omega (arith, m, low, split w (suc t), split back (suc t));
        to = omega (arith, m, low, split w (suc t), split back (suc t), mod-lt w (pow_pos (suc t)));
        on = subst (Has (above t fixed)) e (has_high (suc t) fixed w h);
      }

  -- none is chosen before the first block
  pub before_first : (i : ℕ) → i < (above t fixed - above t back) * 2 ^ suc t → Has fixed (i + back) → ⊥
  before_first i l h =
      let d = block_of i h in
      let m : above t fixed - above t back ≤ d.number = omega (arith, key_ge (above t fixed) (d.number + above t back) d.on) in
      omega (arith, d.from, mul-le-mul_right (2 ^ suc t) m)

  -- nor from the end of a block to the next
  pub between : (q i : ℕ) → Has (above t fixed) q → (q - above t back) * 2 ^ suc t + 2 ^ suc t ≤ i
      → i < (bit_or (q + 1) (above t fixed) - above t back) * 2 ^ suc t → Has fixed (i + back) → ⊥
  between q i on x y h =
      let d = block_of i h in
      let low : q - above t back < d.number = lt_of_mul-lt-mul_right (2 ^ suc t) (omega (arith, d.to)) in
      let high : d.number < bit_or (q + 1) (above t fixed) - above t back = lt_of_mul-lt-mul_right (2 ^ suc t) (omega (arith, d.from)) in
      omega (arith, next_least q (above t fixed) (d.number + above t back) on d.on (let g : q < d.number + above t back = omega arith in g))

  -- ---- within the upper half of a block

  -- a sum that has all bits of the one part below 2 ^ t does not carry
  stays : (j s : ℕ) → j < 2 ^ t → s < 2 ^ t → Has s ((j + s) % 2 ^ t) → j + s < 2 ^ t
  stays j s a b h =
      elim (dec_lt (j + s) (2 ^ t)) [
        | yes l ↦ l
        | no l ↦
            let c : ℕ = j + s - 2 ^ t in
            let e : j + s ≡ c + 2 ^ t = omega arith in
            let m : (j + s) % 2 ^ t ≡ c = ap (λ (x : ℕ). x % 2 ^ t) e ∙ add-mod_right c (2 ^ t) ∙ mod-eq_of_lt (let g : c < 2 ^ t = omega arith in g) in
            absurd (omega (arith, m, key_ge s ((j + s) % 2 ^ t) h))
      ]

  module _ (q j : ℕ) (on : Has (above t fixed) q) (l : j < 2 ^ t) where
    abbrev low : ℕ
    low = fixed % 2 ^ t

    abbrev under : ℕ
    under = back % 2 ^ t

    low_lt : low < 2 ^ t
    low_lt = mod-lt fixed (pow_pos t)

    under_lt : under < 2 ^ t
    under_lt = mod-lt back (pow_pos t)

    reach : above t back ≤ q
    reach = omega (arith, less, key_ge (above t fixed) q on)

    abbrev place : ℕ
    place = (q - above t back) * 2 ^ suc t + 2 ^ t + j

    key_is : place + back ≡ (q * 2 + 1) * 2 ^ t + (j + under)
    key_is =
        omega (
          arith,
          less_times q (above t back) (2 ^ suc t) reach,
          twice t q,
          twice t (above t back),
          parts t back off,
          add-mul (q * 2) 1 (2 ^ t),
          one-mul
              (2 ^ t),
        )

    inner_yes : Has low (j + under) → Has fixed (place + back)
    inner_yes h =
        let part : Has under low = has_low t back fixed among in
        let has : Has under (j + under) = has_part low under (j + under) part h in
        let m : under % 2 ^ t ≡ under = mod-eq_of_lt under_lt in
        let short : j + under < 2 ^ t = stays j under l under_lt (subst (λ (x : ℕ). Has x ((j + under) % 2 ^ t)) m (has_low t under (j + under) has)) in
        let c : ℕ = above t fixed * 2 in
        let d : (q * 2 + 1) / 2 ≡ q = omega arith in
        let e : c / 2 ≡ above t fixed = omega arith in
        let s : bit_and ((q * 2 + 1) / 2) (c / 2) ≡ above t fixed = ap₂ bit_and d e ∙ on in
        let u : bit_and (q * 2 + 1) c ≡ c = omega (arith, and_step (q * 2 + 1) c) in
        let f : c * 2 ^ t + low ≡ fixed = parts t fixed free in
        ap₂ bit_and key_is (sym f) ∙ and_block t (q * 2 + 1) c (j + under) low short low_lt ∙ ap₂ (λ (x y : ℕ). x * 2 ^ t + y) u h ∙ f

    inner_no : Has fixed (place + back) → Has low (j + under)
    inner_no h =
        let w : ℕ = place + back in
        let m : w % 2 ^ t ≡ (j + under) % 2 ^ t =
        ap (λ (x : ℕ). x % 2 ^ t) key_is ∙ mul-add-mod_self_right (q * 2 + 1) (2 ^ t) (j + under) in
        let has : Has under ((j + under) % 2 ^ t) = subst (Has under) m (has_low t back w (has_part fixed back w among h)) in
        let short : j + under < 2 ^ t = stays j under l under_lt has in
        subst (Has low) (m ∙ mod-eq_of_lt short) (has_low t fixed w h)

    -- the fixed bits below the target choose
    pub inner : picked low under j ≡ picked fixed back place
    inner =
        elim (ℕ_discrete (bit_and (j + under) low) low) [
          | yes e ↦ eq-eqb _ _ e ∙ sym (eq-eqb _ _ (inner_yes e))
          | no e ↦ ne_eqb _ _ e ∙ sym (ne_eqb _ _ (λ h. e (inner_no h)))
        ]
