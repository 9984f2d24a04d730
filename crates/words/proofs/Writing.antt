-- Words one behind the other, byte after byte and run after run; a line at the start of a buffer; and the fewest decimal digits by recursion. Assumes nothing.
use Prim.Native.Nat.{ℕ, zero, suc, ◌+◌, ◌-◌, ◌*◌, ◌/◌, ◌%◌, ◌^◌, ◌≤◌, ◌<◌}
use native.Mathlib.Nat.{zero-add, eq-zero-or-pos, one-le-pow, pow-le-pow_right}
use native.Mathlib.Numerals.{add-one}
use native.Mathlib.Omega.{arith}
use mathlib.Core.Logic.{⊎_elim}
use mathlib.Core.Path.{◌≡◌, refl, sym, ap, ◌∙◌}
use mathlib.Core.List.{List, [], ◌∷◌, ◌++◌}
use lib.Ieee.{Float, binary64, to_bits}
use lib.ListN.{length, drop, get_or, set, length-append, drop_of_length-le}
use lib.Seq.{sets, length-sets, sets-eq, drop-cons, length-take-le}
use borrow.Author.Tests.{lt-ltb, le-ltb}
use Rattle.io.specs.Digits.{hex_digit_ascii, last_digits, IsDigitCount}
use Rattle.stores.proofs.Stored.{store_then}
use Rattle.stores.specs.Stores.{store}
use Rattle.words.specs.Words.{decimal_in, decimal, bits, mark_digits, Added, Line}

-- ---- byte after byte

module _ (words : List ℕ) (at : ℕ) where
  pub stored_none : (l : List ℕ) (i : ℕ) → length words ≤ i → store l (at + i) (drop i words) ≡ l
  unfolding store
  stored_none l i h = ap (λ (ws : List ℕ). sets l (at + i) ws) (drop_of_length-le words {i = i} h)

  pub stored_step : (l : List ℕ) (i : ℕ) → i < length words
      → store (set l (at + i) (get_or words i 0)) (at + (i + 1)) (drop (i + 1) words) ≡ store l (at + i) (drop i words)
  unfolding store
  stored_step l i h =
      let next : at + (i + 1) ≡ suc (at + i) = omega arith in
      ap (λ (k : ℕ). sets (set l (at + i) (get_or words i 0)) k (drop (i + 1) words)) next
      ∙ ap (λ (ws : List ℕ). sets l (at + i) ws) (ap (λ (n : ℕ). get_or words i 0 ∷ drop n words) (add-one i) ∙ sym (drop-cons words i 0 h))

-- ---- run after run

pub then : {xs ys : List ℕ} {j k : ℕ} {l l₁ l₂ : List ℕ} {at at₁ at₂ : ℕ} → Added xs j l at at₁ l₁ → Added ys k l₁ at₁ at₂ l₂
    → Added (xs ++ ys) (j + k) l at at₂ l₂
then {xs} {ys} {j} {k} {l} {l₁} {l₂} {at} {at₁} {at₂} p q =
    record {
      behind = omega (arith, p.behind, q.behind, length-append xs ys);
      most = omega (arith, p.most, q.most, length-append xs ys);
      stored = store_then l l₁ l₂ at at₁ xs ys p.stored q.stored p.behind;
    }

pub nothing : (k : ℕ) (l : List ℕ) (at : ℕ) → Added [] k l at at l
unfolding store
nothing k l at = record { behind = omega arith; most = omega arith; stored = refl }

-- a larger bound
pub within : {xs : List ℕ} {j : ℕ} {l l₁ : List ℕ} {at at₁ : ℕ} (k : ℕ) → j ≤ k → Added xs j l at at₁ l₁ → Added xs k l at at₁ l₁
within k h p = record { behind = p.behind; most = omega (arith, p.most); stored = p.stored }

-- the same words
pub these : {xs : List ℕ} {j : ℕ} {l l₁ : List ℕ} {at at₁ : ℕ} (ys : List ℕ) (k : ℕ) → xs ≡ ys → length xs ≤ k → Added xs j l at at₁ l₁ → Added ys k l at at₁ l₁
these {xs} {j} {l} {l₁} {at} {at₁} ys k e h p =
    record {
      behind = p.behind ∙ ap (λ (ws : List ℕ). at + length ws) e;
      most = rw (← e) h;
      stored = p.stored ∙ ap (store l at) e;
    }

-- ---- a line

pub line : {xs : List ℕ} {k : ℕ} {l l₁ : List ℕ} {n : ℕ} → k ≤ length l → Added xs k l 0 n l₁ → Line xs l n l₁
unfolding store
line {xs} {k} {l} {l₁} {n} h p =
    let many : n ≡ length xs = p.behind ∙ zero-add (length xs) in
    let room : length xs ≤ length l = omega (arith, p.most) in
    let same : length l₁ ≡ length l = ap length p.stored ∙ length-sets l 0 xs in
    let fits : n ≤ length l₁ = omega arith in
    record {
      many = many;
      holds = p.stored ∙ sets-eq xs l 0 (rw zero-add room) ∙ ap (λ (i : ℕ). xs ++ drop i l) (zero-add (length xs));
      counts = (fits, sym (length-take-le n l₁ fits));
    }

-- ---- digits

-- fewest digits are no more than any that hold the number
pub few : (b least m k n : ℕ) → 1 ≤ b → least ≤ m → n < b ^ m → (least < k → b ^ (k - 1) ≤ n) → k ≤ m
few b least m k n one h l q =
    ⊎_elim
    (λ same. omega arith)
    (λ pos. let up : b ^ m ≤ b ^ (m + (k - m) - 1) = pow-le-pow_right one (omega arith) in
    let e : m + (k - m) - 1 ≡ k - 1 = omega arith in
    absurd (omega (arith, rw e at up, q (omega arith))))
    (eq-zero-or-pos (k - m))

tenfold : (k : ℕ) → 10 ^ suc k ≡ 10 * 10 ^ k
tenfold k = omega arith

small : (f n : ℕ) → n < 10 → hex_digit_ascii (n % 10) ∷ [] ≡ decimal_in (suc f) n
small f n h =
    let e : n % 10 ≡ n = omega arith in
    rw (e, lt-ltb n 10 h)

fewest : (f k n : ℕ) → k ≤ f → IsDigitCount 10 1 n k → last_digits 10 k n ≡ decimal_in f n
fewest f zero n h q = absurd (omega arith)
fewest zero (suc k) n h q = absurd (omega arith)
fewest (suc f) (suc zero) n h q = small f n (omega (arith, q.1))
fewest (suc f) (suc (suc k)) n h q =
    let one_less : suc (suc k) - 1 ≡ suc k = omega arith in
    let two_less : suc k - 1 ≡ k = omega arith in
    let least : 10 ^ suc k ≤ n = rw one_less at (q.2 (omega arith)) in
    let one : 1 ≤ 10 ^ k = one-le-pow k 10 (omega arith) in
    let ten : 10 ≤ n = omega (arith, tenfold k) in
    let below : n / 10 < 10 ^ suc k = omega (arith, tenfold (suc k), q.1) in
    let above : 1 < suc k → 10 ^ (suc k - 1) ≤ n / 10 = λ _. rw two_less (omega (arith, tenfold k)) in
    rw (le-ltb n 10 ten, fewest f (suc k) (n / 10) (omega arith) (omega arith, below, above))

pub decimal_is : (k n : ℕ) → k ≤ 20 → IsDigitCount 10 1 n k → last_digits 10 k n ≡ decimal n
unfolding decimal
decimal_is k n h q = fewest 20 k n h q

-- ---- hex digits

pub bits_is : (x : Float) {n : ℕ} {l l₁ : List ℕ} {at at₁ : ℕ} → n ≡ to_bits binary64 x
    → Added (last_digits 16 16 n) 16 l at at₁ l₁ → Added (bits x) 16 l at at₁ l₁
unfolding bits
bits_is x e p = rw (← e) p

pub mark_is : (mark : ℕ) {l l₁ : List ℕ} {at at₁ : ℕ} → Added (last_digits 16 8 mark) 8 l at at₁ l₁ → Added (mark_digits mark) 8 l at at₁ l₁
unfolding mark_digits
mark_is mark p = p
