-- Big-endian numbers, over any width: what is written in k bytes is read back, bytes that are read are written as they were, and
-- k bytes hold the numbers below 256 ^ k. By induction on the width; the byte that a loop adds or takes off stands at the low end. Assumes nothing.
use Prim.Native.Nat.{ℕ, zero, suc, ◌+◌, ◌*◌, ◌%◌, ◌^◌, ◌<◌, ◌≤◌}
use native.Mathlib.Nat.{div-add-mod', mod-lt, mul-add-div_right, mul-add-mod_self_right, div-eq_of_lt, mod-eq_of_lt, mul-le-mul_right, add-zero}
use native.Mathlib.Numerals.{add-one}
use native.Mathlib.Omega.{arith}
use mathlib.Core.Path.{◌≡◌, refl, ap, ◌∙◌}
use mathlib.Core.List.{List, [], ◌∷◌, ◌++◌}
use lib.ListN.{length, get_or, take, drop, length-append, length-drop}
use lib.Seq.{get_or-drop, take-suc}
use Rattle.book.specs.Records.{bytes, number}
use Rattle.wire.specs.Bytes.{Bytes}

pub length_bytes : (k n : ℕ) → length (bytes k n) ≡ k
length_bytes zero n = refl
length_bytes (suc k) n = ap suc (length_bytes k (n % 256 ^ k))

pub pow256_pos : (k : ℕ) → 0 < 256 ^ k
pow256_pos zero = omega arith
pow256_pos (suc k) = omega (arith, pow256_pos k)

-- ---- there and back

pub number_bytes : (k n : ℕ) → n < 256 ^ k → number (bytes k n) ≡ n
number_bytes zero n h = omega arith
number_bytes (suc k) n h =
    rw (length_bytes k (n % 256 ^ k), number_bytes k (n % 256 ^ k) (mod-lt n (pow256_pos k)))
    (div-add-mod' n (256 ^ k))

-- a byte above k others
place_lt : (b k n : ℕ) → b < 256 → n < 256 ^ k → b * 256 ^ k + n < 256 ^ suc k
place_lt b k n h l =
    let m : suc b * 256 ^ k ≤ 256 * 256 ^ k = mul-le-mul_right (256 ^ k) h in
    omega arith

pub number_lt : (bs : List ℕ) → Bytes bs → number bs < 256 ^ length bs
number_lt [] h = omega arith
number_lt (b ∷ bs) h = place_lt b (length bs) (number bs) (h 0) (number_lt bs (λ i. h (suc i)))

pub bytes_number : (bs : List ℕ) → Bytes bs → bytes (length bs) (number bs) ≡ bs
bytes_number [] h = refl
bytes_number (b ∷ bs) h =
    let small = number_lt bs (λ i. h (suc i)) in
    rw (
      mul-add-div_right (pow256_pos (length bs)) b (number bs),
      mul-add-mod_self_right b (256 ^ length bs) (number bs),
      div-eq_of_lt small,
      mod-eq_of_lt small,
      bytes_number bs (λ i. h (suc i)),
      add-zero b,
    )

-- bytes of a known length
pub bytes_back : (k : ℕ) (bs : List ℕ) → Bytes bs → length bs ≡ k → bytes k (number bs) ≡ bs
bytes_back k bs h e = rw (← e) (bytes_number bs h)

-- ---- parts of bytes

pub bytes_drop : (n : ℕ) (bs : List ℕ) → Bytes bs → Bytes (drop n bs)
bytes_drop n bs h i = rw get_or-drop (h (n + i))

pub bytes_take : (n : ℕ) (bs : List ℕ) → Bytes bs → Bytes (take n bs)
bytes_take zero bs h i = omega arith
bytes_take (suc n) [] h i = omega arith
bytes_take (suc n) (b ∷ bs) h zero = h 0
bytes_take (suc n) (b ∷ bs) h (suc i) = bytes_take n bs (λ j. h (suc j)) i

-- ---- the low end

number_snoc : (bs : List ℕ) (b : ℕ) → number (bs ++ (b ∷ [])) ≡ number bs * 256 + b
number_snoc [] b = omega arith
number_snoc (a ∷ bs) b =
    let k : length (bs ++ (b ∷ [])) ≡ suc (length bs) = length-append bs (b ∷ []) ∙ add-one (length bs) in
    let e : 256 ^ suc (length bs) ≡ 256 * 256 ^ length bs = omega arith in
    let p : a * 256 ^ length (bs ++ (b ∷ [])) ≡ a * (256 * 256 ^ length bs) = ap (λ (m : ℕ). a * 256 ^ m) k ∙ ap (λ (m : ℕ). a * m) e in
    omega (arith, number_snoc bs b)

-- a byte more
pub number_next : (s : List ℕ) (i : ℕ) → i < length s → number (take (i + 1) s) ≡ number (take i s) * 256 + get_or s i 0
number_next s i h = rw (add-one, take-suc s i 0 h) (number_snoc (take i s) (get_or s i 0))

-- and of what stands at a place
pub number_more : (s : List ℕ) (at i : ℕ) → at + i < length s
    → number (take (i + 1) (drop at s)) ≡ number (take i (drop at s)) * 256 + get_or s (at + i) 0
number_more s at i h = rw (← get_or-drop at s i 0) (number_next (drop at s) i (rw length-drop (omega arith)))
