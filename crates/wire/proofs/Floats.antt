-- Floats as bytes, over any list of them: what is written is read back, and eights of bytes that hold no NaN are written as they were.
-- By induction on the list, with the two laws of one f64 and its bits. Assumes nothing.
use Prim.Native.Nat.{ℕ, zero, suc, ◌+◌, ◌*◌, ◌^◌, ◌<◌, ◌≤◌}
use native.Mathlib.Omega.{arith}
use mathlib.Core.Path.{◌≡◌, refl, sym, ap, ◌∙◌, subst}
use mathlib.Core.List.{List, [], ◌∷◌, ◌++◌}
use lib.Ieee.{Float, nan, binary64, of_bits, to_bits}
use lib.Ieee.Bits.{of_bits-to_bits, to_bits-lt, to_bits-of_bits}
use lib.ListN.{length, get_or, take, drop, length-drop, take-append-drop, drop_of_length-le}
use lib.Seq.{drop-append-add, drop-drop, length-take-le}
use Rattle.book.specs.Records.{bytes, number, floats, float}
use Rattle.wire.specs.Bytes.{Bytes, Each, IsF64, NotNan}
use Rattle.wire.proofs.Numbers.{number_bytes, number_lt, bytes_drop, bytes_take, bytes_back}

pub length_floats : (xs : List Float) → length (floats xs) ≡ 8 * length xs
length_floats [] = refl
length_floats (x ∷ xs) = omega (arith, length_floats xs)

-- ---- there and back

one_back : (x : Float) (rest : List ℕ) → IsF64 x → float (bytes 8 (to_bits binary64 x) ++ rest) 0 ≡ x
one_back x rest h =
    ap (λ (n : ℕ). of_bits binary64 n) (number_bytes 8 (to_bits binary64 x) (to_bits-lt binary64 x h)) ∙ of_bits-to_bits binary64 x h

past_one : (x : Float) (rest : List ℕ) (i : ℕ) → float (bytes 8 (to_bits binary64 x) ++ rest) (suc i) ≡ float rest i
past_one x rest i =
    let e : 8 * suc i ≡ 8 + 8 * i = omega arith in
    ap (λ (n : ℕ). of_bits binary64 (number (take 8 (drop n (bytes 8 (to_bits binary64 x) ++ rest))))) e
    ∙ ap (λ (l : List ℕ). of_bits binary64 (number (take 8 l))) (drop-append-add (bytes 8 (to_bits binary64 x)) rest (8 * i))

pub float_back : (xs : List Float) → Each IsF64 xs → (i : ℕ) → i < length xs → float (floats xs) i ≡ get_or xs i nan
float_back [] h i l = absurd (omega arith)
float_back (x ∷ xs) h zero l = one_back x (floats xs) h.0
float_back (x ∷ xs) h (suc i) l = past_one x (floats xs) i ∙ float_back xs h.1 i (omega arith)

-- ---- back and there

-- k floats from place i on
abbrev pub floats_from : List ℕ → ℕ → ℕ → List Float
floats_from c i zero = []
floats_from c i (suc k) = float c i ∷ floats_from c (suc i) k

one_there : (c : List ℕ) (i : ℕ) → Bytes c → 8 * i + 8 ≤ length c → NotNan (float c i) → bytes 8 (to_bits binary64 (float c i)) ≡ take 8 (drop (8 * i) c)
one_there c i h room ok =
    let part : List ℕ = take 8 (drop (8 * i) c) in
    let is : Bytes part = bytes_take 8 (drop (8 * i) c) (bytes_drop (8 * i) c h) in
    let size : length part ≡ 8 = length-take-le 8 (drop (8 * i) c) (rw length-drop (omega arith)) in
    let small : number part < 2 ^ 64 = subst (λ (k : ℕ). number part < 256 ^ k) size (number_lt part is) in
    ap (bytes 8) (to_bits-of_bits binary64 (number part) small ok) ∙ bytes_back 8 part is size

pub floats_there : (k : ℕ) (c : List ℕ) (i : ℕ) → Bytes c → length c ≡ 8 * i + 8 * k → Each NotNan (floats_from c i k)
    → floats (floats_from c i k) ≡ drop (8 * i) c
floats_there zero c i h e ok = sym (drop_of_length-le c {i = 8 * i} (omega arith))
floats_there (suc k) c i h e ok =
    let next : 8 * suc i ≡ 8 * i + 8 = omega arith in
    let rest : floats (floats_from c (suc i) k) ≡ drop 8 (drop (8 * i) c) =
    floats_there k c (suc i) h (omega arith) ok.1 ∙ ap (λ (n : ℕ). drop n c) next ∙ sym (drop-drop 8 (8 * i) c) in
    ap (λ (l : List ℕ). l ++ floats (floats_from c (suc i) k)) (one_there c i h (omega arith) ok.0)
    ∙ ap (λ (l : List ℕ). take 8 (drop (8 * i) c) ++ l) rest
    ∙ take-append-drop 8 (drop (8 * i) c)
