-- Bytes stored piece after piece: one run after another, and a number from its lowest byte on. Assumes nothing.
use Prim.Native.Nat.{ℕ, zero, suc, ◌+◌, ◌-◌, ◌*◌, ◌/◌, ◌%◌, ◌^◌, ◌≤◌, ◌<◌}
use native.Mathlib.Nat.{add-zero, add-suc, suc-add, zero-add, mul_comm, mul_assoc, mul-add-div_right, mul-add-mod_self_right}
use native.Mathlib.Nat.{div-eq_of_lt, mod-eq_of_lt, mod-lt, div-add-mod', div-div-eq-div-mul}
use native.Mathlib.Numerals.{add-one}
use native.Mathlib.Omega.{arith}
use mathlib.Core.Path.{◌≡◌, refl, sym, ap, ◌∙◌}
use mathlib.Core.List.{List, [], ◌∷◌, ◌++◌}
use lib.Ieee.{Float, binary64, to_bits}
use lib.ListN.{length, take, drop, get_or, length-append}
use lib.Seq.{sets, sets-eq}
use Rattle.std.specs.Int.{w64, byte_at, bytes_high_first, to_be_bytes}
use Rattle.std.proofs.Common.{append_assoc, append-nil}
use borrow.Rule.Slice.PartMut.{put_mid}
use lib.Seq.{drop-drop, length-take-le, take_all}
use Rattle.book.specs.Records.{bytes, floats, field}
use Rattle.wire.proofs.Floats.{length_floats}
use Rattle.wire.proofs.Numbers.{length_bytes, pow256_pos}
use Rattle.stores.specs.Stores.{store, Stored}

-- ---- one run after another

sets_append : (l : List ℕ) (i : ℕ) (xs ys : List ℕ) → sets (sets l i xs) (i + length xs) ys ≡ sets l i (xs ++ ys)
sets_append l i [] ys = ap (λ (k : ℕ). sets l k ys) (add-zero i)
sets_append l i (x ∷ xs) ys =
    ap (λ (k : ℕ). sets (sets l i (x ∷ xs)) k ys) (add-suc i (length xs) ∙ sym (suc-add i (length xs)))
    ∙ sets_append _ (suc i) xs ys

pub store_then : (l l₁ l₂ : List ℕ) (at at₂ : ℕ) (xs ys : List ℕ)
    → l₁ ≡ store l at xs → l₂ ≡ store l₁ at₂ ys → at₂ ≡ at + length xs → l₂ ≡ store l at (xs ++ ys)
unfolding store
store_then l l₁ l₂ at at₂ xs ys p q e =
    q ∙ ap (λ (m : List ℕ). sets m at₂ ys) p ∙ ap (λ (k : ℕ). sets (sets l at xs) k ys) e ∙ sets_append l at xs ys

-- two pieces, one behind the other
pub stored_then : {xs ys l l₁ l₂ : List ℕ} {at at₁ at₂ : ℕ} → Stored xs l at at₁ l₁ → Stored ys l₁ at₁ at₂ l₂ → Stored (xs ++ ys) l at at₂ l₂
stored_then {xs} {ys} {l} {l₁} {l₂} {at} {at₁} {at₂} p q =
    record {
      behind = omega (arith, p.behind, q.behind, length-append xs ys);
      stored = store_then l l₁ l₂ at at₁ xs ys p.stored q.stored p.behind;
    }

-- a field: its tag and length, and then its contents
pub stored_field : {tag width : ℕ} {contents l l₁ l₂ : List ℕ} {at at₁ at₂ : ℕ} → length contents ≡ width
    → Stored (tag ∷ bytes 2 width) l at at₁ l₁ → Stored contents l₁ at₁ at₂ l₂ → Stored (field tag contents) l at at₂ l₂
stored_field size p q = rw size (stored_then p q)

-- bytes written over a part of the buffer
pub stored_mid : (l bs ys : List ℕ) (at k : ℕ) → k ≡ length bs → ys ≡ bs → at + length bs ≤ length l → Stored bs l at (at + length bs) (put_mid at k l ys)
unfolding store
stored_mid l bs ys at k p e h =
    record {
      behind = refl;
      stored = rw (p, e, drop-drop (length bs) at l, sets-eq bs l at h) (sym (append_assoc (take at l) bs (drop (at + length bs) l)));
    }

pub store_first : (l bs : List ℕ) → length bs ≤ length l → store l 0 bs ≡ bs ++ drop (length bs) l
unfolding store
store_first l bs h = sets-eq bs l 0 (rw zero-add h) ∙ ap (λ (k : ℕ). bs ++ drop k l) (zero-add (length bs))

-- ---- a number's bytes, as the code makes them

times : (x p : ℕ) → x * (256 * p) ≡ x * p * 256
times x p = ap (λ (y : ℕ). x * y) (mul_comm 256 p) ∙ sym (mul_assoc x p 256)

pow_suc_256 : (k : ℕ) → 256 ^ suc k ≡ 256 * 256 ^ k
pow_suc_256 k = omega arith

regroup : (high p low q b : ℕ) → high * p + low ≡ q → q * 256 + b ≡ high * (256 * p) + (low * 256 + b)
regroup high p low q b e = let f : high * (256 * p) ≡ high * p * 256 = times high p in omega arith

-- of m * p + n, with n below p
quotient_is : (m p n : ℕ) → n < p → (m * p + n) / p ≡ m
quotient_is m p n h = mul-add-div_right {m = p} (omega arith) m n ∙ ap (λ (x : ℕ). m + x) (div-eq_of_lt h) ∙ add-zero m

rest_is : (m p n : ℕ) → n < p → (m * p + n) % p ≡ n
rest_is m p n h = mul-add-mod_self_right m p n ∙ mod-eq_of_lt h

-- a byte below k others is the last of them
bytes_snoc : (k q b : ℕ) → q < 256 ^ k → b < 256 → bytes (suc k) (q * 256 + b) ≡ bytes k q ++ (b ∷ [])
bytes_snoc zero q b h l =
    let e : (q * 256 + b) / 1 ≡ b = omega arith in
    ap (λ (x : ℕ). x ∷ []) e
bytes_snoc (suc k) q b h l =
    let p : ℕ = 256 ^ k in
    let high : ℕ = q / p in
    let low : ℕ = q % p in
    let low_is : low < p = mod-lt q (pow256_pos k) in
    let fits : low * 256 + b < 256 ^ suc k = omega arith in
    let split : high * p + low ≡ q = div-add-mod' q p in
    let same : q * 256 + b ≡ high * 256 ^ suc k + (low * 256 + b) =
    regroup high p low q b split ∙ ap (λ (x : ℕ). high * x + (low * 256 + b)) (sym (pow_suc_256 k)) in
    let first : (q * 256 + b) / 256 ^ suc k ≡ high = ap (λ (x : ℕ). x / 256 ^ suc k) same ∙ quotient_is high (256 ^ suc k) (low * 256 + b) fits in
    let others : (q * 256 + b) % 256 ^ suc k ≡ low * 256 + b = ap (λ (x : ℕ). x % 256 ^ suc k) same ∙ rest_is high (256 ^ suc k) (low * 256 + b) fits in
    (λ i. first i ∷ bytes (suc k) (others i)) ∙ ap (λ (bs : List ℕ). high ∷ bs) (bytes_snoc k low b low_is l)

-- the lowest bytes of any number are those of the number, if it has no more
high_snoc : (k n : ℕ) → bytes_high_first (suc k) n ≡ bytes_high_first k (n / 256) ++ (n % 256 ∷ [])
high_snoc zero n = refl
high_snoc (suc zero) n = refl
high_snoc (suc (suc k)) n =
    let same : n / 256 ^ suc (suc k) ≡ n / 256 / 256 ^ suc k = ap (λ (d : ℕ). n / d) (pow_suc_256 (suc k)) ∙ sym (div-div-eq-div-mul n 256 (256 ^ suc k)) in
    ap (λ (b : ℕ). b % 256 ∷ bytes_high_first (suc (suc k)) n) same ∙ ap (λ (bs : List ℕ). byte_at (suc k) (n / 256) ∷ bs) (high_snoc (suc k) n)

high_is : (k n : ℕ) → n < 256 ^ k → bytes_high_first k n ≡ bytes k n
high_is zero n h = refl
high_is (suc k) n h =
    let small : n / 256 < 256 ^ k = omega (arith, pow_suc_256 k) in
    let whole : n / 256 * 256 + n % 256 ≡ n = omega arith in
    high_snoc k n
    ∙ ap (λ (bs : List ℕ). bs ++ (n % 256 ∷ [])) (high_is k (n / 256) small)
    ∙ sym (bytes_snoc k (n / 256) (n % 256) small (omega arith))
    ∙ ap (bytes (suc k)) whole

drop_high : (i k n : ℕ) → drop i (bytes_high_first (i + k) n) ≡ bytes_high_first k n
drop_high zero k n = rw zero-add
drop_high (suc i) k n = rw suc-add (drop_high i k n)

-- as a slice of all eight
pub low_bytes : (k n : ℕ) → k ≤ 8 → n < 256 ^ k → take (8 - (8 - k)) (drop (8 - k) (to_be_bytes w64 n)) ≡ bytes k n
low_bytes k n h l =
    let e : 8 - k + k ≡ 8 = omega arith in
    let is : drop (8 - k) (to_be_bytes w64 n) ≡ bytes k n =
    ap (λ (m : ℕ). drop (8 - k) (bytes_high_first m n)) (sym e) ∙ drop_high (8 - k) k n ∙ high_is k n l in
    ap (take (8 - (8 - k))) is ∙ take_all (8 - (8 - k)) (bytes k n) (omega (arith, length_bytes k n))

-- ---- floats, one after the other

floats_next : (xs : List Float) (i : ℕ) (d : Float) → i < length xs
    → floats (take (suc i) xs) ≡ floats (take i xs) ++ bytes 8 (to_bits binary64 (get_or xs i d))
floats_next [] i d h = absurd (omega arith)
floats_next (x ∷ xs) zero d h = append-nil (bytes 8 (to_bits binary64 x))
floats_next (x ∷ xs) (suc i) d h =
    ap (λ (bs : List ℕ). bytes 8 (to_bits binary64 x) ++ bs) (floats_next xs i d (omega arith))
    ∙ sym (append_assoc (bytes 8 (to_bits binary64 x)) (floats (take i xs)) (bytes 8 (to_bits binary64 (get_or xs i d))))

-- one float more
pub stored_float : (xs : List Float) (i : ℕ) {n : ℕ} {l l₁ l₂ : List ℕ} {at at₁ at₂ : ℕ} (d : Float) → i < length xs → n ≡ to_bits binary64 (get_or xs i d)
    → Stored (floats (take i xs)) l at at₁ l₁ → Stored (bytes 8 n) l₁ at₁ at₂ l₂ → Stored (floats (take (i + 1) xs)) l at at₂ l₂
stored_float xs i d h e p q = rw (add-one, floats_next xs i d h, ← e) (stored_then p q)

pub stored_none : (l : List ℕ) (at : ℕ) → Stored [] l at at l
unfolding store
stored_none l at = record { behind = omega arith; stored = refl }

-- as many bytes as were passed
pub passed : (xs : List Float) (i : ℕ) {l l₁ : List ℕ} {at at₁ : ℕ} → i ≤ length xs → Stored (floats (take i xs)) l at at₁ l₁ → at₁ ≡ at + 8 * i
passed xs i h p = omega (arith, p.behind, length_floats (take i xs), length-take-le i xs h)
