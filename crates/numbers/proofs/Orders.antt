-- What `compare` says of two numbers, and where two comparisons agree. Assumes nothing.
use mathlib.Core.Path.{◌≡◌, refl, sym, ap, subst}
use Prim.Native.Nat.{ℕ, ◌*◌, ◌≤◌, ◌<◌, compare, Ordering}
use native.Mathlib.Nat.{mul-lt-mul_of_pos_right}
use native.Mathlib.Omega.{arith}
use mathlib.Core.Bool.{not}
use lib.Dec.{T, is_le, compare_is_eq, eqb, leb→le, nleb→lt, eqb→eq, eqb_refl}
use lib.Arith.{lt_of_le-ne}

abbrev pub Cmp : Ordering → ℕ → ℕ → Type 0
Cmp Ordering.lt a b = a < b
Cmp Ordering.eq a b = a ≡ b
Cmp Ordering.gt a b = b < a

pub cmp : (a b : ℕ) → Cmp (compare a b) a b
cmp a b = go (compare a b) (leb→le a b) (nleb→lt a b) (eqb→eq a b) (λ (e : a ≡ b). subst (λ (x : ℕ). T (eqb a x)) e (eqb_refl a))
  where
    go : (o : Ordering) → (T (is_le o) → a ≤ b) → (T (not (is_le o)) → b < a) → (T (compare_is_eq o) → a ≡ b) → (a ≡ b → T (compare_is_eq o)) → Cmp o a b
    go Ordering.lt h k e n = lt_of_le-ne (h tt) n
    go Ordering.eq h k e n = e tt
    go Ordering.gt h k e n = k tt

only : (o p : Ordering) (a b : ℕ) → Cmp o a b → Cmp p a b → o ≡ p
only Ordering.lt Ordering.lt a b x y = refl
only Ordering.lt Ordering.eq a b x y = absurd (omega arith)
only Ordering.lt Ordering.gt a b x y = absurd (omega arith)
only Ordering.eq Ordering.lt a b x y = absurd (omega arith)
only Ordering.eq Ordering.eq a b x y = refl
only Ordering.eq Ordering.gt a b x y = absurd (omega arith)
only Ordering.gt Ordering.lt a b x y = absurd (omega arith)
only Ordering.gt Ordering.eq a b x y = absurd (omega arith)
only Ordering.gt Ordering.gt a b x y = refl

pub cmp_lt : (a b : ℕ) → a < b → compare a b ≡ Ordering.lt
cmp_lt a b h = only (compare a b) Ordering.lt a b (cmp a b) h

pub cmp_eq : (a b : ℕ) → a ≡ b → compare a b ≡ Ordering.eq
cmp_eq a b h = only (compare a b) Ordering.eq a b (cmp a b) h

pub cmp_gt : (a b : ℕ) → b < a → compare a b ≡ Ordering.gt
cmp_gt a b h = only (compare a b) Ordering.gt a b (cmp a b) h

-- a and b are in the order of c and d
pub cmp_same : (a b c d : ℕ) → (a < b → c < d) → (a ≡ b → c ≡ d) → (b < a → d < c) → compare a b ≡ compare c d
cmp_same a b c d l e g = sym (go (compare a b) (cmp a b))
  where
    go : (o : Ordering) → Cmp o a b → compare c d ≡ o
    go Ordering.lt h = cmp_lt c d (l h)
    go Ordering.eq h = cmp_eq c d (e h)
    go Ordering.gt h = cmp_gt c d (g h)

-- and so are their multiples
pub cmp_scale : (a b k : ℕ) → 0 < k → compare a b ≡ compare (a * k) (b * k)
cmp_scale a b k K =
    cmp_same a b (a * k) (b * k) (λ h. mul-lt-mul_of_pos_right h K) (λ h. ap (λ (y : ℕ). y * k) h) (λ h. mul-lt-mul_of_pos_right h K)
