-- The twelve examples of 01, "Proved examples", and those that requests of 02 add: lists, and one statement over a list; proofs/Examples.antt proves it.
-- Definitions only. Assumes nothing.
-- An f64 is shown by its bits.
use Rattle.std.specs.Prelude.{ℕ, ◌^◌, List, [], ◌∷◌, ◌++◌, map, ◌≡◌, Float, pos, take, replicate, Some, None}
use Rattle.std.specs.Float.{binary64}
use Rattle.std.specs.Float.Ieee.{of_int, of_bits, to_bits, neg}
use Rattle.numbers.specs.Fused.{root}
use Rattle.book.specs.Answers.{Said, taken, value, refused, Replied, again, said, Buffers, buffers, Outcome}
use Rattle.book.specs.Calls.{act}
use Rattle.book.specs.Gates.{F}
use Rattle.book.specs.Records.{write_record}
use Rattle.book.specs.Sessions.{Session, fresh, marked, deliver}
use Rattle.book.specs.State.{controlled, uncontrolled}
use Rattle.book.specs.declared.Gate.{Gate}
use Rattle.book.specs.declared.Gate.TheVariants.{H, X, Y, Swap, Measure, BitFlip}

-- ---- how an example is written

-- what the definitions give, and what 01 says
pub record Example : Type 0 where
  pub gives : List ℕ
  pub paper : List ℕ

abbrev pub ◌is◌ : List ℕ → List ℕ → Example
gives is paper = record { gives = gives; paper = paper }

infix 68 ◌is◌
abbrev pub bits : List Float → List ℕ
bits = map (to_bits binary64)

abbrev pub bits_of : Float → List ℕ
bits_of x = bits (x ∷ [])

-- a whole number, and a negative one, as an f64
abbrev pub whole : ℕ → Float
whole k = of_int binary64 (pos k)

abbrev pub minus : ℕ → Float
minus k = neg (whole k)

abbrev pub of_bits64 : ℕ → Float
of_bits64 b = of_bits binary64 b

-- a state with these reals, and no imaginary parts
abbrev pub real : List ℕ → Buffers
real ks = buffers (map whole ks) (map (λ k. whole 0) ks)

abbrev pub reals : Outcome → List ℕ
reals o = bits o.left.reals

abbrev pub imags : Outcome → List ℕ
imags o = bits o.left.imags

-- a gate of session 7, numbered k
abbrev pub numbered : ℕ → Gate → List ℕ
numbered k g = write_record (record { session = 7; number = k; gate = g })

abbrev pub x_numbered : ℕ → List ℕ
x_numbered k = numbered k (X 0 uncontrolled)

-- the counts that the answers carry, one delivery after the other
abbrev pub counts : Session → Buffers → List (List ℕ) → List ℕ
counts s b [] = []
counts s b (bytes ∷ more) =
    let d = deliver s b bytes in
    d.next.count ∷ counts d.next d.left more

-- the values that AGAIN tells, one delivery after the other
abbrev pub told_by : Replied → List ℕ
told_by (again (Some v)) = v ∷ []
told_by (again None) = []
told_by (said x) = []

abbrev pub told_values : Session → Buffers → List (List ℕ) → List ℕ
told_values s b [] = []
told_values s b (bytes ∷ more) =
    let d = deliver s b bytes in
    told_by d.says ++ told_values d.next d.left more

-- the marks, one delivery after the other
abbrev pub marks : Session → Buffers → List (List ℕ) → List ℕ
marks s b [] = []
marks s b (bytes ∷ more) =
    let d = deliver s b bytes in
    d.next.mark ∷ marks d.next d.left more

-- a refusal's number
abbrev pub refusal : Said → List ℕ
refusal taken = []
refusal (value v) = []
refusal (refused k) = k ∷ []

abbrev pub eight_reals : Buffers
eight_reals = real (1 ∷ 2 ∷ 3 ∷ 4 ∷ 5 ∷ 6 ∷ 7 ∷ 8 ∷ [])

abbrev pub h_twice : Outcome
h_twice = act 1 (H 0 uncontrolled) (act 1 (H 0 uncontrolled) (real (1 ∷ 0 ∷ []))).left

abbrev pub half : Float
half = of_bits64 0x3FE0000000000000

abbrev pub halves : Buffers
halves = buffers (half ∷ half ∷ []) (whole 0 ∷ whole 0 ∷ [])

abbrev pub half_of_zeros : Buffers
half_of_zeros = buffers (half ∷ whole 0 ∷ []) (whole 0 ∷ whole 0 ∷ [])

-- a state of one qubit, measured with this outcome forced
abbrev pub forced : ℕ → Buffers → Outcome
forced outcome = act 1 (Measure 0 (record { outcome = outcome; reset = 0 }))

abbrev pub y_on_one : Outcome
y_on_one = act 1 (Y 0 uncontrolled) (buffers (whole 1 ∷ whole 3 ∷ []) (whole 2 ∷ whole 4 ∷ []))

-- measuring 1, and a flip that does not run
abbrev pub measuring : ℕ → List ℕ
measuring k = numbered k (Measure 0 (record { outcome = 1; reset = 0 }))

abbrev pub not_flipping : ℕ → List ℕ
not_flipping k = numbered k (BitFlip 0 (record { prob = half; draw = whole 1 }))

-- ---- the twelve

unfoldable pub twelve : List Example
unfolding of_int of_bits to_bits neg
twelve =
    bits_of (F (of_bits64 0x3FF0000000000001) (of_bits64 0x3FEFFFFFFFFFFFFE) (minus 1)) is (0xB970000000000000 ∷ [])
    ∷ bits_of (F (of_bits64 1) (of_bits64 0x3FE0000000000000) (whole 0)) is (0 ∷ [])
    ∷ bits_of (F (of_bits64 1) (of_bits64 0x3FE8000000000000) (whole 0)) is (1 ∷ [])
    ∷ bits_of (root binary64 (whole 2)) is (0x3FF6A09E667F3BCD ∷ [])
    ∷ reals (act 2 (X 0 (controlled 2)) (real (1 ∷ 2 ∷ 3 ∷ 4 ∷ []))) is bits (map whole (1 ∷ 2 ∷ 4 ∷ 3 ∷ []))
    ∷ reals (act 3 (X 2 (controlled 1)) eight_reals) is bits (map whole (1 ∷ 6 ∷ 3 ∷ 8 ∷ 5 ∷ 2 ∷ 7 ∷ 4 ∷ []))
    ∷ (reals y_on_one ++ imags y_on_one) is bits (whole 4 ∷ minus 2 ∷ minus 3 ∷ whole 1 ∷ [])
    ∷ take 1 (reals h_twice) is (0x3FF0000000000001 ∷ [])
    ∷ reals (act 3 (Swap 0 2) eight_reals) is bits (map whole (1 ∷ 5 ∷ 3 ∷ 7 ∷ 2 ∷ 6 ∷ 4 ∷ 8 ∷ []))
    ∷ reals (forced 0 halves) is bits (map whole (1 ∷ 0 ∷ []))
    ∷ write_record (record { session = 7; number = 0; gate = X 1 (controlled 4) })
    is (0x01 ∷ 0x00 ∷ 0x04 ∷ 0x00 ∷ 0x00 ∷ 0x00 ∷ 0x07 ∷ 0x02 ∷ 0x00 ∷ 0x02 ∷ 0x00 ∷ 0x00 ∷ 0x03 ∷ 0x00 ∷ 0x01 ∷ 0x02
    ∷ 0x04 ∷ 0x00 ∷ 0x01 ∷ 0x01 ∷ 0x05 ∷ 0x00 ∷ 0x04 ∷ 0x00 ∷ 0x00 ∷ 0x00 ∷ 0x04 ∷ [])
    ∷ counts (fresh 1 7) (real (1 ∷ 0 ∷ [])) (map x_numbered (0 ∷ 0 ∷ 2 ∷ 1 ∷ [])) is (1 ∷ 1 ∷ 1 ∷ 2 ∷ [])
    ∷ []

-- ---- of document 02

-- Request 03: 1, 2 is off length 1, and outcome 1 is scaled by its own half; a half of zeros is refused with 7.
-- Request 04: a measurement that comes again tells its outcome, behind an X no more, and behind a flip that did not run, which tells 0, neither.
-- Request 06: bytes 01 02 give 34, and 1F seven times 6, a carry dropped; a repeat and an early record leave the mark;
-- X with control 5 and X with control 8 have one mark.
unfoldable pub since : List Example
unfolding of_int of_bits to_bits
since =
    reals (forced 1 (real (1 ∷ 2 ∷ []))) is bits (map whole (0 ∷ 1 ∷ []))
    ∷ refusal (forced 1 half_of_zeros).says is (7 ∷ [])
    ∷ told_values (fresh 1 7) (real (0 ∷ 1 ∷ []))
    (measuring 0 ∷ measuring 0 ∷ x_numbered 1 ∷ measuring 0 ∷ x_numbered 1 ∷ not_flipping 2 ∷ not_flipping 2 ∷ measuring 0 ∷ []) is (1 ∷ 0 ∷ [])
    ∷ map (marked 0) ((0x01 ∷ 0x02 ∷ []) ∷ replicate 7 0x1F ∷ []) is (34 ∷ 6 ∷ [])
    ∷ marks (fresh 1 7) (real (1 ∷ 0 ∷ [])) (map x_numbered (0 ∷ 0 ∷ 2 ∷ 1 ∷ []))
    is (0x55900236 ∷ 0x55900236 ∷ 0x55900236 ∷ 0x1D912561 ∷ [])
    ∷ map (λ mask. marked 0 (numbered 0 (X 0 (controlled mask)))) (2 ^ 5 ∷ 2 ^ 8 ∷ []) is (0x55900256 ∷ 0x55900256 ∷ [])
    ∷ []

-- each example of a list holds
abbrev pub Hold : List Example → Type 0
Hold [] = Unit
Hold (e ∷ es) = (e.gives ≡ e.paper) × Hold es
