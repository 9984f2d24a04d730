-- How long what is printed can be: a u64 has at most 20 digits and an f64's bits 16, so no line is longer than the buffer in which it is made. Assumes nothing.
use Prim.Native.Nat.{ℕ, zero, suc, ◌+◌, ◌*◌, ◌/◌, ◌%◌, ◌^◌, ◌≤◌}
use native.Mathlib.Omega.{arith}
use mathlib.Core.Bool.{Bool, true, false, cond}
use mathlib.Core.List.{List, [], ◌∷◌, ◌++◌}
use Rattle.std.specs.Prelude.{Option, Some, None}
use lib.Dec.{ltb}
use lib.Ieee.{Float, binary64, to_bits}
use lib.ListN.{length, length-append}
use Rattle.book.specs.Answers.{Buffers, taken, value, refused, Replied, again, said}
use Rattle.book.specs.Sessions.{Session}
use Rattle.delivery_lines.specs.Deliveries.{saying, value_told, adding, delivery_line}
use Rattle.io.specs.Digits.{last_digits, hex_digit_ascii}
use Rattle.once.specs.Answered.{Answered}
use Rattle.stream.specs.Lines.{amplitude_line, end_line, cut_line}
use Rattle.words.specs.Words.{decimal_in, decimal, bits, mark_digits}
use Rattle.printing.specs.Printed.{answer_lines, state_lines, closing}

both : (xs ys : List ℕ) (j k : ℕ) → length xs ≤ j → length ys ≤ k → length (xs ++ ys) ≤ j + k
both xs ys j k h l = omega (arith, length-append xs ys)

either : (b : Bool) (k : ℕ) (xs ys : List ℕ) → length xs ≤ k → length ys ≤ k → length (cond b xs ys) ≤ k
either true k xs ys h l = h
either false k xs ys h l = l

-- ---- numbers

digits_short : (b k n : ℕ) → length (last_digits b k n) ≤ k
digits_short b zero n = omega arith
digits_short b (suc k) n = omega (arith, both (last_digits b k (n / b)) (hex_digit_ascii (n % b) ∷ []) k 1 (digits_short b k (n / b)) (omega arith))

decimal_in_short : (k n : ℕ) → length (decimal_in k n) ≤ k
decimal_in_short zero n = omega arith
decimal_in_short (suc k) n =
    let high = decimal_in k (n / 10) in
    let low = hex_digit_ascii (n % 10) ∷ [] in
    either (ltb n 10) (suc k) (hex_digit_ascii n ∷ []) (high ++ low) (omega arith)
    (omega (arith, both high low k 1 (decimal_in_short k (n / 10)) (omega arith)))

decimal_short : (n : ℕ) → length (decimal n) ≤ 20
unfolding decimal
decimal_short n = decimal_in_short 20 n

bits_short : (x : Float) → length (bits x) ≤ 16
unfolding bits
bits_short x = digits_short 16 16 (to_bits binary64 x)

mark_short : (mark : ℕ) → length (mark_digits mark) ≤ 8
unfolding mark_digits
mark_short mark = digits_short 16 8 mark

-- ---- lines

saying_short : (r : Replied) → length (saying r) ≤ 29
saying_short (again v) = omega arith
saying_short (said taken) = omega arith
saying_short (said (value v)) = omega arith
saying_short (said (refused k)) = omega (arith, decimal_short k)

adding_short : (v : Option ℕ) → length (adding v) ≤ 27
adding_short None = omega arith
adding_short (Some v) = omega (arith, decimal_short v)

delivery_short : (i : ℕ) (r : Replied) (count : ℕ) → length (delivery_line i r count) ≤ 128
delivery_short i r count = simp length-append (omega (arith, decimal_short i, saying_short r, decimal_short count, adding_short (value_told r)))

amplitude_short : (i : ℕ) (re im : Float) → length (amplitude_line i re im) ≤ 128
amplitude_short i re im = simp length-append (omega (arith, decimal_short i, bits_short re, bits_short im))

end_short : (s : Session) → length (end_line s) ≤ 128
end_short s = simp length-append (omega (arith, decimal_short s.count, mark_short s.mark))

-- ---- all of them

-- a line and those behind it
line_more : (xs ys : List ℕ) (n : ℕ) → length xs ≤ 128 → length ys ≤ 128 * n → length (xs ++ ys) ≤ 128 * suc n
line_more xs ys n h l = omega (arith, both xs ys 128 (128 * n) h l)

pub answers_short : (i : ℕ) (answers : List Answered) → length (answer_lines i answers) ≤ 128 * length answers
answers_short i [] = omega arith
answers_short i (a ∷ more) =
    let j = (i + 1) % 2 ^ 64 in
    line_more (delivery_line i a.says a.count) (answer_lines j more) (length more) (delivery_short i a.says a.count) (answers_short j more)

state_short : (i : ℕ) (xs ys : List Float) → length (state_lines i xs ys) ≤ 128 * length xs
state_short i [] ys = omega arith
state_short i (x ∷ xs) [] = omega arith
state_short i (x ∷ xs) (y ∷ ys) =
    line_more (amplitude_line i x y) (state_lines (i + 1) xs ys) (length xs) (amplitude_short i x y) (state_short (i + 1) xs ys)

pub closing_short : (cut : Bool) (s : Session) (b : Buffers) → length (closing cut s b) ≤ 128 * (length b.reals + 2)
closing_short cut s b =
    let lines = state_lines 0 b.reals b.imags in
    let most = 128 * length b.reals in
    let rest = both lines (end_line s) most 128 (state_short 0 b.reals b.imags) (end_short s) in
    let first = either cut 128 cut_line [] (omega arith) (omega arith) in
    omega (arith, both (cond cut cut_line []) (lines ++ end_line s) 128 (most + 128) first rest)
