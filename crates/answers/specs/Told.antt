-- How an answer stands in one number: the low byte is a refusal's number or a value, and what stands above it says which. Definitions only. Assumes nothing.
use Rattle.std.specs.Prelude.{ℕ, ◌+◌, ◌<◌, ◌≡◌, Option, Some, None}
use Rattle.book.specs.Answers.{Said, taken, value, refused, Replied, again, said, replies}
use Rattle.book.specs.declared.Reply.{Reply}
use Rattle.book.specs.declared.Reply.TheVariants.{Again, Said as Says}

-- 0 taken, a refusal's own number, 768 + v a value
abbrev pub said_number : Said → ℕ
said_number taken = 0
said_number (value v) = 768 + v
said_number (refused k) = k

-- 256 for AGAIN, 512 + v for an AGAIN that tells the value v
abbrev pub again_number : Option ℕ → ℕ
again_number None = 256
again_number (Some v) = 512 + v

abbrev pub replied_number : Replied → ℕ
replied_number (again v) = again_number v
replied_number (said x) = said_number x

-- what AGAIN tells is a byte
abbrev pub Byte : Reply → Type 0
Byte (Again None) = Unit
Byte (Again (Some v)) = v < 256
Byte (Says x) = Unit

-- no two replies have one number; a call's answers are among the replies
abbrev pub TellsApart : Type 0
TellsApart = (x y : Reply) → Byte x → Byte y → replied_number (replies x) ≡ replied_number (replies y) → x ≡ y
