-- Document 01, the program: "Ordinal, W or R, address, register (two decimal digits each), status, data (four hex digits,
-- capitals), one space between."
use Rattle.std.specs.Prelude.{ℕ, ◌+◌, ◌-◌, ◌*◌, ◌/◌, ◌%◌, cond, List, [], ◌∷◌, eqb, ltb}
use Rattle.verdict.specs.File.{byte_at, word_at}
use Rattle.frame.specs.declared.answer.Answer.{Answer}
use Rattle.frame.specs.List.{read}
use Rattle.frame.specs.Answers.{answer_record}

-- the answer at an index of the answers' bytes
abbrev pub answer_at : List ℕ → ℕ → Answer
answer_at answers k =
    record {
      status = byte_at answers (k * answer_record);
      op = byte_at answers (k * answer_record + 1);
      address = byte_at answers (k * answer_record + 2);
      register = byte_at answers (k * answer_record + 3);
      «data» = word_at answers (k * answer_record + 4);
    }

abbrev pub space : ℕ
space = 32

abbrev pub newline : ℕ
newline = 10

-- the character of a digit: 0 to 9, then A to F
unfoldable pub digit_of : ℕ → ℕ
digit_of d = cond (ltb d 10) (48 + d) (65 + (d - 10))

-- R for a read, else W
unfoldable pub letter_of : ℕ → ℕ
letter_of op = cond (eqb op read) 82 87

-- an answer's line after its ordinal
unfoldable pub after_ordinal : Answer → List ℕ
after_ordinal a =
    space ∷ letter_of a.op
    ∷ space ∷ digit_of (a.address / 10 % 10) ∷ digit_of (a.address % 10)
    ∷ space ∷ digit_of (a.register / 10 % 10) ∷ digit_of (a.register % 10)
    ∷ space ∷ digit_of (a.status % 10)
    ∷ space ∷ digit_of (a.«data» / 4096 % 16) ∷ digit_of (a.«data» / 256 % 16)
    ∷ digit_of (a.«data» / 16 % 16) ∷ digit_of (a.«data» % 16)
    ∷ newline ∷ []
