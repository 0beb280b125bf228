-- Document 01, "Records": "Answers, 6 bytes: status, op, address, register, data. Status 0 write sent, 1 read answered, 2 read silent (data 0)."
use Rattle.std.specs.Prelude.{ℕ, ◌+◌, ◌*◌, ◌/◌, ◌%◌, Bool, not, cond, List, [], ◌∷◌, map, length, eqb, ltb}
use Rattle.verdict.specs.Refusal.{Verdict, wrong_log_length, ◌when◌, refuse, and_then}
use Rattle.verdict.specs.Bits.{value_of}
use Rattle.verdict.specs.File.{records}
use Rattle.verdict.specs.Output.{tabulate, join, written, room_for, Writes}
use Rattle.frame.specs.declared.list.Transaction.{Transaction}
use Rattle.frame.specs.declared.answer.Answer.{Answer}
use Rattle.frame.specs.declared.answer.Turnaround.{Turnaround}
use Rattle.frame.specs.Frame.{preamble, log_part_bytes}
use Rattle.frame.specs.List.{list_record, is_read, list_verdict, transaction_at}
use Rattle.frame.specs.Log.{level_at, levels, log_part}

abbrev pub sent : ℕ
sent = 0

abbrev pub answered : ℕ
answered = 1

abbrev pub silent : ℕ
silent = 2

abbrev pub answer_record : ℕ
answer_record = 6

-- a transaction's answer with a status and data
abbrev pub answer_to : Transaction → ℕ → ℕ → Answer
answer_to t status word =
    record { status = status; op = t.op; address = t.address; register = t.register; «data» = word }

-- the record of an answer, numbers high byte first
abbrev pub answer_bytes : Answer → List ℕ
answer_bytes a =
    a.status ∷ a.op ∷ a.address ∷ a.register ∷ a.«data» / 256 ∷ a.«data» % 256 ∷ []

-- a part of an output with an answer's record at its start, where it fits
unfoldable pub put_in : List ℕ → Answer → List ℕ
put_in part a = cond (ltb (length part) answer_record) part (written (answer_bytes a) part)

-- what is learned of a read's turnaround: the level at its clock 48
abbrev pub turnaround_in : List ℕ → Turnaround
turnaround_in part = record { second = level_at part (preamble + 16) }

-- "a read is answered exactly if the level at its clock 48 is 0"
abbrev pub is_answered : Turnaround → Bool
is_answered turnaround = eqb turnaround.second 0

-- "with the levels of clocks 49-64 as data"
abbrev pub word_in : List ℕ → ℕ
word_in part = value_of (levels part (preamble + 17) 16)

abbrev pub read_answer : Transaction → Turnaround → ℕ → Answer
read_answer t turnaround word = cond (is_answered turnaround) (answer_to t answered word) (answer_to t silent 0)

-- a read goes by its turnaround and the word behind it; 'A write is "sent" even if no PHY took it; its data is the list's.'
abbrev pub answer_by : Transaction → Turnaround → ℕ → Answer
answer_by t turnaround word = cond (is_read t) (read_answer t turnaround word) (answer_to t sent t.«data»)

unfoldable pub answer_in : Transaction → List ℕ → Answer
answer_in t part = answer_by t (turnaround_in part) (word_in part)

-- the answers to a list in its log, transaction by transaction
abbrev pub answers_in : List ℕ → List ℕ → List Answer
answers_in list log = tabulate (records list_record list) (λ k. answer_in (transaction_at list k) (log_part log (k + 1)))

-- the list's checks, then 13, then 10
abbrev pub decoding : List ℕ → List ℕ → List ℕ → Verdict
decoding list log out =
    and_then (list_verdict list)
    (λ n. refuse (wrong_log_length when not (eqb (length log) (n * log_part_bytes))) 0 (room_for out (n * answer_record)))

-- what `decode` promises
abbrev pub Decoded : List ℕ → List ℕ → List ℕ → Verdict → List ℕ → Type 0
Decoded list log out r out' = Writes (decoding list log out) (join (map answer_bytes (answers_in list log))) out r out'
