-- The records that frames give. Document 02, E1: "A frame with start 01 and op 01 or 10, to any address, gives a record: status 0 with the data seen, or 1 or 2 by the decoder's rule. Other frames (..) give nothing."
use Rattle.std.specs.Prelude.{ℕ, ◌%◌, ◌^◌, Bool, ◌&&◌, ◌||◌, cond, List, [], ◌∷◌, map, eqb, Option, Some, None}
use Rattle.verdict.specs.Bits.{bit}
use Rattle.verdict.specs.Output.{join}
use Rattle.frame.specs.declared.list.Transaction.{Transaction}
use Rattle.frame.specs.declared.answer.Answer.{Answer}
use Rattle.frame.specs.declared.answer.Turnaround.{Turnaround}
use Rattle.frame.specs.Frame.{frame_bits}
use Rattle.frame.specs.List.{write, is_read}
use Rattle.frame.specs.Answers.{answer_by}
use Rattle.wire.specs.Follower.{our_start, header_seen}

-- what a frame of 32 bits says: op, address, register, and the data seen
unfoldable pub transaction_in : ℕ → Transaction
transaction_in frame =
    let header = header_seen frame_bits frame in
    record { op = header.op; address = header.address; register = header.register; «data» = frame % 2 ^ 16 }

-- what is learned of its turnaround: the level of its 16th bit, clock 48 after a preamble of 32
abbrev pub turnaround_in : ℕ → Turnaround
turnaround_in frame = record { second = bit 16 frame }

-- "start 01"
abbrev pub starts_right : ℕ → Bool
starts_right frame = eqb (header_seen frame_bits frame).start our_start

-- "op 01 or 10"
abbrev pub is_ours : Transaction → Bool
is_ours t = eqb t.op write || is_read t

-- the record of a frame, "status 0 with the data seen, or 1 or 2 by the decoder's rule", or nothing
unfoldable pub records_of : ℕ → List Answer
records_of frame =
    let seen = transaction_in frame in
    cond (starts_right frame && is_ours seen) (answer_by seen (turnaround_in frame) seen.«data» ∷ []) []

-- the records of frames, in order
abbrev pub records_of_all : List ℕ → List Answer
records_of_all frames = join (map records_of frames)

-- the records in what a frame gives
abbrev pub records_given : Option Answer → List Answer
records_given None = []
records_given (Some answer) = answer ∷ []
