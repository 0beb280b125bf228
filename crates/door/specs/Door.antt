-- The functions for C: 0 when done, else number * 65536 + index. The board comes as its file's bytes and is loaded fresh.
use Rattle.std.specs.Prelude.{ℕ, ◌+◌, ◌*◌, ◌%◌, ◌≡◌, List, map}
use Rattle.verdict.specs.Refusal.{Verdict, Done, Refused, and_then}
use Rattle.verdict.specs.Output.{join, output_after}
use Rattle.frame.specs.Steps.{translating, translation}
use Rattle.frame.specs.Answers.{answer_bytes, answers_in, decoding}
use Rattle.board.specs.declared.Board.{Board}
use Rattle.board.specs.Load.{loaded}
use Rattle.wire_machine.specs.Run.{running, log_of_run}
use Rattle.plain_machine.specs.Plain.{planning, answers_of_plain}
use Rattle.listener.specs.Listening.{listening, record_bytes}
use Rattle.waveform.specs.Waveform.{waveform, writing, Reading}

-- an answer as a number; an index is far below 65536
abbrev pub code_of : Verdict → ℕ
code_of (Done n) = 0
code_of (Refused number index) = number * 65536 + index % 65536

-- what a function for C promises: its answer as a number, and every byte of the output
pub record Opens (answer : Verdict) (result out : List ℕ) (r : ℕ) (out' : List ℕ) : Type 0 where
  pub code : r ≡ code_of answer
  pub output : out' ≡ output_after answer result out

-- the board file's refusal, else what the call answers on the board that it says
abbrev pub with_board : List ℕ → (Board → Verdict) → Verdict
with_board file call = and_then (loaded file).verdict (λ n. call (loaded file).board)

abbrev pub OpensTranslate : List ℕ → List ℕ → ℕ → List ℕ → Type 0
OpensTranslate list out r out' = Opens (translating list out) (translation list) out r out'

abbrev pub OpensDecode : List ℕ → List ℕ → List ℕ → ℕ → List ℕ → Type 0
OpensDecode list log out r out' = Opens (decoding list log out) (join (map answer_bytes (answers_in list log))) out r out'

abbrev pub OpensRun : List ℕ → List ℕ → List ℕ → List ℕ → ℕ → List ℕ → Type 0
OpensRun file steps events out r out' =
    Opens (with_board file (λ board. running board steps events out)) (log_of_run (loaded file).board steps events) out r out'

abbrev pub OpensPlain : List ℕ → List ℕ → List ℕ → List ℕ → ℕ → List ℕ → Type 0
OpensPlain file list events out r out' =
    Opens (with_board file (λ board. planning board list events out)) (join (map answer_bytes (answers_of_plain (loaded file).board list events))) out r out'

abbrev pub OpensListen : List ℕ → List ℕ → ℕ → List ℕ → Type 0
OpensListen capture out r out' = Opens (listening capture out) (record_bytes capture) out r out'

abbrev pub OpensWriteVcd : List ℕ → List ℕ → ℕ → List ℕ → Type 0
OpensWriteVcd log out r out' = Opens (writing log out) (waveform log) out r out'

abbrev pub OpensReadVcd : List ℕ → List ℕ → ℕ → List ℕ → Type 0
OpensReadVcd text out r out' = Reading text out (λ answer result. Opens answer result out r out')
