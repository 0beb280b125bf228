-- The calls `send` and `exchange`: a list goes over the wire. `send` gives the log of the run of the translated steps, and `exchange` the answers that the decoder hears in it; the board is what that run leaves. They are refused where the plain machine refuses. They take any sound board: where a PHY is inside a frame the run's first clocks end that frame, and the wire decides.
use Rattle.std.specs.Prelude.{ℕ, ◌*◌, ◌≡◌, List, map}
use Rattle.verdict.specs.Refusal.{Verdict, Done, and_then}
use Rattle.verdict.specs.Output.{join, room_for}
use Rattle.frame.specs.declared.answer.Answer.{Answer}
use Rattle.frame.specs.Frame.{clocks, log_record}
use Rattle.frame.specs.List.{list_verdict}
use Rattle.frame.specs.Steps.{translation}
use Rattle.frame.specs.Answers.{answer_bytes, answers_in}
use Rattle.board.specs.declared.Board.{Board}
use Rattle.board.specs.Check.{checked}
use Rattle.board.specs.Events.{events_verdict}
use Rattle.board.specs.Outcome.{Told}
use Rattle.between.specs.Outcome.{HandsBack}
use Rattle.wire_machine.specs.Run.{log_of_run, board_after_run}
use Rattle.plain_machine.specs.Plain.{planning}
use Rattle.agreement.specs.Demand3.{registers_of, links_of}

-- 12, then the list, then the events with 65n as the last clock; done says how many transactions are sent
abbrev pub send_verdict : Board → List ℕ → List ℕ → Verdict
send_verdict board list events =
    and_then (checked board) (λ phys.
    and_then (list_verdict list) (λ n.
    and_then (events_verdict board events (n * clocks)) (λ happenings.
    Done n)))

-- then 10
abbrev pub sending : Board → List ℕ → List ℕ → List ℕ → Verdict
sending board list events out = and_then (send_verdict board list events) (λ n. room_for out (n * clocks * log_record))

-- the log of the run
abbrev pub log_of_exchange : Board → List ℕ → List ℕ → List ℕ
log_of_exchange board list events = log_of_run board (translation list) events

-- the board after its last clock
abbrev pub board_after_exchange : Board → List ℕ → List ℕ → Board
board_after_exchange board list events = board_after_run board (translation list) events

-- what `send` promises
abbrev pub Sent : Board → List ℕ → List ℕ → List ℕ → Told → List ℕ → Type 0
Sent board list events out r out' =
    HandsBack (sending board list events out) (log_of_exchange board list events) (board_after_exchange board list events) board out r out'

-- the answers that the log holds
abbrev pub answers_of_exchange : Board → List ℕ → List ℕ → List Answer
answers_of_exchange board list events = answers_in list (log_of_exchange board list events)

-- what `exchange` promises
abbrev pub Exchanged : Board → List ℕ → List ℕ → List ℕ → Told → List ℕ → Type 0
Exchanged board list events out r out' =
    HandsBack (planning board list events out) (join (map answer_bytes (answers_of_exchange board list events))) (board_after_exchange board list events) board out r out'

-- what `exchange` and `plain` have in common: answer, output, and in every place of the board the registers and the link
pub record SameAsPlain (exchanged planned : Told) (out₁ out₂ : List ℕ) : Type 0 where
  pub verdict : exchanged.verdict ≡ planned.verdict
  pub output : out₁ ≡ out₂
  pub count : exchanged.board.count ≡ planned.board.count
  pub registers : registers_of exchanged.board.phys ≡ registers_of planned.board.phys
  pub links : links_of exchanged.board.phys ≡ links_of planned.board.phys
