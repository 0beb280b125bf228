-- Document 01: "The plain machine takes board, list and events and has no wire: transaction k reads in clock 65(k-1)+46 or stores in 65(k-1)+64, by the register rules; a read of no such PHY or register is status 2; events by clock number. It gives the answers and the board, followers as they were."
use Rattle.std.specs.Prelude.{ℕ, ◌*◌, List, map}
use Rattle.verdict.specs.Refusal.{Verdict, and_then}
use Rattle.verdict.specs.Output.{join, room_for}
use Rattle.frame.specs.Frame.{preamble, clocks}
use Rattle.frame.specs.List.{list_verdict, transactions}
use Rattle.frame.specs.declared.answer.Answer.{Answer}
use Rattle.frame.specs.Answers.{answer_record, answer_bytes}
use Rattle.wire.specs.Machines.{Core, plain_answers, plain_parties}
use Rattle.phy.specs.declared.Phy.{Phy}
use Rattle.phy.specs.Clock.{phy_core}
use Rattle.board.specs.declared.Board.{Board}
use Rattle.board.specs.Check.{checked}
use Rattle.board.specs.Events.{events_verdict}
use Rattle.board.specs.Outcome.{Told}
use Rattle.between.specs.Events.{happens, at_start}
use Rattle.between.specs.Outcome.{with_phys, HandsBack}

-- 12, then the list, then the events with 65n as the last clock, then 10
abbrev pub planning : Board → List ℕ → List ℕ → List ℕ → Verdict
planning board list events out =
    and_then (checked board) (λ phys.
    and_then (list_verdict list) (λ n.
    and_then (events_verdict board events (n * clocks)) (λ happenings.
    room_for out (n * answer_record))))

-- the PHYs as parties of the plain machine, with these events
abbrev pub core_with : List ℕ → Core Phy
core_with events = phy_core (happens events)

abbrev pub answers_of_plain : Board → List ℕ → List ℕ → List Answer
answers_of_plain board list events =
    plain_answers (core_with events) preamble preamble (transactions list) 0 (at_start board events)

-- the PHYs after the last clock
abbrev pub phys_after_plain : Board → List ℕ → List ℕ → List Phy
phys_after_plain board list events =
    plain_parties (core_with events) preamble preamble (transactions list) 0 (at_start board events)

-- the board after the last clock
abbrev pub board_after_plain : Board → List ℕ → List ℕ → Board
board_after_plain board list events = with_phys board (phys_after_plain board list events)

-- what `plain` promises
abbrev pub Planned : Board → List ℕ → List ℕ → List ℕ → Told → List ℕ → Type 0
Planned board list events out r out' =
    HandsBack (planning board list events out) (join (map answer_bytes (answers_of_plain board list events))) (board_after_plain board list events) board out r out'
