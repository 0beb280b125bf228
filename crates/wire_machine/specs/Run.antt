-- Document 01, "Clock steps": "What each party drives in a clock depends on its state before that clock. (..) Then all sample it. A run takes any steps, so it may show contention."
use Rattle.std.specs.Prelude.{ℕ, ◌*◌, List, map}
use Rattle.verdict.specs.Refusal.{Verdict, wrong_step, and_then}
use Rattle.verdict.specs.File.{bytes_verdict}
use Rattle.verdict.specs.Output.{join, room_for}
use Rattle.frame.specs.Frame.{log_record}
use Rattle.frame.specs.Steps.{most_steps, largest_step}
use Rattle.wire.specs.declared.Drive.{Drive}
use Rattle.wire.specs.Wire.{Party, station_drive, runs, driven}
use Rattle.phy.specs.declared.Phy.{Phy}
use Rattle.phy.specs.Clock.{phy_party}
use Rattle.board.specs.declared.Board.{Board}
use Rattle.board.specs.Record.{addresses_of}
use Rattle.board.specs.Check.{checked}
use Rattle.board.specs.Events.{events_verdict}
use Rattle.board.specs.Outcome.{Told}
use Rattle.between.specs.Outcome.{phys_of, with_phys, HandsBack}
use Rattle.between.specs.Events.{happens, at_start}
use Rattle.wire_machine.specs.Log.{clock_record}

-- the steps' checks: 2, then 11 at the first step over 3
abbrev pub steps_verdict : List ℕ → Verdict
steps_verdict steps = bytes_verdict most_steps largest_step wrong_step steps

-- 12, then the steps, then the events with the number of steps as the last clock, then 10
abbrev pub running : Board → List ℕ → List ℕ → List ℕ → Verdict
running board steps events out =
    and_then (checked board) (λ phys.
    and_then (steps_verdict steps) (λ n.
    and_then (events_verdict board events n) (λ happenings.
    room_for out (n * log_record))))

-- the PHYs as parties of the wire, with these events
abbrev pub party_with : List ℕ → Party Phy
party_with events = phy_party (happens events)

abbrev pub station_drives : List ℕ → List Drive
station_drives steps = map station_drive steps

-- the PHYs after the last clock
abbrev pub phys_after_run : Board → List ℕ → List ℕ → List Phy
phys_after_run board steps events = runs (party_with events) (station_drives steps) 0 (at_start board events)

-- the board after the last clock
abbrev pub board_after_run : Board → List ℕ → List ℕ → Board
board_after_run board steps events = with_phys board (phys_after_run board steps events)

-- the log of a run, clock by clock
abbrev pub log_of_run : Board → List ℕ → List ℕ → List ℕ
log_of_run board steps events =
    join (map (clock_record (addresses_of (phys_of board))) (driven (party_with events) (station_drives steps) 0 (at_start board events)))

-- what `run` promises
abbrev pub Ran : Board → List ℕ → List ℕ → List ℕ → Told → List ℕ → Type 0
Ran board steps events out r out' =
    HandsBack (running board steps events out) (log_of_run board steps events) (board_after_run board steps events) board out r out'
