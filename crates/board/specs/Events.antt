-- Document 01, "Records": "Events, 4 bytes, 0 to 256: clock number (2 bytes), PHY address, code."
use Rattle.std.specs.Prelude.{ℕ, zero, suc, ◌+◌, ◌*◌, min, List, Bool, not, ◌&&◌, ◌||◌, ltb, leb}
use Rattle.verdict.specs.Refusal.{Verdict, wrong_event, wrong_clock, ◌when◌, ◌else◌}
use Rattle.verdict.specs.File.{byte_at, word_at, file_verdict}
use Rattle.board.specs.declared.Board.{Board}
use Rattle.board.specs.Record.{has_address}
use Rattle.board.specs.Check.{places}

abbrev pub event_record : ℕ
event_record = 4

abbrev pub most_events : ℕ
most_events = 256

-- the fields of the record at index k
abbrev pub event_clock : List ℕ → ℕ → ℕ
event_clock events k = word_at events (k * event_record)

abbrev pub event_address : List ℕ → ℕ → ℕ
event_address events k = byte_at events (k * event_record + 2)

abbrev pub event_code : List ℕ → ℕ → ℕ
event_code events k = byte_at events (k * event_record + 3)

-- whether a PHY of the board has an address
abbrev pub on_board : Board → ℕ → Bool
on_board board address = has_address board.phys (min board.count places) address

-- 8: "event code not 1 to 7, or address not on the board", where it is known whether it is
abbrev pub event_wrong_as : Bool → List ℕ → ℕ → Bool
event_wrong_as there events k = not (leb 1 (event_code events k) && leb (event_code events k) 7) || not there

abbrev pub event_wrong : Board → List ℕ → ℕ → Bool
event_wrong board events k = event_wrong_as (on_board board (event_address events k)) events k

-- the clock of the record before, of which the first has none
abbrev pub clock_before : List ℕ → ℕ → ℕ
clock_before events zero = 0
clock_before events (suc k) = event_clock events k

-- 9: "event clock below the one before it, or past the last clock"
abbrev pub clock_wrong : List ℕ → ℕ → ℕ → Bool
clock_wrong events last k = ltb (event_clock events k) (clock_before events k) || ltb last (event_clock events k)

-- what checks 8 and 9 find of the record at index k
abbrev pub event_fault_as : Bool → List ℕ → ℕ → ℕ → ℕ
event_fault_as there events last k = wrong_event when event_wrong_as there events k else wrong_clock when clock_wrong events last k

unfoldable pub event_fault : Board → List ℕ → ℕ → ℕ → ℕ
event_fault board events last k = event_fault_as (on_board board (event_address events k)) events last k

-- the event file's checks on a board, where `last` is the last clock: 1, 2, then its records in order by 8 and 9
abbrev pub events_verdict : Board → List ℕ → ℕ → Verdict
events_verdict board events last = file_verdict event_record most_events (event_fault board events last) events
