-- A run in two parts: an event file taken apart at a clock. Document 01, "Records": "clock number (2 bytes), PHY address, code. Clock c means after clock c and before c+1; 0 is before the first." What happens after clock n is the first part's, and the second part counts its clocks from there.
use Rattle.std.specs.Prelude.{ℕ, zero, suc, ◌-◌, ◌/◌, ◌%◌, Bool, cond, List, [], ◌∷◌, ◌++◌, leb, ltb}
use Rattle.verdict.specs.File.{records}
use Rattle.board.specs.Events.{event_record, event_clock, event_address, event_code}

-- an event's record, high byte first
abbrev pub event_bytes : ℕ → ℕ → ℕ → List ℕ
event_bytes clock address code = clock / 256 ∷ clock % 256 ∷ address ∷ code ∷ []

-- of the records from index k on, of which there are `left`, those whose clock passes a test, with n taken off it
unfoldable pub picked : (ℕ → Bool) → ℕ → List ℕ → ℕ → ℕ → List ℕ
picked test n events k zero = []
picked test n events k (suc left) =
    cond (test (event_clock events k)) (event_bytes (event_clock events k - n) (event_address events k) (event_code events k)) []
    ++ picked test n events (suc k) left

-- the records with clock at most n, with nothing taken off
abbrev pub events_up_to : ℕ → List ℕ → List ℕ
events_up_to n events = picked (λ clock. leb clock n) 0 events 0 (records event_record events)

-- the records with a later clock, each with n taken off
abbrev pub events_past : ℕ → List ℕ → List ℕ
events_past n events = picked (λ clock. ltb n clock) n events 0 (records event_record events)
