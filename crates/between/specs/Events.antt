-- Document 01, "Records": "Clock c means after clock c and before c+1; 0 is before the first. Events at one clock act in file order."
use Rattle.std.specs.Prelude.{ℕ, zero, suc, Bool, ◌&&◌, cond, List, map, eqb}
use Rattle.verdict.specs.File.{records}
use Rattle.phy.specs.declared.Phy.{Phy}
use Rattle.phy.specs.Events.{event}
use Rattle.board.specs.declared.Board.{Board}
use Rattle.board.specs.Events.{event_record, event_clock, event_address, event_code}
use Rattle.between.specs.Outcome.{phys_of}

-- the event record at index k is for a PHY after clock c
abbrev pub is_for : List ℕ → ℕ → ℕ → Phy → Bool
is_for events k c phy = eqb (event_clock events k) c && eqb (event_address events k) phy.own.address

-- what the records from index k on, of which there are `left`, do to a PHY after clock c
unfoldable pub happens_from : List ℕ → ℕ → ℕ → ℕ → Phy → Phy
happens_from events k zero c phy = phy
happens_from events k (suc left) c phy =
    happens_from events (suc k) left c (cond (is_for events k c phy) (event (event_code events k) phy) phy)

-- what the events after clock c do to a PHY
abbrev pub happens : List ℕ → ℕ → Phy → Phy
happens events c phy = happens_from events 0 (records event_record events) c phy

-- the PHYs of a board before the first clock: the events of clock 0 have acted
abbrev pub at_start : Board → List ℕ → List Phy
at_start board events = map (happens events 0) (phys_of board)
