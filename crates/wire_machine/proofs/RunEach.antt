-- A run changes every PHY by one function: the events of clock 0, then its clocks and their events. So it has what all of these have.
use Prim.Native.Nat.{ℕ}
use mathlib.Core.Bool.{Bool}
use mathlib.Core.List.{List}
use Rattle.phy.specs.declared.Phy.{Phy}
use Rattle.phy.specs.Clock.{clock}
use Rattle.board.specs.declared.Board.{Board}
use Rattle.between.specs.Outcome.{phys_of}
use Rattle.between.specs.Events.{happens}
use Rattle.between.proofs.EachPlace.{Closed, Each, each_next, runs-each}
use Rattle.wire_machine.specs.Run.{party_with, station_drives, phys_after_run}

pub run-changes : {Q : (Phy → Phy) → Type 0} → Closed Q → (events : List ℕ) → ((c : ℕ) → Q (happens events c)) → ((level : Bool) → Q (clock level)) → (board : Board) (steps : List ℕ) → Each Q (phys_of board) (phys_after_run board steps events)
run-changes closed events happenings clocks board steps =
    each_next closed (happenings 0) (runs-each closed (party_with events) clocks happenings (station_drives steps) 0 _)
