-- Event by event and clock by clock: the specified PHYs are the board's with their lines put back as they stand, and the log has its records. A clock moves the common follower, or goes line by line.
use Prim.Native.Nat.{◌+◌, ◌-◌}
use mathlib.Core.Path.{◌≡◌}
use mathlib.Core.List.{List}
use lib.ListN.{length}
use Rattle.verdict.specs.File.{records}
use Rattle.phy.specs.declared.Phy.{Phy}
use Rattle.phy.specs.Clock.{clock}
use Rattle.board.specs.declared.Board.{Board}
use Rattle.board.specs.Events.{event_record}
use Rattle.between.proofs.Places.{replaced}
use Rattle.wire_machine.specs.Common.{stands, standing}
use Rattle.wire_machine.proofs.Stands.{Shows, Stands}
use Rattle.wire_machine.proofs.Alike.{mixed}
use Rattle.wire_machine.proofs.clocks.clock_by_clock.Given as goal

abbrev pub invariant-loop-i : goal.invariant-loop-i
invariant-loop-i l =
    (start : Board) (phys : List Phy) → start.count ≡ length l.lines → length phys ≡ length l.lines → Shows start l.initial.board (standing l.common l.initial.lines) phys → Shows start l.board (mixed (stands l.common) l.i l.lines) (replaced (clock l.level) l.i phys)

abbrev pub invariant-loop-lines : goal.invariant-loop-lines
invariant-loop-lines l =
    Stands l.events l.steps l.initial.log l.initial.board l.log l.board l.next (standing l.common l.lines) l.c

-- events and clocks that are left
abbrev pub decreases-loop-lines : goal.decreases-loop-lines
decreases-loop-lines l =
    (records event_record l.events - l.next) + (length l.steps - l.c)
