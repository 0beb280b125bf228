-- Event by event and transaction by transaction: the output begins with the answers so far, and the events that are left make of the PHYs what the plain machine says.
use Prim.Native.Nat.{◌+◌, ◌-◌}
use Rattle.verdict.specs.File.{records}
use Rattle.frame.specs.List.{list_record}
use Rattle.board.specs.Events.{event_record}
use Rattle.plain_machine.proofs.Stands.{Stands}
use Rattle.plain_machine.proofs.transact.transact_all.Given as goal

abbrev pub invariant-loop-parsed : goal.invariant-loop-parsed
invariant-loop-parsed l = Stands l.list l.events l.initial.answers l.initial.board l.answers l.board l.next l.k

-- events and transactions that are left
abbrev pub decreases-loop-parsed : goal.decreases-loop-parsed
decreases-loop-parsed l =
    (records event_record l.events - l.next) + (records list_record l.list - l.k)
