-- A listener that hunts ends no frame, and where it hunts no more it has heard the 0 of a start.
use Rattle.listener.proofs.Clocks.{Hunts}
use Rattle.listener.proofs.behind_start.Given as goal

abbrev pub invariant-loop-i : goal.invariant-loop-i
invariant-loop-i l = Hunts l.levels l.follower l.i
