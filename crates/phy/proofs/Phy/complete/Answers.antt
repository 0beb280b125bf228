-- Bits 0.12 and 0.9 decide.
use Rattle.phy.specs.Events.{completes}
use Rattle.phy.proofs.Words.{one-true, one-false, or-bit}
use Rattle.phy.proofs.Phy.complete.Goals as goal
use Rattle.phy.proofs.Phy.complete.Goals.{else-enabled-via-then-enabled+else-not-restarting, else-enabled-via-else-enabled}

pub returns-then-not-restarting : goal.returns-then-not-restarting
unfolding completes
returns-then-not-restarting c = rw (one-true 12 _ c.if-enabled.true, one-false 9 _ c.if-not-restarting.true, ← or-bit 5) c.set_status.ensures

pub returns-else-enabled : goal.returns-else-enabled
unfolding completes
returns-else-enabled c =
    elim c.else-enabled.branch [
      | else-enabled-via-then-enabled+else-not-restarting w ↦ rw (one-true 12 _ w.if-enabled.true, one-true 9 _ w.if-not-restarting.false)
      | else-enabled-via-else-enabled w ↦ rw (one-false 12 _ w.if-enabled.false)
    ]
