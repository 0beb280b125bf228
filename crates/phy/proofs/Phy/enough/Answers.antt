-- Bit 1.6 decides.
use Rattle.phy.specs.Clock.{enough}
use Rattle.phy.proofs.Words.{one-true, one-false}
use Rattle.phy.proofs.Phy.enough.Goals as goal

pub returns-then-self-ne0 : goal.returns-then-self-ne0
unfolding enough
returns-then-self-ne0 c = rw (one-true 6 _ c.if-self-ne0.true)

pub returns-else-self-ne0 : goal.returns-else-self-ne0
unfolding enough
returns-else-self-ne0 c = rw (one-false 6 _ c.if-self-ne0.false)
