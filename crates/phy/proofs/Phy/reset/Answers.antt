-- The code stores the defaults, then bit 15.
use Rattle.phy.specs.Control.{reset}
use Rattle.phy.proofs.Words.{or-bit}
use Rattle.phy.proofs.Phy.reset.Goals as goal

pub returns : goal.returns
unfolding reset
returns c = rw (or-bit 15)
