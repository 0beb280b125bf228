-- Bit 12 is stored where 1.3 is one.
use mathlib.Core.Path.{◌∙◌}
use Rattle.phy.specs.Control.{new_bit12}
use Rattle.phy.proofs.NewBits.{stored-where}
use Rattle.phy.proofs.control.Control.enable.Goals as goal

pub returns : goal.returns
unfolding new_bit12
returns c = c.where_able.ensures ∙ stored-where 3 12 _ _
