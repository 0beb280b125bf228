-- Bit 5 is stored where 1.7 is one.
use mathlib.Core.Path.{◌∙◌}
use Rattle.phy.specs.Control.{new_bit5}
use Rattle.phy.proofs.NewBits.{stored-where}
use Rattle.phy.proofs.control.Control.unidirectional.Goals as goal

pub returns : goal.returns
unfolding new_bit5
returns c = c.where_able.ensures ∙ stored-where 7 5 _ _
