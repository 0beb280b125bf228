-- Not in reset nothing is asked; else each test is its part of `reset_stands`.
use mathlib.Core.Bool.{and_assoc}
use Rattle.phy.specs.Registers.{in_reset}
use Rattle.board.proofs.sound.reset_stands.Goals as goal

pub returns : goal.returns
unfolding in_reset
returns c = rw (← c.in_reset.ensures, c.if-not-in_reset.false, c.stands_outside-stands.ensures, c.others_at_default.ensures) (simp and_assoc)
