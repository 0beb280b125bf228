-- Each test is its clause of `phy_sound`.
use mathlib.Core.Bool.{and_assoc}
use Rattle.phy.specs.Sound.{control_sound, phy_sound}
use Rattle.phy.proofs.Words.{has-bit, has-no-bit}
use Rattle.board.proofs.sound.phy_sound.Goals as goal

pub returns : goal.returns
unfolding phy_sound control_sound
returns c =
    rw (
      c.registers_stand.ensures,
      c.stands_outside.ensures,
      c.control_right.ensures,
      c.reset_stands.ensures,
      c.follower_sound.ensures,
      c.in_own_read.ensures,
      has-no-bit 5,
      has-bit 12,
      has-no-bit 9,
      has-no-bit 2,
    )
    (simp and_assoc)
