-- Each test is its clause of `control_right`.
use mathlib.Core.Bool.{and_assoc, or_assoc}
use lib.Bits.{and_mask}
use Rattle.phy.proofs.Words.{has-bit, has-no-bit}
use Rattle.board.proofs.sound.control_right.Goals as goal

pub returns : goal.returns
returns c =
    rw (
      c.speed_able-speed.ensures,
      c.full-full.ensures,
      c.half-half.ensures,
      has-bit 12,
      has-bit 3,
      has-no-bit 9,
      has-bit 8,
      has-no-bit 8,
      has-no-bit 5,
      has-bit 7,
      and_mask c.args.control 5,
    )
    (simp (and_assoc, or_assoc))
