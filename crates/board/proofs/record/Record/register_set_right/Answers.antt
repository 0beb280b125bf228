-- Each test is its clause of `register_set_right`.
use mathlib.Core.Bool.{and_assoc}
use Rattle.phy.specs.Record.{register_set_right}
use Rattle.phy.proofs.Words.{has-bit}
use Rattle.board.proofs.record.Record.register_set_right.Goals as goal

pub returns : goal.returns
unfolding register_set_right
returns c =
    rw (
      c.has.ensures,
      c.has-2.ensures,
      c.has-3.ensures,
      c.has-4.ensures,
      c.has-5.ensures,
      c.others_implemented.ensures,
      has-bit 8,
      has-bit 0,
    )
    (simp and_assoc)
