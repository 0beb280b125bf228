-- The registers above 1 stand outside their masks.
use mathlib.Core.Bool.{◌||◌}
use lib.Dec.{leb}
use borrow.Author.Rules.{rules}
use Rattle.phy.specs.Record.{word}
use Rattle.phy.specs.Sound.{stands_outside, registers_stand}
use Rattle.board.proofs.sound.registers_stand.Goals as goal

pub returns : goal.returns
unfolding registers_stand
returns c =
    let phy = c.args.phy in
    c.every.ensures (λ r. leb r 1 || stands_outside (word phy.masks r) (word phy.registers r) (word phy.defaults r)) (λ r within b found. search rules)
