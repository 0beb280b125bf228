-- The bits that differ are all in the mask.
use Rattle.phy.proofs.Outside.{stands-outside}
use borrow.Author.Rules.{rules}
use Rattle.board.proofs.sound.stands_outside.Goals as goal

pub returns : goal.returns
returns c = stands-outside c.args.mask c.args.value c.args.default (search rules) (search rules) (search rules)
