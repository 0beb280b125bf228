-- The words after the first are compared at once.
use mathlib.Core.Path.{ap₂, ◌∙◌}
use lib.Dec.{eqb}
use lib.Pointwise.{pointwise}
use borrow.Author.Rules.{rules}
use Rattle.phy.specs.Sound.{others_at_default}
use Rattle.board.proofs.Registers.{rest, others-same}
use Rattle.board.proofs.sound.others_at_default.Goals as goal

pub returns : goal.returns
unfolding others_at_default
returns c =
    let registers = c.args.phy.registers in
    let defaults = c.args.phy.defaults in
    c.eq.ensures ∙ ap₂ (pointwise eqb) (rest registers) (rest defaults) ∙ others-same registers defaults (search rules) (search rules)
