-- Registers that are not implemented are zero.
use mathlib.Core.Bool.{◌&&◌, ◌||◌}
use lib.Dec.{eqb}
use borrow.Author.Rules.{rules}
use Rattle.phy.specs.Abilities.{one}
use Rattle.phy.specs.Record.{word, unimplemented_zero}
use Rattle.board.proofs.record.Record.unimplemented_zero.Goals as goal

pub returns : goal.returns
unfolding unimplemented_zero
returns c =
    let record_of = c.args.self in
    c.every.ensures (λ r. one r record_of.own.implemented || (eqb (word record_of.defaults r) 0 && eqb (word record_of.masks r) 0)) (λ r within b found. search rules)
