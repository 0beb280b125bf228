-- Steps fill the part from its start: after i turns it holds the first i steps.
use mathlib.Core.Path.{refl}
use borrow.Author.Rules.{rules}
use Rattle.verdict.specs.Output.{tabulate}
use Rattle.verdict.proofs.Outputs.{fill}
use Rattle.frame.proofs.list.Transaction.send.Invariants.{steps}
use Rattle.frame.proofs.list.Transaction.send.Goals as goal

pub loop-i-init : goal.loop-i-init
unfolding tabulate
loop-i-init c = refl

pub loop-i-preserved : goal.loop-i-preserved
loop-i-preserved c = fill (steps c.args.self) _ _ c.loop-i.i _ (search rules) c.loop-i.invariant c.step.ensures
