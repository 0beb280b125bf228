-- One test more each turn.
use mathlib.Core.Path.{refl}
use native.Mathlib.Omega.{arith}
use Rattle.phy.specs.Record.{every}
use Rattle.board.proofs.Turns.{every-turn}
use Rattle.board.proofs.register.every.Goals as goal

pub loop-r-init : goal.loop-r-init
unfolding every
loop-r-init g c test finds = refl

pub loop-r-preserved : goal.loop-r-preserved
loop-r-preserved g c test finds =
    let loop = c.loop-r in
    every-turn test loop.r (loop.invariant test finds) (finds loop.r (omega arith) _ c.passes-all.ensures)
