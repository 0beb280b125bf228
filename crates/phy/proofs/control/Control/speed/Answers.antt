-- Both bits come from the word where its speed is able, else from the old value.
use mathlib.Core.List.{[], ◌∷◌}
use native.Mathlib.Omega.{arith}
use Rattle.phy.specs.Control.{speed_from}
use Rattle.phy.proofs.Words.{and-mask-of}
use Rattle.phy.proofs.control.Control.speed.Goals as goal

pub returns-then-speed_able : goal.returns-then-speed_able
unfolding speed_from
returns-then-speed_able c = rw (← c.speed_able.ensures, c.if-speed_able.true) (omega (arith, and-mask-of (13 ∷ 6 ∷ []) c.args.word tt))

pub returns-else-speed_able : goal.returns-else-speed_able
unfolding speed_from
returns-else-speed_able c = rw (← c.speed_able.ensures, c.if-speed_able.false) (omega (arith, and-mask-of (13 ∷ 6 ∷ []) c.args.old tt))
