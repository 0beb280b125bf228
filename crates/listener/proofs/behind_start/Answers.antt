-- A listener that hunts ends no frame, and where it hunts no more it has heard the 0 of a start.
use Rattle.std.proofs.lemmas.List.{take_rest}
use Rattle.listener.proofs.Clocks.{hunts-first, still-hunts, starts, hunts-to-end}
use Rattle.listener.proofs.behind_start.Goals as goal

pub loop-i-init : goal.loop-i-init
loop-i-init c = hunts-first _

pub loop-i-preserved : goal.loop-i-preserved
loop-i-preserved c =
    still-hunts _ c.loop-i.i c.loop-i-test.true c.follow-follower.ensures c.loop-i.invariant c.in_default.is

pub returns-in-Inside : goal.returns-in-Inside
returns-in-Inside c =
    rw take_rest (starts _ c.loop-i.i c.loop-i-test.true c.follow-follower.ensures c.loop-i.invariant c.in-Inside.is)

pub returns : goal.returns
returns c = hunts-to-end c.loop-i.invariant c.loop-i-test.false
