-- Each event has its own line.
use Rattle.phy.specs.Fields.{with_link}
use mathlib.Core.Bool.{false}
use mathlib.Core.Path.{ap, ◌∙◌}
use Rattle.phy.specs.Events.{happening}
use Rattle.phy.proofs.Words.{or-bit, clear-bit}
use Rattle.phy.proofs.Phy.happening.Goals as goal

pub returns-in-LinkDown : goal.returns-in-LinkDown
unfolding happening
returns-in-LinkDown c = rw (c.in-LinkDown.is, ← clear-bit 2) (c.with_link-in-LinkDown.ensures ∙ ap (with_link false) c.clear.ensures)

pub returns-in-RemoteFault : goal.returns-in-RemoteFault
unfolding happening
returns-in-RemoteFault c = rw (c.in-RemoteFault.is, ← or-bit 4) c.set_status.ensures

pub returns-in-Jabber : goal.returns-in-Jabber
unfolding happening
returns-in-Jabber c = rw (c.in-Jabber.is, ← or-bit 1) c.set_status-in-Jabber.ensures

pub returns-in-RestartDone : goal.returns-in-RestartDone
unfolding happening
returns-in-RestartDone c = rw (c.in-RestartDone.is, ← clear-bit 9) c.clear-in-RestartDone.ensures
