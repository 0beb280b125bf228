-- Where none drives the station alone is heard; else line by line, and what is heard of those passed and of those that are left is what is heard of all.
use mathlib.Core.Path.{sym, ap, ◌∙◌}
use borrow.Author.Rules.{rules}
use Rattle.wire_machine.specs.Lines.{line_drives, heard_station, heard_from}
use Rattle.wire_machine.specs.Common.{standing}
use Rattle.wire_machine.proofs.Alike.{hears-silent}
use Rattle.wire_machine.proofs.Hearing.{small_at, heard-next, heard_all}
use Rattle.wire_machine.proofs.hear.hear.Goals as goal

pub returns-then-is_silent : goal.returns-then-is_silent
returns-then-is_silent c = c.station-heard.ensures ∙ sym (hears-silent c.args.common (sym c.if-is_silent.ensures) (heard_station c.args.drive) c.args.lines.now)

pub loop-line-init : goal.loop-line-init
loop-line-init c = ap (λ h. heard_from h (standing c.args.common c.args.lines.now)) c.station-heard.ensures

pub with-heard-requires : goal.with-heard-requires
with-heard-requires c = small_at c.args.common c.args.lines.now c.loop-line.line-index (search rules) c.requires

pub loop-line-preserved : goal.loop-line-preserved
loop-line-preserved c =
    heard-next c.args.common c.args.lines.now c.loop-line.line-index (search rules) c.loop-line.heard c.with-heard.result c.drives.result (c.drives.ensures ∙ ap line_drives c.stands.ensures) c.with-heard.ensures
    ∙ c.loop-line.invariant

pub returns : goal.returns
returns c = sym (heard_all c.args.common c.args.lines.now c.loop-line.heard c.loop-line.line-index (search rules)) ∙ c.loop-line.invariant
