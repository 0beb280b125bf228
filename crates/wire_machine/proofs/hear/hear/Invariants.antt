-- Line by line: what is heard of those passed and of those that are left is what is heard of all.
use mathlib.Core.Path.{◌≡◌}
use lib.ListN.{drop}
use Rattle.wire_machine.specs.Lines.{heard_station, heard_from}
use Rattle.wire_machine.specs.Common.{standing}
use Rattle.wire_machine.proofs.hear.hear.Given as goal

abbrev pub invariant-loop-line : goal.invariant-loop-line
invariant-loop-line l =
    heard_from l.heard (drop l.line-index (standing l.common l.lines)) ≡ heard_from (heard_station l.fn.drive) (standing l.common l.lines)
