-- Place by place: after i turns the first i PHYs have their lines again.
use mathlib.Core.Path.{◌≡◌}
use Rattle.verdict.proofs.Outputs.{filled}
use Rattle.wire_machine.specs.Common.{standing}
use Rattle.wire_machine.proofs.Turns.{rejoined}
use Rattle.wire_machine.proofs.line.join_all.Given as goal

abbrev pub invariant-loop-i : goal.invariant-loop-i
invariant-loop-i l =
    (l.board.count ≡ l.initial.board.count) × (l.board.phys ≡ filled (rejoined (standing l.common l.lines) l.initial.board) l.initial.board.phys l.i)
