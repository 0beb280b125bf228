-- Steps fill the part from its start: after i turns it holds the first i steps.
use Prim.Native.Nat.{ℕ, ◌+◌}
use mathlib.Core.Path.{◌≡◌}
use Rattle.verdict.proofs.Outputs.{filled}
use Rattle.frame.specs.declared.list.Transaction.{Transaction}
use Rattle.frame.specs.Steps.{step_at}
use Rattle.frame.proofs.list.Transaction.send.Given as goal

-- the step at place i of the part
abbrev pub steps : Transaction → ℕ → ℕ
steps t i = step_at t (i + 1)

abbrev pub invariant-loop-i : goal.invariant-loop-i
invariant-loop-i l = l.part ≡ filled (steps l.self) l.initial.part l.i
