-- An accepted list is short, so its clocks and its answers can be counted.
use Prim.Native.Nat.{◌≤◌}
use mathlib.Core.Path.{sym, ap, ◌∙◌}
use native.Mathlib.Omega.{arith}
use Rattle.verdict.specs.Refusal.{said}
use Rattle.frame.proofs.Lists.{accepted-list}
use Rattle.plain_machine.proofs.check_plan.Goals as goal
use Rattle.plain_machine.proofs.check_plan.Goals.{In_ok-count}

counted : (c : In_ok-count) → c.in_ok-count.count ≤ 64
counted c = (accepted-list _ _ (sym c.check_list.ensures ∙ ap said c.in_ok-count.was)).allowed

pub overflow_mul-count : goal.overflow_mul-count
overflow_mul-count c = omega (arith, counted c)

pub overflow_mul-size : goal.overflow_mul-size
overflow_mul-size c = omega (arith, counted (goal.at.overflow_mul-size c).In_ok-count)
