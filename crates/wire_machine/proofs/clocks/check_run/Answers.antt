-- The steps that pass are few enough for their records to be counted.
use mathlib.Core.Path.{sym, ap, ◌∙◌}
use native.Mathlib.Omega.{arith}
use Rattle.verdict.specs.Refusal.{said}
use Rattle.wire_machine.proofs.Accepts.{counted}
use Rattle.wire_machine.proofs.clocks.check_run.Goals as goal

pub overflow_mul-size : goal.overflow_mul-size
overflow_mul-size c = omega (arith, counted c.args.steps.now c.in_ok-count.count (sym c.check_steps.ensures ∙ ap said c.in_ok-count.was))
