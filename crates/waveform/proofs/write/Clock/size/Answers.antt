-- The time line, and three bytes for each signal that is shown.
use mathlib.Core.Path.{ap, sym, ◌∙◌}
use native.Mathlib.Omega.{arith}
use lib.ListN.{length}
use Rattle.waveform.proofs.Clocks.{no-lines-by}
use Rattle.waveform.proofs.Sizes.{clock-long, clock-few, time-short}
use Rattle.waveform.proofs.write.Clock.size.Goals as goal

pub overflow_add-result : goal.overflow_add-result
overflow_add-result c =
    let few = clock-few c.args.self.number c.args.self.old c.args.self.new c.shown-shown.result c.shown-shown.ensures in
    omega (arith, few, c.time_size.ensures, time-short c.args.self.number)

pub returns-then-any : goal.returns-then-any
returns-then-any c =
    let long = clock-long c.args.self.number c.args.self.old c.args.self.new c.shown-shown.result c.shown-shown.ensures (sym c.any.ensures ∙ c.if-any.true) in
    omega (arith, long, c.time_size.ensures)

pub returns-else-any : goal.returns-else-any
returns-else-any c = sym (ap length (no-lines-by c.args.self.number c.args.self.old c.args.self.new _ c.shown-shown.ensures (sym c.any.ensures ∙ c.if-any.false)))
