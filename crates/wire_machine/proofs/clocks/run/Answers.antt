-- A run that passes its checks writes a record of each step.
use mathlib.Core.Path.{refl, sym, ◌∙◌}
use Rattle.wire_machine.proofs.Accepts.{passed, writes-all}
use Rattle.wire_machine.proofs.clocks.run.Goals as goal

pub clock_by_clock-requires : goal.clock_by_clock-requires
clock_by_clock-requires c =
    let log = c.args.log.now in
    let done = passed c.check_run-verdict.result (sym c.is_ok.ensures.value ∙ c.if-is_ok.true) (c.check_run-verdict.ensures log refl) in
    writes-all c.args.board c.args.steps.now c.args.events.now log done.0 done.1
