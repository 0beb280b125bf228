-- The size so far, and that of what is still to come.
use native.Mathlib.Omega.{arith}
use mathlib.Core.Path.{◌≡◌}
use Rattle.verdict.specs.File.{records}
use Rattle.frame.specs.Frame.{log_record}
use Rattle.waveform.specs.Waveform.{time_bytes}
use Rattle.waveform.proofs.Sizes.{sized-first, sized-next, sized-end}
use Rattle.waveform.proofs.Longest.{never-longer}
use Rattle.waveform.proofs.write.text_size.Goals as goal

pub loop-i-init : goal.loop-i-init
loop-i-init c = sized-first c.args.log.now

-- no size is over the longest text's
pub overflow_add-size : goal.overflow_add-size
unfolding time_bytes
overflow_add-size c =
    let log = c.args.log.now in
    omega (arith, sized-next log c.loop-i.size c.loop-i.i c.loop-i-test.true c.loop-i.invariant, rw c.at.ensures at c.size-size.ensures, never-longer log c.requires)

pub loop-i-preserved : goal.loop-i-preserved
loop-i-preserved c = rw (c.size-size.ensures, c.at.ensures) (sized-next c.args.log.now c.loop-i.size c.loop-i.i c.loop-i-test.true c.loop-i.invariant)

pub overflow_add-result : goal.overflow_add-result
unfolding time_bytes
overflow_add-result c =
    let log = c.args.log.now in
    let end : c.loop-i.i ≡ records log_record log = omega (arith, c.loop-i.auto.i-end, c.loop-i-test.false) in
    omega (arith, sized-end log c.loop-i.size c.loop-i.i end c.loop-i.invariant, c.time_size.ensures, never-longer log c.requires)

pub returns : goal.returns
returns c =
    let log = c.args.log.now in
    let end : c.loop-i.i ≡ records log_record log = omega (arith, c.loop-i.auto.i-end, c.loop-i-test.false) in
    rw c.time_size.ensures (sized-end log c.loop-i.size c.loop-i.i end c.loop-i.invariant)
