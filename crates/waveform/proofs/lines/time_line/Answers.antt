-- As many digits as the number has places.
use Rattle.waveform.proofs.Clocks.{time-line-in}
use Rattle.waveform.proofs.lines.time_line.Goals as goal

pub returns : goal.returns
returns c = time-line-in c.args.clock _ _ _ _ _ c.places-start.ensures c.digit.ensures c.digit-2.ensures c.digit-3.ensures c.digit-4.ensures
