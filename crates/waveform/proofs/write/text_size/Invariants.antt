-- The size so far, and that of what is still to come.
use Rattle.waveform.proofs.Sizes.{Sized}
use Rattle.waveform.proofs.write.text_size.Given as goal

abbrev pub invariant-loop-i : goal.invariant-loop-i
invariant-loop-i l = Sized l.log l.size l.i
