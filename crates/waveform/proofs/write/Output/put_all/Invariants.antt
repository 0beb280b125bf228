-- The header, then clock by clock what is to come, then the closing time.
use Rattle.waveform.proofs.Writing.{Going}
use Rattle.waveform.proofs.write.Output.put_all.Given as goal

abbrev pub invariant-loop-i : goal.invariant-loop-i
invariant-loop-i l = Going l.log l.initial.self l.self l.i
