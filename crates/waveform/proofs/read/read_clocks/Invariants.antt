-- The header, then clock by clock, up to the closing time or to what the writer never writes.
use mathlib.Core.Path.{◌≡◌}
use lib.ListN.{length}
use Rattle.waveform.proofs.GoingOver.{GoesOver}
use Rattle.waveform.proofs.read.read_clocks.Given as goal

abbrev pub invariant-loop-i : goal.invariant-loop-i
invariant-loop-i l = GoesOver l.text l.flags l.rest l.old l.i × (length l.flags ≡ length l.initial.flags)
