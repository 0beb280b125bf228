-- The word grows by a level a turn.
use Prim.Native.Nat.{◌<◌, ◌^◌}
use mathlib.Core.Path.{◌≡◌}
use Rattle.verdict.specs.Bits.{value_of}
use Rattle.frame.specs.Log.{levels}
use Rattle.frame.proofs.answer.word_in.Given as goal

abbrev pub invariant-loop-i : goal.invariant-loop-i
invariant-loop-i l = (l.word ≡ value_of (levels l.part 49 l.i)) × (l.word < 2 ^ l.i)
