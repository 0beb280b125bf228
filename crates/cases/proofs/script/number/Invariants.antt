-- What is left of the text grows shorter.
use Rattle.std.proofs.Common.{length, ◌≤◌}
use Rattle.cases.proofs.script.number.Given as goal

abbrev pub invariant-loop-first : goal.invariant-loop-first
invariant-loop-first l = length l.rest ≤ length l.fn.text

abbrev pub decreases-loop-first : goal.decreases-loop-first
decreases-loop-first l = length l.rest
