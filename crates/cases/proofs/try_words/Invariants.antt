-- What is left of the words grows shorter.
use Rattle.std.proofs.Common.{length}
use Rattle.cases.proofs.try_words.Given as goal

abbrev pub decreases-loop-word : goal.decreases-loop-word
decreases-loop-word g l = length l.rest
