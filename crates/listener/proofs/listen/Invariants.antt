-- All records fit, and those heard so far are written, six bytes each.
use Prim.Native.Nat.{◌*◌, ◌≤◌}
use mathlib.Core.Path.{◌≡◌}
use lib.ListN.{length}
use Rattle.verdict.specs.Output.{written}
use Rattle.frame.specs.Answers.{answer_record}
use Rattle.listener.specs.Listening.{records_in}
use Rattle.listener.proofs.Heard.{bytes_of}
use Rattle.listener.proofs.listen.Given as goal

abbrev pub invariant-loop-answer : goal.invariant-loop-answer
invariant-loop-answer l =
    (length (records_in l.levels) * answer_record ≤ length l.initial.answers)
    × (l.done ≡ length l.yielded * answer_record)
    × (l.answers ≡ written (bytes_of l.yielded) l.initial.answers)
