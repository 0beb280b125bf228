-- What goes past is less than a record.
use Rattle.std.proofs.Common.{◌<◌}
use Rattle.mdiobench.proofs.input.Records.rest_of.Given as goal

abbrev pub invariant-loop : goal.invariant-loop
invariant-loop g l = l.rest < l.self.size
