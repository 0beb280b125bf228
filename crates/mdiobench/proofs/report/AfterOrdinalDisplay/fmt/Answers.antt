-- Number by number, what the format writes.
use Rattle.std.proofs.Common.{rules}
use Rattle.std.proofs.Output.{has_written_of_eq}
use Rattle.mdiobench.proofs.Printed.{line_text}
use Rattle.mdiobench.proofs.report.AfterOrdinalDisplay.fmt.Goals as goal

pub returns-clause-writes : goal.returns-clause-writes
returns-clause-writes g c = λ plain. λ ok.
    let writes = rw (c.in_radix.ensures, c.laid_out-3.ensures, c.laid_out-2.ensures, c.laid_out.ensures, c.letter-letter.ensures) at c.write.ensures.writes in
    has_written_of_eq _ _ _ _ _ (line_text c.args.self.now.0 (search rules)) (writes plain ok)
