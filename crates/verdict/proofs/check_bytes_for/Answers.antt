-- A refusal is by 2 or by the number that was given.
use mathlib.Core.Path.{ap, sym, ◌∙◌}
use Rattle.verdict.specs.Refusal.{Refused}
use Rattle.verdict.proofs.Checks.{bytes-number}
use Rattle.verdict.proofs.check_bytes_for.Goals as goal

pub returns-in-Err-2 : goal.returns-in-Err-2
returns-in-Err-2 c =
    let by_two = bytes-number c.args.most c.args.largest c.from-wrong.result c.in-Err.number c.in-Err.index c.args.file.now (sym c.in-Err.ensures) c.if-number-wrong.false in
    rw c.at-in-Err-2.ensures (ap (λ number. Refused number c.in-Err.index) (sym by_two) ∙ rw (← c.from-wrong.ensures) c.in-Err.ensures)
