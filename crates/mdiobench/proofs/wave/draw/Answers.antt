-- There is room for every log, so that the writer gets the log of the run.
use Rattle.std.proofs.Common.{◌≡◌, Err, rules, sym, ap}
use Rattle.verdict.specs.Refusal.{said}
use Rattle.verdict.proofs.Outputs.{refuses}
use Rattle.agreement.proofs.ExchangeCalls.{logged, not-logged}
use Rattle.mdiobench.proofs.Drawings.{drawn}
use Rattle.mdiobench.proofs.wave.draw.Goals as goal

pub returns-in_err-size : goal.returns-in_err-size
returns-in_err-size c =
    let says = ap said c.in_err-size.was in
    let refused = not-logged _ _ _ (sym c.zeroed-log.ensures.long) c.send.ensures says in
    let handed : c.from_residual.result ≡ Err c.in_err-size.field-0.0 = search rules in
    refuses _ _ (rw refused) (ap said handed)

-- the log of the run stands at the start of its room
pub returns : goal.returns
returns c =
    let run = logged _ _ _ (sym c.zeroed-log.ensures.long) c.send.ensures (ap said c.in_ok-size.was) in
    drawn _ _ _ run.passes run.log.bytes c.write_vcd.ensures
