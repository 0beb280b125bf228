-- There is room for every log: so what is refused after `send` is refused for the answers' room alone, and the decoder gets the log of the run.
use mathlib.Core.Path.{sym, ap, ◌∙◌}
use Rattle.verdict.specs.Refusal.{said}
use Rattle.between.proofs.Laws.{refuses-back}
use Rattle.agreement.proofs.ExchangeCalls.{planning-sends, logged, not-logged, exchanged, not-decoded}
use Rattle.agreement.proofs.exchange.Goals as goal

pub returns-in_default : goal.returns-in_default
returns-in_default c =
    let args = c.args in
    let says = ap said c.in_default.is in
    let refused = not-logged _ _ _ (sym c.zeroed-log.ensures.long) c.send-sent.ensures says in
    rw c.of.ensures (refuses-back (planning-sends _ _ _ args.answers.now ∙ rw refused) says)

pub returns-in_default-decoded : goal.returns-in_default-decoded
returns-in_default-decoded c =
    let run = logged _ _ _ (sym c.zeroed-log.ensures.long) c.send-sent.ensures (ap said c.in-Ok.is) in
    rw c.of-in_default-decoded.ensures (not-decoded _ _ _ run.passes run.log.bytes c.decode-decoded.ensures (ap said c.in_default-decoded.is))

pub returns : goal.returns
returns c =
    let run = logged _ _ _ (sym c.zeroed-log.ensures.long) c.send-sent.ensures (ap said c.in-Ok.is) in
    rw c.of-2.ensures (exchanged _ _ _ run.passes run.log.bytes c.decode-decoded.ensures (ap said c.in-Ok-decoded.is) run.board)
