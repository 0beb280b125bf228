-- 12 and the list's refusals come first; what passes is translated whole, since there is room for the longest list, and its run is what is sent.
use mathlib.Core.Path.{◌≡◌, sym, ap, ◌∙◌}
use Rattle.verdict.specs.Refusal.{Done, said}
use Rattle.board.specs.Check.{checked}
use Rattle.between.proofs.Laws.{refuses-back}
use Rattle.agreement.proofs.ExchangeCalls.{stepped, not-stepped, sent-by-run}
use Rattle.agreement.proofs.send.Goals as goal

pub returns-in_default-translated : goal.returns-in_default-translated
returns-in_default-translated c =
    let sound : checked c.args.board ≡ Done c.in-Ok.field-0 = sym c.check-sound.ensures ∙ ap said c.in-Ok.is in
    let says = ap said c.in_default-translated.is in
    let refused = not-stepped _ (sym c.zeroed-steps.ensures.long) c.translate-translated.ensures says in
    rw c.of-in_default-translated.ensures (refuses-back (rw (sound, refused)) says)

pub returns : goal.returns
returns c =
    let list = stepped _ (sym c.zeroed-steps.ensures.long) c.translate-translated.ensures (ap said c.in-Ok-translated.is) in
    sent-by-run _ _ _ list.accepted list.steps.bytes c.run.ensures
