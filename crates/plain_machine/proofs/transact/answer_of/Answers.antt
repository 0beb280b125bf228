-- A PHY that answers is asked by a read; one that does not answers as nobody does.
use mathlib.Core.Path.{◌≡◌, refl, sym, ap, ◌∙◌}
use mathlib.Core.Bool.{Bool, true, false}
use borrow.Author.Tests.{eqb-false}
use Rattle.frame.specs.declared.list.Transaction.{Transaction}
use Rattle.frame.specs.List.{is_read}
use Rattle.frame.specs.Answers.{answer_to}
use Rattle.wire.specs.Machines.{header_for}
use Rattle.phy.specs.declared.Phy.{Phy}
use Rattle.phy.specs.Fields.{register_of}
use Rattle.phy.specs.Own.{answers}
use Rattle.phy.proofs.Headers.{answers-reads-only}
use Rattle.plain_machine.specs.Transact.{answer_of}
use Rattle.plain_machine.proofs.transact.answer_of.Goals as goal

-- who answers was asked by a read
read_only : (t : Transaction) (phy : Phy) → answers (header_for t) phy.own ≡ true → is_read t ≡ true
read_only t phy does = go (is_read t) refl
  where
    go : (b : Bool) → is_read t ≡ b → b ≡ true
    go true e = refl
    go false e = sym (answers-reads-only (header_for t) phy.own (eqb-false _ _ e)) ∙ does

pub returns-then-answers : goal.returns-then-answers
unfolding answer_of
returns-then-answers c =
    let t = c.args.transaction in
    let phy = c.args.phy in
    let header = c.from-header.ensures in
    let answered = sym (c.answers.ensures ∙ ap (λ h. answers h phy.own) header) ∙ c.if-answers.true in
    rw (read_only t phy answered, answered)
    (c.answer.ensures ∙ ap (answer_to t 1) (c.word.ensures ∙ ap (λ h. register_of h.register phy) header))
