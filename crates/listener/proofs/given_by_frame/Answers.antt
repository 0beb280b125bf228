-- The start and the op decide whether a frame gives a record, and by which rule.
use mathlib.Core.Path.{ap, ◌∙◌}
use mathlib.Core.List.{[], ◌∷◌}
use native.Mathlib.Omega.{arith}
use borrow.Author.Tests.{eq-eqb, ne_eqb}
use Rattle.frame.specs.Answers.{read_answer}
use Rattle.listener.specs.Records.{records_of}
use Rattle.listener.proofs.given_by_frame.Goals as goal

pub returns-then-from-ne-OUR_START : goal.returns-then-from-ne-OUR_START
unfolding records_of
returns-then-from-ne-OUR_START c = rw (← c.from.ensures, ne_eqb _ 1 c.if-from-ne-OUR_START.true)

pub returns-in-1 : goal.returns-in-1
unfolding records_of
returns-in-1 c =
    let op = c.in-1.is in
    let ours = c.if-from-ne-OUR_START.false in
    rw (← c.from.ensures, eq-eqb _ 1 ours, ← c.transaction_in-seen.ensures, eq-eqb _ 1 op, ne_eqb c.transaction_in-seen.result.op 2 (omega (arith, op)))
    (ap (λ a. a ∷ []) c.answer.ensures)

pub returns-in-2 : goal.returns-in-2
unfolding records_of
returns-in-2 c =
    let op = c.in-2.is in
    let ours = c.if-from-ne-OUR_START.false in
    let seen = c.transaction_in-seen.result in
    rw (← c.from.ensures, eq-eqb _ 1 ours, ← c.transaction_in-seen.ensures, eq-eqb _ 2 op, ne_eqb seen.op 1 (omega (arith, op)))
    (ap (λ a. a ∷ []) (c.read_answer.ensures ∙ ap (λ turnaround. read_answer seen turnaround seen.«data») c.turnaround_in.ensures))

pub returns-in_default : goal.returns-in_default
unfolding records_of
returns-in_default c =
    let ours = c.if-from-ne-OUR_START.false in
    let op = c.transaction_in-seen.result.op in
    rw (← c.from.ensures, eq-eqb _ 1 ours, ← c.transaction_in-seen.ensures, ne_eqb op 1 (λ one. omega arith), ne_eqb op 2 (λ two. omega arith))
