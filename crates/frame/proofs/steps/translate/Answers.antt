-- Each transaction puts its steps, which fill its part.
use Prim.Native.Nat.{ℕ, ◌+◌}
use mathlib.Core.Path.{◌≡◌, ap, ap₂, sym, ◌∙◌}
use mathlib.Core.List.{List, map}
use lib.ListN.{length}
use borrow.Author.Rules.{rules}
use Rattle.verdict.specs.Refusal.{Done}
use Rattle.verdict.specs.Output.{tabulate}
use Rattle.verdict.proofs.Lists.{map-tabulate}
use Rattle.frame.specs.declared.list.Transaction.{Transaction}
use Rattle.frame.specs.List.{transaction_at, list_verdict, transactions}
use Rattle.frame.specs.Steps.{step_at, steps_of}
use Rattle.frame.proofs.Lists.{accepted-list}
use Rattle.frame.proofs.Positions.{length-steps, steps-by-position}
use Rattle.frame.proofs.steps.translate.Goals as goal

-- the steps fill the part
sent_whole : (before after left : List ℕ) (t of_list : Transaction) → left ≡ after → after ≡ tabulate (length before) (λ i. step_at t (i + 1)) → length before ≡ 65 → t ≡ of_list → left ≡ steps_of of_list
sent_whole before after left t of_list leaves sends long own =
    leaves ∙ sends ∙ ap₂ (λ (n : ℕ) (t : Transaction). tabulate n (λ i. step_at t (i + 1))) long own ∙ steps-by-position of_list

pub returns : goal.returns
returns c =
    let list = c.args.list.now in
    let n = c.in_ok-count.count in
    let accepted : list_verdict list ≡ Done n = sym c.in_ok-count.ensures in
    let puts = c.put_each.ensures (λ k. steps_of (transaction_at list k)) (record { size = λ k. length-steps (transaction_at list k); leaves = λ k t part left own long call. search (rules, sent_whole) }) in
    let whole : tabulate n (λ k. steps_of (transaction_at list k)) ≡ map steps_of (transactions list) =
    sym (map-tabulate steps_of n (transaction_at list))
    ∙ ap (λ m. map steps_of (tabulate m (transaction_at list))) (accepted-list list n accepted).count in
    rw accepted (rw whole at puts)
