-- Each transaction puts its answer's record, which fills its part.
use Prim.Native.Nat.{ℕ, ◌+◌}
use mathlib.Core.Path.{◌≡◌, refl, ap, ap₂, sym, ◌∙◌}
use mathlib.Core.List.{List, map}
use native.Mathlib.Omega.{arith}
use lib.ListN.{length}
use denote.Ref.{Bor}
use borrow.Author.Rules.{rules}
use borrow.Author.Tests.{eq-eqb}
use Rattle.verdict.specs.Refusal.{Done}
use Rattle.verdict.specs.Output.{tabulate}
use Rattle.verdict.proofs.Lists.{map-tabulate}
use Rattle.frame.specs.declared.answer.Answer.{Answer}
use Rattle.frame.specs.declared.list.Transaction.{Transaction}
use Rattle.frame.specs.List.{transaction_at, list_verdict}
use Rattle.frame.specs.Log.{log_part, PartOf}
use Rattle.frame.specs.Answers.{answer_bytes, answer_in, answers_in, put_in}
use Rattle.frame.proofs.Lists.{put-fills, accepted-list}
use Rattle.frame.proofs.answer.decode.Goals as goal

-- the record fills the part
answered : (list : List ℕ) (log one : Bor (List ℕ)) (before after left : List ℕ) (a : Answer) (t : Transaction) (k : ℕ) → left ≡ after → after ≡ put_in before a → a ≡ answer_in t one.now → PartOf log (k + 1) one → length before ≡ 6 → t ≡ transaction_at list k → left ≡ answer_bytes (answer_in (transaction_at list k) (log_part log.now (k + 1)))
answered list log one before after left a t k leaves put answer part long own =
    leaves ∙ put ∙ put-fills before a long ∙ ap answer_bytes (answer ∙ ap₂ answer_in own part.bytes)

pub overflow_mul-count : goal.overflow_mul-count
overflow_mul-count c = omega (arith, (accepted-list _ _ (sym c.in_ok-count.ensures)).allowed)

pub returns : goal.returns
returns c =
    let list = c.args.list.now in
    let log = c.args.log.now in
    let n = c.in_ok-count.count in
    let accepted : list_verdict list ≡ Done n = sym c.in_ok-count.ensures in
    let answer-to : ℕ → Answer = λ k. answer_in (transaction_at list k) (log_part log (k + 1)) in
    let puts = c.put_each.ensures (λ k. answer_bytes (answer-to k)) (record { size = λ k. refl; leaves = λ k t part left sent long call. search (rules, answered) }) in
    let whole : tabulate n (λ k. answer_bytes (answer-to k)) ≡ map answer_bytes (answers_in list log) =
    sym (map-tabulate answer_bytes n answer-to)
    ∙ ap (λ m. map answer_bytes (tabulate m answer-to)) (accepted-list list n accepted).count in
    rw (accepted, eq-eqb _ _ c.if-log-count.false) (rw whole at puts)
