-- One law of records in order for each turn: a good record hands on, a bad one refuses.
use mathlib.Core.Path.{◌≡◌, ap, sym, ◌∙◌}
use native.Mathlib.Nat.{sub-zero}
use native.Mathlib.Omega.{arith}
use Rattle.std.specs.Prelude.{Err}
use borrow.Author.Rules.{rules}
use Rattle.verdict.specs.Refusal.{Refused, judged, refusal_of}
use Rattle.verdict.proofs.Checks.{count-refused, count-done, next, stop, finish}
use Rattle.verdict.proofs.Faults.{some_number}
use Rattle.frame.specs.List.{record_fault}
use Rattle.frame.proofs.Lists.{refusal-parsed}
use Rattle.frame.proofs.list.check_list.Goals as goal

pub returns-in_err-count : goal.returns-in_err-count
returns-in_err-count c =
    let handed_on : c.from_residual.result ≡ Err c.in_err-count.field-0.0 = search rules in
    rw handed_on (count-refused _ _ _ _ (omega arith) c.in_err-count.ensures)

pub loop-k-init : goal.loop-k-init
loop-k-init c = rw sub-zero (count-done _ _ _ _ (omega arith) c.in_ok-count.ensures)

pub returns-in_default : goal.returns-in_default
returns-in_default c =
    let list = c.args.list.now in
    let found = ap judged (sym c.unwrap_err.ensures) ∙ c.parsed_at-record.ensures in
    let number = ap refusal_of found ∙ refusal-parsed list c.loop-k.k in
    rw c.at.ensures
    (ap (λ f. Refused f c.loop-k.k) number ∙ sym (c.loop-k.invariant ∙ stop (record_fault list) _ _ c.loop-k.k (search rules) (λ none. some_number c.unwrap_err.result (number ∙ none))))

pub loop-k-preserved : goal.loop-k-preserved
loop-k-preserved c =
    let list = c.args.list.now in
    let passes = sym (refusal-parsed list c.loop-k.k) ∙ ap refusal_of (sym c.in-Ok.ensures) in
    c.loop-k.invariant ∙ next (record_fault list) _ _ c.loop-k.k (search rules) passes

pub returns : goal.returns
returns c = sym (c.loop-k.invariant ∙ finish _ _ _ _ (search rules))
