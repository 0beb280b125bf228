-- What the checks find of the record decides; past the list's end the op is at fault.
use Prim.Native.Nat.{ℕ, zero, suc}
use mathlib.Core.Path.{◌≡◌, refl, sym, ◌∙◌}
use mathlib.Core.List.{List}
use native.Mathlib.Omega.{arith}
use Rattle.std.proofs.lemmas.Result.{err_from_is_err_and}
use Rattle.verdict.specs.Refusal.{Bad, judged_by}
use Rattle.verdict.proofs.Faults.{some_number}
use Rattle.frame.specs.declared.list.Transaction.{Transaction}
use Rattle.frame.specs.List.{transaction_at, zero_byte_at, fault_of, record_fault, parsed}
use Rattle.frame.proofs.Lists.{parsed-past}
use Rattle.frame.proofs.list.parsed_at.Goals as goal

bad : (fault : ℕ) (t : Transaction) → (fault ≡ 0 → ⊥) → Bad fault ≡ judged_by fault t
bad zero t h = absurd (h refl)
bad (suc fault) t h = refl

-- the transaction and the zero byte that were read are the record's
found : (list : List ℕ) (k fault zero_byte : ℕ) (t : Transaction) → t ≡ transaction_at list k → zero_byte ≡ zero_byte_at list k → fault ≡ fault_of t zero_byte → judged_by fault t ≡ parsed list k
unfolding parsed record_fault
found list k fault zero_byte t record_read zero_read judged = rw (judged, zero_read, record_read)

pub returns-then-list-k : goal.returns-then-list-k
returns-then-list-k c = sym (parsed-past _ _ (omega arith))

pub returns-in_err-check : goal.returns-in_err-check
returns-in_err-check c =
    let handed_on = err_from_is_err_and c.from_residual.result c.from_residual.ensures.1 in
    rw (handed_on.1, handed_on.2)
    (bad _ c.transaction_at-record.result (some_number c.in_err-check.field-0.0) ∙ found _ _ _ _ _ c.transaction_at-record.ensures c.byte_at.ensures c.in_err-check.ensures)

pub returns : goal.returns
returns c = found _ _ _ _ _ c.transaction_at-record.ensures c.byte_at.ensures c.in_ok-check.ensures
