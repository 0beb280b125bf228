-- The list file: what a parse says of its record, and what an accepted list is.
use Prim.Native.Nat.{ℕ, zero, suc, ◌+◌, ◌*◌, ◌≤◌, ◌<◌}
use mathlib.Core.Path.{◌≡◌, refl, ap, ap₂, sym, ◌∙◌}
use mathlib.Core.List.{List, []}
use native.Mathlib.Omega.{arith}
use lib.ListN.{length, drop, get_or, drop_of_length-le, get_or-eq_default}
use borrow.Author.Tests.{le-ltb}
use Rattle.verdict.specs.Refusal.{Done, Good, Bad, judged_by, refusal_of, wrong_op}
use Rattle.verdict.proofs.Checks.{Accepted, accepted}
use Rattle.frame.specs.declared.list.Transaction.{Transaction}
use Rattle.frame.specs.declared.answer.Answer.{Answer}
use Rattle.frame.specs.Answers.{answer_record, answer_bytes, put_in}
use Rattle.frame.specs.List.{list_record, most_transactions, fault_of, record_fault, parsed, transaction_at, list_verdict}

-- a parse tells what the checks found of its record
pub refusal-parsed : (list : List ℕ) (k : ℕ) → refusal_of (parsed list k) ≡ record_fault list k
unfolding parsed
refusal-parsed list k = go (record_fault list k) (transaction_at list k)
  where
    go : (f : ℕ) (t : Transaction) → refusal_of (judged_by f t) ≡ f
    go zero t = refl
    go (suc f) t = refl

-- a bad record is at fault
pub bad-at-fault : (list : List ℕ) (k c : ℕ) → parsed list k ≡ Bad c → record_fault list k ≡ 0 → ⊥
unfolding parsed
bad-at-fault list k c bad none =
    let good : judged_by 0 (transaction_at list k) ≡ Bad c = ap (λ f. judged_by f (transaction_at list k)) (sym none) ∙ bad in
    let z : ◌≡◌ {A = ℕ} 0 1 = cc in
    omega arith

-- a good one is the record's transaction
pub good-is-own : (list : List ℕ) (k : ℕ) (t : Transaction) → parsed list k ≡ Good t → t ≡ transaction_at list k
unfolding parsed
good-is-own list k t = go (record_fault list k)
  where
    go : (f : ℕ) → judged_by f (transaction_at list k) ≡ Good t → t ≡ transaction_at list k
    go zero good = cc
    go (suc f) good = cc

-- past the list's end every byte reads 0
pub none-past : (list : List ℕ) (k : ℕ) → length list ≤ k * list_record → transaction_at list k ≡ record { op = 0; address = 0; register = 0; «data» = 0 }
unfolding transaction_at
none-past list k past =
    let zero-at : (j : ℕ) → k * 6 ≤ j → get_or list j 0 ≡ 0 = λ j h. get_or-eq_default list 0 (omega arith) in
    rw (zero-at (k * 6) (omega arith), zero-at (k * 6 + 1) (omega arith), zero-at (k * 6 + 2) (omega arith), zero-at (k * 6 + 4) (omega arith), zero-at (k * 6 + 4 + 1) (omega arith))

-- which is no op
pub parsed-past : (list : List ℕ) (k : ℕ) → length list ≤ k * list_record → parsed list k ≡ Bad wrong_op
unfolding parsed record_fault
parsed-past list k past =
    ap₂ (λ t zero-byte. judged_by (fault_of t zero-byte) t) (none-past list k past) (get_or-eq_default list 0 (omega arith))

-- a record that just fits its part fills it
pub put-fills : (part : List ℕ) (a : Answer) → length part ≡ answer_record → put_in part a ≡ answer_bytes a
unfolding put_in
put-fills part a fits =
    let within : length part ≤ answer_record = omega arith in
    let rest : drop answer_record part ≡ [] = drop_of_length-le part within in
    rw (le-ltb (length part) answer_record (omega arith), rest)

-- an accepted list: so many whole records, at most 64, each of which passes
pub accepted-list : (list : List ℕ) (n : ℕ) → list_verdict list ≡ Done n → Accepted list_record most_transactions (record_fault list) list n
accepted-list list n e = accepted list_record most_transactions (record_fault list) list n e

-- and each of them parses as a good transaction
pub accepted-parses : (list : List ℕ) (n : ℕ) → list_verdict list ≡ Done n → (k : ℕ) → k < n → parsed list k ≡ Good (transaction_at list k)
unfolding parsed
accepted-parses list n e k within = ap (λ f. judged_by f (transaction_at list k)) ((accepted-list list n e).all_pass k within)

-- so none of them is bad
pub accepted-not-bad : (list : List ℕ) (n : ℕ) → list_verdict list ≡ Done n → (k c : ℕ) → k < n → parsed list k ≡ Bad c → ⊥
accepted-not-bad list n e k c within bad =
    let good = accepted-parses list n e k within in
    let z : ◌≡◌ {A = ℕ} 0 1 = cc in
    omega arith
