-- What document 01 says of lists, steps, answers and parts beside the promises.
use Prim.Native.Nat.{ℕ, ◌+◌, ◌*◌, ◌≤◌, ◌<◌}
use mathlib.Core.Path.{◌≡◌, refl, ap, ap₂, sym, ◌∙◌}
use mathlib.Core.Bool.{Bool, true, false}
use mathlib.Core.List.{List}
use native.Mathlib.Omega.{arith}
use native.Mathlib.Numerals.{add-one}
use denote.Ref.{Bor}
use lib.ListN.{length, get_or}
use Rattle.verdict.specs.Refusal.{said, Refused}
use Rattle.verdict.specs.declared.Refusal.{Refusal}
use Rattle.std.specs.Prelude.{Result}
use Rattle.verdict.specs.Bits.{value_of}
use Rattle.verdict.specs.File.{records}
use Rattle.verdict.specs.Output.{tabulate, join}
use Rattle.verdict.proofs.Checks.{WhyRefused, why-refused}
use Rattle.verdict.proofs.Lists.{tabulate-ext, map-tabulate, length-pieces, get_or-pieces}
use Rattle.verdict.proofs.Outputs.{result-unique}
use Rattle.frame.specs.declared.list.Transaction.{Transaction}
use Rattle.frame.specs.Frame.{clocks}
use Rattle.frame.specs.List.{list_record, most_transactions, is_read, transaction_at, record_fault, list_verdict}
use Rattle.frame.specs.Steps.{steps_of, step_at, translation, Translated}
use Rattle.frame.specs.Log.{level_at, log_part, PartOf}
use Rattle.frame.specs.Answers.{turnaround_in, word_in, answer_by, answer_in, answers_in, Decoded}
use Rattle.frame.proofs.Positions.{length-steps}

-- "A refusal returns its number and the record's index": a list is refused for its length, its count, or its first record at fault
pub list-refused : (list : List ℕ) (c j : ℕ) → list_verdict list ≡ Refused c j → WhyRefused list_record most_transactions (record_fault list) list c j
list-refused list c j = why-refused list_record most_transactions (record_fault list) list c j

-- "A transaction is 65 clocks": a translation has 65 steps for each transaction, and clock i + 1 of transaction k has its step by the table
module _ (list : List ℕ) where
  in_pieces : translation list ≡ join (tabulate (records list_record list) (λ k. steps_of (transaction_at list k)))
  in_pieces = ap join (map-tabulate steps_of (records list_record list) (transaction_at list))

  pub length-translation : length (translation list) ≡ records list_record list * clocks
  length-translation =
      ap length in_pieces ∙ length-pieces 65 (records list_record list) _ (λ k. length-steps (transaction_at list k))

  pub step-of-translation : (k i : ℕ) → k < records list_record list → i < clocks → get_or (translation list) (k * clocks + i) 2 ≡ step_at (transaction_at list k) (i + 1)
  unfolding step_at
  step-of-translation k i h l =
      ap (λ xs. get_or xs (k * clocks + i) 2) in_pieces
      ∙ get_or-pieces 65 _ (λ j. steps_of (transaction_at list j)) (λ j. length-steps (transaction_at list j)) 2 k i h l
      ∙ sym (rw add-one)

-- "It ignores all else in the log": a read's answer hangs on the levels of its clocks 48 to 64, a write's on nothing
pub SameLevels : List ℕ → List ℕ → Type 0
SameLevels part part' = (clock : ℕ) → 48 ≤ clock → clock ≤ 64 → level_at part clock ≡ level_at part' clock

pub answer-looks-at : (t : Transaction) (part part' : List ℕ) → (is_read t ≡ true → SameLevels part part') → answer_in t part ≡ answer_in t part'
unfolding answer_in SameLevels
answer-looks-at t part part' same = go (is_read t) refl
  where
    go : (reads : Bool) → is_read t ≡ reads → answer_in t part ≡ answer_in t part'
    go false e = rw e
    go true e =
        let turnaround : turnaround_in part ≡ turnaround_in part' = ap (λ level. record { second = level }) (same e 48 (omega arith) (omega arith)) in
        let word : word_in part ≡ word_in part' = ap value_of (tabulate-ext 16 _ _ (λ i h. same e (49 + i) (omega arith) (omega arith))) in
        ap₂ (answer_by t) turnaround word

pub decode-looks-at : (list log log' : List ℕ) → ((k : ℕ) → is_read (transaction_at list k) ≡ true → SameLevels (log_part log (k + 1)) (log_part log' (k + 1))) → answers_in list log ≡ answers_in list log'
decode-looks-at list log log' same =
    tabulate-ext _ _ _ (λ k h. answer-looks-at (transaction_at list k) (log_part log (k + 1)) (log_part log' (k + 1)) (same k))

-- two results that meet a promise are equal
pub translate-unique : (list out : List ℕ) {out₁ out₂ : List ℕ} {r s : Result ℕ Refusal} → Translated list out (said r) out₁ → Translated list out (said s) out₂ → (r ≡ s) × (out₁ ≡ out₂)
translate-unique list out = result-unique

pub decode-unique : (list log out : List ℕ) {out₁ out₂ : List ℕ} {r s : Result ℕ Refusal} → Decoded list log out (said r) out₁ → Decoded list log out (said s) out₂ → (r ≡ s) × (out₁ ≡ out₂)
decode-unique list log out = result-unique

-- the same bytes in the same place
pub part-unique : {log part₁ part₂ : Bor (List ℕ)} {k : ℕ} → PartOf log k part₁ → PartOf log k part₂ → (part₁.now ≡ part₂.now) × (part₁.ref_ptr.0 ≡ part₂.ref_ptr.0) × (part₁.ref_ptr.1 ≡ part₂.ref_ptr.1)
part-unique p q = (p.bytes ∙ sym q.bytes, p.block ∙ sym q.block, p.place ∙ sym q.place)
