-- The 32 bits of an accepted transaction's frame say its header, and behind it turnaround and data: so the frame's record is what the decoder makes of those.
use Prim.Native.Nat.{ℕ, ◌+◌, ◌*◌, ◌/◌, ◌%◌, ◌^◌, ◌<◌}
use mathlib.Core.Path.{◌≡◌, refl, ap, ap₂, ◌∙◌}
use mathlib.Core.Bool.{Bool, true, false, ◌&&◌, cond}
use mathlib.Core.List.{[], ◌∷◌}
use native.Mathlib.Omega.{arith}
use lib.Dec.{eqb}
use borrow.Author.Tests.{eqb-true}
use Rattle.verdict.specs.Bits.{bit}
use Rattle.frame.specs.declared.list.Transaction.{Transaction}
use Rattle.frame.specs.declared.answer.Answer.{Answer}
use Rattle.frame.specs.Frame.{frame_bits}
use Rattle.frame.specs.List.{is_read}
use Rattle.frame.specs.Answers.{answer_by}
use Rattle.wire.specs.Follower.{our_start, header_of, header_seen}
use Rattle.wire.specs.Machines.{header_for}
use Rattle.agreement.specs.Agrees.{Accepted}
use Rattle.agreement.proofs.Rows.{header_word, header-says}
use Rattle.listener.specs.Records.{transaction_in, turnaround_in, starts_right, is_ours, records_of}

-- what turnaround and data, as a number of 18 bits, answer to a transaction
abbrev pub answer_of : Transaction → ℕ → Answer
answer_of t tail =
    let word = tail % 2 ^ 16 in
    answer_by (record { op = t.op; address = t.address; register = t.register; «data» = word }) (record { second = bit 16 tail }) word

module _ (t : Transaction) (accepted : Accepted t) (tail : ℕ) (fits : tail < 2 ^ 18) where
  abbrev word : ℕ
  word = header_word t accepted * 2 ^ 18 + tail

  header-in : header_seen frame_bits word ≡ header_for t
  header-in =
      let first : word / 2 ^ 18 ≡ header_word t accepted / 2 ^ 0 = omega arith in
      ap header_of first ∙ header-says t accepted

  transaction-in : transaction_in word ≡ record { op = t.op; address = t.address; register = t.register; «data» = tail % 2 ^ 16 }
  unfolding transaction_in
  transaction-in =
      let last : word % 2 ^ 16 ≡ tail % 2 ^ 16 = omega arith in
      ap₂ (λ h w. record { op = h.op; address = h.address; register = h.register; «data» = w }) header-in last

  turnaround-in : turnaround_in word ≡ record { second = bit 16 tail }
  turnaround-in =
      let same : bit 16 word ≡ bit 16 tail = omega arith in
      ap (λ b. record { second = b }) same

  starts-right : starts_right word ≡ true
  starts-right = ap (λ h. eqb h.start our_start) header-in

  is_ours_lem : is_ours t ≡ true
  is_ours_lem = go (is_read t) refl
    where
      go : (b : Bool) → is_read t ≡ b → is_ours t ≡ true
      go true e = rw (eqb-true t.op 2 e)
      go false e = rw (accepted.op e)

  pub record_of : records_of word ≡ answer_of t tail ∷ []
  unfolding records_of
  record_of =
      ap₂ (λ seen turnaround. cond (starts_right word && is_ours seen) (answer_by seen turnaround seen.«data» ∷ []) []) transaction-in turnaround-in
      ∙ rw (starts-right, is_ours_lem)
