-- What a call that hands a board back promises fixes its verdict, the board and every byte of its output; and how each answer meets it.
use Prim.Native.Nat.{ℕ}
use mathlib.Core.Path.{◌≡◌, sym, ◌∙◌}
use mathlib.Core.List.{List}
use Rattle.verdict.specs.declared.Refusal.{Refusal}
use Rattle.verdict.specs.Refusal.{Verdict, Done, Refused}
use Rattle.verdict.specs.Output.{written}
use Rattle.verdict.proofs.Outputs.{writes-unique, refuses, succeeds}
use Rattle.board.specs.declared.Board.{Board}
use Rattle.board.specs.declared.Outcome.{Outcome}
use Rattle.board.specs.Outcome.{Told, told}
use Rattle.board.proofs.Unique.{one_outcome}
use Rattle.between.specs.Outcome.{HandsBack}

module _ {answer : Verdict} {result : List ℕ} {after before : Board} {out : List ℕ} where
  -- two results that meet the promise are equal, as are the outputs
  pub hands-back-unique : {r s : Told} {out₁ out₂ : List ℕ} → HandsBack answer result after before out r out₁ → HandsBack answer result after before out s out₂ → (r ≡ s) × (out₁ ≡ out₂)
  hands-back-unique p q =
      let same = writes-unique p.writes q.writes in
      (λ i. record { verdict = same.0 i; board = (p.board ∙ sym q.board) i }, same.1)

  -- and so are the outcomes that tell them
  pub outcome-unique : {r s : Outcome Refusal} {out₁ out₂ : List ℕ} → HandsBack answer result after before out (told r) out₁ → HandsBack answer result after before out (told s) out₂ → (r ≡ s) × (out₁ ≡ out₂)
  outcome-unique {r} {s} p q =
      let same = hands-back-unique p q in
      (one_outcome r s same.0, same.1)

  -- a refusal leaves board and output as they were
  pub refuses-back : {verdict : Verdict} {c k : ℕ} → answer ≡ Refused c k → verdict ≡ Refused c k → HandsBack answer result after before out (record { verdict = verdict; board = before }) out
  refuses-back e p = record { writes = refuses result out e p; board = rw e }

  -- success hands back the board after it
  pub succeeds-back : {n : ℕ} {now : Board} {out' : List ℕ} → answer ≡ Done n → out' ≡ written result out → now ≡ after → HandsBack answer result after before out (record { verdict = Done n; board = now }) out'
  succeeds-back e p q = record { writes = succeeds e p; board = rw e q }
