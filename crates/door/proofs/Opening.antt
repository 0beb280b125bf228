-- What a function for C promises follows from the call behind it, and fixes its result and every byte of its output.
use Prim.Native.Nat.{ℕ}
use mathlib.Core.Path.{◌≡◌, ap, sym, ◌∙◌}
use mathlib.Core.List.{List}
use Rattle.verdict.specs.Refusal.{Verdict, Done, Refused}
use Rattle.verdict.specs.Output.{Writes}
use Rattle.board.specs.declared.Board.{Board}
use Rattle.board.specs.Outcome.{Told}
use Rattle.board.specs.Load.{loaded}
use Rattle.waveform.specs.Waveform.{ReadBack}
use Rattle.waveform.proofs.ReadBack.{reading-both}
use Rattle.door.specs.Door.{code_of, Opens, with_board, OpensReadVcd}

-- two results that meet the promise are equal
pub opens-unique : {answer : Verdict} {result out out₁ out₂ : List ℕ} {r s : ℕ} → Opens answer result out r out₁ → Opens answer result out s out₂ → (r ≡ s) × (out₁ ≡ out₂)
opens-unique p q = (p.code ∙ sym q.code, p.output ∙ sym q.output)

pub opens : {answer v : Verdict} {result out out' : List ℕ} {r : ℕ} → Writes answer result out v out' → r ≡ code_of v → Opens answer result out r out'
opens w e = record { code = e ∙ ap code_of w.verdict; output = w.output }

-- the same of a text that is read
pub opens-reading : {v : Verdict} {text out out' : List ℕ} {r : ℕ} → ReadBack text out v out' → r ≡ code_of v → OpensReadVcd text out r out'
opens-reading read e = record { ours = λ log writes. opens (read.ours log writes) e; foreign = λ strange. opens (read.foreign strange) e }

pub reading-unique : {text out out₁ out₂ : List ℕ} {r s : ℕ} → OpensReadVcd text out r out₁ → OpensReadVcd text out s out₂ → (r ≡ s) × (out₁ ≡ out₂)
reading-unique p q = reading-both (λ answer result. opens-unique) p q

module _ (file : List ℕ) (l : Told) (same : l ≡ loaded file) (call : Board → Verdict) (result : Board → List ℕ) {out : List ℕ} where
  -- a refused board file: nothing else is asked
  pub opens-refused : {r number index : ℕ} → l.verdict ≡ Refused number index → r ≡ code_of l.verdict → Opens (with_board file call) (result (loaded file).board) out r out
  opens-refused refused e = rw (← same, refused) (record { code = e ∙ ap code_of refused; output = λ i. out })

  -- a loaded board: what the call answers on it
  pub opens-loaded : {r n : ℕ} {v : Verdict} {out' : List ℕ} → l.verdict ≡ Done n → Writes (call l.board) (result l.board) out v out' → r ≡ code_of v → Opens (with_board file call) (result (loaded file).board) out r out'
  opens-loaded done w e = rw (← same, done) (opens w e)
