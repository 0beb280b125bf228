-- What document 02 says of waveforms beside the promises.
use Prim.Native.Nat.{ℕ, ◌*◌, ◌%◌, ◌≤◌, ◌<◌}
use mathlib.Core.Path.{◌≡◌, refl, ap, sym, ◌∙◌}
use mathlib.Core.Bool.{Bool, true, false}
use mathlib.Core.List.{List, map}
use native.Mathlib.Omega.{arith}
use lib.ListN.{length}
use lib.Dec.{ltb}
use borrow.Author.Tests.{le-ltb}
use Rattle.verdict.specs.Refusal.{said, Verdict, Done, Refused, no_room, wrong_text, ◌when◌, refuse}
use Rattle.verdict.specs.declared.Refusal.{Refusal}
use Rattle.std.specs.Prelude.{Result}
use Rattle.verdict.specs.Lists.{All}
use Rattle.verdict.specs.File.{byte_at, records}
use Rattle.verdict.specs.Output.{written}
use Rattle.verdict.proofs.Lists.{map-tabulate, tabulate-ext}
use Rattle.verdict.proofs.Outputs.{result-unique}
use Rattle.frame.specs.Frame.{log_record}
use Rattle.waveform.specs.Signals.{signals_of}
use Rattle.waveform.specs.Waveform.{text_of, signals_in, waveform, writing, Written, WritesAs, flags_in, ReadBack, longest}
use Rattle.waveform.specs.Passes.{Accepted}
use Rattle.waveform.proofs.Logs.{masked, signals-told, log_of, log-bytes}
use Rattle.waveform.proofs.Longest.{never-longer}
use Rattle.waveform.proofs.ReadBack.{log-read, read_log, reading-both}

-- two results that meet the promise of `write_vcd` are equal, as are the outputs
pub write-unique : (log out : List ℕ) {r s : Result ℕ Refusal} {out₁ out₂ : List ℕ} → Written log out (said r) out₁ → Written log out (said s) out₂ → (r ≡ s) × (out₁ ≡ out₂)
write-unique log out p q = result-unique p q

-- and of `read_vcd`
pub read-unique : (text out : List ℕ) {r s : Result ℕ Refusal} {out₁ out₂ : List ℕ} → ReadBack text out (said r) out₁ → ReadBack text out (said s) out₂ → (r ≡ s) × (out₁ ≡ out₂)
read-unique text out p q = reading-both (λ answer result. result-unique) p q

-- as many bytes as the longest text has are room for every log
pub room-for-all : (log out : List ℕ) → Accepted log → longest ≤ length out → writing log out ≡ Done (length (waveform log))
room-for-all log out good room = rw (good, le-ltb (length out) (length (waveform log)) (omega (arith, room, never-longer log good)))

-- reading what was written gives the flags, "masked to 1, 2, 4"
pub read-what-was-written : (log out : List ℕ) {r : Verdict} {out' : List ℕ} → Accepted log → records log_record log ≤ length out → ReadBack (waveform log) out r out' →
    (r ≡ Done (records log_record log)) × (out' ≡ written (flags_in log) out)
read-what-was-written log out good room read =
    let wrote = read.ours log (record { accepted = good; same = refl }) in
    let enough = le-ltb (length out) (records log_record log) room in
    (wrote.verdict ∙ rw enough, wrote.output ∙ rw enough)

-- 18 "exactly if the text is none that the writer writes"
pub refused-if : (text out : List ℕ) {r : Verdict} {out' : List ℕ} → ReadBack text out r out' → ((log : List ℕ) → WritesAs log text → ⊥) → r ≡ Refused wrong_text 0
refused-if text out read strange = (read.foreign strange).verdict

pub refused-only-if : (text out : List ℕ) {r : Verdict} {out' : List ℕ} → ReadBack text out r out' → r ≡ Refused wrong_text 0 → (log : List ℕ) → WritesAs log text → ⊥
refused-only-if text out read refused log writes = go (ltb (length out) (records log_record log)) (sym (read.ours log writes).verdict ∙ refused)
  where
    go : (short : Bool) → refuse (no_room when short) 0 (Done (records log_record log)) ≡ Refused wrong_text 0 → ⊥
    go true e = let z : ◌≡◌ {A = ℕ} 10 18 = cc in omega arith
    go false e = let z : ◌≡◌ {A = ℕ} 0 1 = cc in omega arith

-- where no log of bytes writes a text none does, whatever numbers a log may have
pub bytes-suffice : (text : List ℕ) → ((log : List ℕ) → All (λ b. b < 256) log → WritesAs log text → ⊥) → (log : List ℕ) → WritesAs log text → ⊥
bytes-suffice text strange log writes =
    strange (log_of (signals_in log)) (log-bytes (signals_in log)) (read_log text (signals_in log) (log-read log text writes))

-- a log's text depends on its flags 1, 2 and 4 alone
pub only-flags : (log : List ℕ) → waveform log ≡ text_of (map signals_of (flags_in log))
unfolding waveform
only-flags log =
    ap text_of
    (sym (map-tabulate signals_of (records log_record log) (λ i. byte_at log (i * log_record) % 8)
    ∙ tabulate-ext (records log_record log) _ _ (λ i here. ap signals_of (sym (masked (byte_at log (i * log_record)))) ∙ signals-told (signals_of (byte_at log (i * log_record))))))
