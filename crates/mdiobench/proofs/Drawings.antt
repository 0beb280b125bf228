-- The log of a list that is sent has whole records and few enough, so that its waveform is refused for the text's room alone.
use Prim.Native.Nat.{ℕ, ◌*◌}
use mathlib.Core.Path.{◌≡◌}
use mathlib.Core.List.{List}
use native.Mathlib.Omega.{arith}
use lib.ListN.{length}
use Rattle.verdict.specs.Refusal.{Verdict, Done}
use Rattle.frame.specs.Frame.{clocks, log_record}
use Rattle.frame.specs.List.{list_verdict}
use Rattle.board.specs.declared.Board.{Board}
use Rattle.agreement.specs.Exchange.{send_verdict, log_of_exchange}
use Rattle.agreement.proofs.ExchangeCalls.{few, log-counted, sent-list}
use Rattle.waveform.specs.Waveform.{writing, Written}
use Rattle.waveform.specs.Passes.{Accepted}
use Rattle.waveform.proofs.Writing.{log-accepted}
use Rattle.mdiobench.specs.Drawing.{drawing, Drawn}

module _ (board : Board) (list events : List ℕ) where
  pub log-writable : (n : ℕ) → list_verdict list ≡ Done n → Accepted (log_of_exchange board list events)
  log-writable n passed =
      let long : length (log_of_exchange board list events) ≡ n * clocks * log_record = log-counted list n passed board events in
      log-accepted (log_of_exchange board list events) (omega arith) (omega (arith, few list n passed))

  -- so what is written of it is what is drawn
  pub drawn : {n : ℕ} {log out out' : List ℕ} {r : Verdict} → send_verdict board list events ≡ Done n → log ≡ log_of_exchange board list events → Written log out r out' → Drawn board list events out r out'
  drawn {n} {log} {out} {out'} {r} passes held written =
      let good = log-writable n (sent-list board list events passes) in
      let same : writing (log_of_exchange board list events) out ≡ drawing board list events out = rw (good, passes) in
      rw same at (rw held at written)
