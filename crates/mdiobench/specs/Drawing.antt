-- Document 02, E3: "Write a log as such text". Here the log is that of a tray's run: its list sent over the wire, with its events, to its board.
use Rattle.std.specs.Prelude.{ℕ, List, length}
use Rattle.verdict.specs.Refusal.{Verdict, and_then}
use Rattle.verdict.specs.Output.{room_for, Writes}
use Rattle.board.specs.declared.Board.{Board}
use Rattle.agreement.specs.Exchange.{send_verdict, log_of_exchange}
use Rattle.waveform.specs.Waveform.{waveform}

-- the text
abbrev pub drawing_of : Board → List ℕ → List ℕ → List ℕ
drawing_of board list events = waveform (log_of_exchange board list events)

-- 12, then the list, then the events, then 10 by the text's length
abbrev pub drawing : Board → List ℕ → List ℕ → List ℕ → Verdict
drawing board list events out = and_then (send_verdict board list events) (λ n. room_for out (length (drawing_of board list events)))

-- what `draw` promises
abbrev pub Drawn : Board → List ℕ → List ℕ → List ℕ → Verdict → List ℕ → Type 0
Drawn board list events out r out' = Writes (drawing board list events out) (drawing_of board list events) out r out'
