-- Why a refusal of `exchange` or `draw` is told of the events, and one of `listen` of the capture: board and list have passed before, and there is room for every answer and every text.
use Prim.Native.Nat.{ℕ, ◌*◌, ◌≤◌}
use mathlib.Core.Path.{◌≡◌, refl, sym, ◌∙◌}
use mathlib.Core.List.{List}
use native.Mathlib.Omega.{arith}
use lib.ListN.{length}
use Rattle.verdict.specs.Refusal.{Verdict, Done, Refused, and_then}
use Rattle.verdict.specs.Output.{room_for}
use Rattle.verdict.proofs.Checks.{done-by}
use Rattle.frame.specs.Frame.{clocks}
use Rattle.frame.specs.List.{most_transactions}
use Rattle.frame.specs.Answers.{answer_record}
use Rattle.board.specs.declared.Board.{Board}
use Rattle.board.specs.Check.{checked}
use Rattle.board.specs.Events.{events_verdict}
use Rattle.board.proofs.LoadSound.{load-sound}
use Rattle.plain_machine.specs.Plain.{planning}
use Rattle.verdict.proofs.Outputs.{room-done, room_fits}
use Rattle.agreement.specs.Exchange.{log_of_exchange}
use Rattle.agreement.proofs.ExchangeCalls.{few, one_by_one}
use Rattle.listener.specs.Listening.{capture_verdict, records_in, listening}
use Rattle.listener.proofs.Laws.{room-for-all}
use Rattle.waveform.specs.Waveform.{longest}
use Rattle.waveform.proofs.Longest.{never-longer}
use Rattle.mdiobench.specs.Tray.{Passed}
use Rattle.mdiobench.specs.Drawing.{drawing_of, drawing}
use Rattle.mdiobench.proofs.Drawings.{log-writable}

-- room for all of a result refuses nothing
room-behind : (v : Verdict) (out : List ℕ) (size : ℕ) → size ≤ length out → and_then v (λ n. room_for out size) ≡ and_then v (λ n. Done size)
room-behind (Done n) out size fits = room-done out size fits
room-behind (Refused number index) out size fits = refl

-- "board, then list, then events": once the first two have passed, what is left to refuse is in the event file
module _ (board : Board) (list events out : List ℕ) (passed : Passed board list) where
  -- a load gives a sound board
  sound : checked board ≡ Done board.count
  sound = rw passed.gives (load-sound passed.file)

  abbrev pub events_alone : ℕ → Verdict
  events_alone size = and_then (events_verdict board events (passed.count * clocks)) (λ happenings. Done size)

  pub only-events : most_transactions * answer_record ≤ length out → planning board list events out ≡ events_alone (passed.count * answer_record)
  only-events room =
      rw (sound, passed.accepted)
      (room-behind (events_verdict board events (passed.count * clocks)) out (passed.count * answer_record) (omega (arith, few list passed.count passed.accepted)))

  -- so of a waveform, too: neither the list's steps are refused, nor their run but for the events, nor the log of the run
  pub only-events-drawn : longest ≤ length out → drawing board list events out ≡ events_alone (length (drawing_of board list events))
  only-events-drawn room =
      let short = never-longer (log_of_exchange board list events) (log-writable board list events passed.count passed.accepted) in
      rw (sound, passed.accepted)
      (one_by_one (events_verdict board events (passed.count * clocks)) _ _
      ∙ room-behind (events_verdict board events (passed.count * clocks)) out (length (drawing_of board list events)) (omega (arith, short)))

-- "16 a byte over 1, after 2; then 10": what is left to refuse is in the capture
pub only-capture : (capture out : List ℕ) → 390 ≤ length out → listening capture out ≡ and_then (capture_verdict capture) (λ levels. Done (length (records_in capture) * answer_record))
only-capture capture out room = go (capture_verdict capture) refl
  where
    go : (v : Verdict) → capture_verdict capture ≡ v → listening capture out ≡ and_then v (λ levels. Done (length (records_in capture) * answer_record))
    go (Done levels) accepted = room-for-all capture out levels accepted room
    go (Refused number index) refused = rw refused

-- what a call that asks for room last has written is within its output
pub within-room : (first : Verdict) (size : ℕ → ℕ) (out : List ℕ) {answer : Verdict} {m : ℕ} → answer ≡ and_then first (λ n. room_for out (size n)) → answer ≡ Done m → m ≤ length out
within-room first size out {answer} {m} answers done =
    let by = done-by first (λ n. room_for out (size n)) (sym answers ∙ done) in
    let fits = room_fits out (size by.count) m by.rest in
    let all : size by.count ≡ m = cc (room-done out (size by.count) fits, by.rest) in
    omega (arith, fits)
