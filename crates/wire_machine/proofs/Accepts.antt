-- What is known of a run that is not refused.
use Prim.Native.Nat.{ℕ, ◌*◌, ◌≤◌, ◌<◌}
use mathlib.Core.Path.{◌≡◌, sym, ap, ◌∙◌}
use mathlib.Core.List.{List}
use native.Mathlib.Omega.{arith}
use lib.ListN.{length}
use lib.Seq.{length-take-le}
use Rattle.std.specs.Prelude.{true, Result, Ok, Err}
use Rattle.std.specs.Result.{is_ok}
use Rattle.verdict.specs.declared.Refusal.{Refusal}
use Rattle.verdict.specs.Refusal.{Verdict, Done, said, wrong_step}
use Rattle.verdict.specs.File.{records}
use Rattle.verdict.proofs.Checks.{accepted, passed-bytes, done-by}
use Rattle.verdict.proofs.Outputs.{room-done, room_fits}
use Rattle.frame.specs.Steps.{most_steps, largest_step}
use Rattle.board.specs.declared.Board.{Board}
use Rattle.board.specs.Check.{places, checked}
use Rattle.board.specs.Events.{event_record, most_events, event_address, event_fault, events_verdict}
use Rattle.board.proofs.Soundness.{Sound, check_sound}
use Rattle.between.specs.Outcome.{phys_of, owns_of}
use Rattle.between.specs.Happened.{place_of}
use Rattle.between.proofs.Happenings.{Rising, accepted-rising}
use Rattle.between.proofs.EventPlaces.{OneTakes, sound-one, accepted-place}
use Rattle.wire_machine.specs.Run.{steps_verdict, running}

-- a run that goes on: a sound board, few enough steps, events by rising clock, each at a PHY of the board, and room for its log
pub record Goes (board : Board) (steps events log : List ℕ) : Type 0 where
  pub sound : Sound board
  pub few : length steps ≤ most_steps
  pub few-events : records event_record events ≤ most_events
  pub rising : Rising events
  pub full : length (phys_of board) ≡ board.count
  pub one : OneTakes (owns_of (phys_of board))
  pub named : (k : ℕ) → k < records event_record events → place_of (owns_of (phys_of board)) (event_address events k) < board.count
  pub room : length steps * 5 ≤ length log

pub goes : (board : Board) (steps events log : List ℕ) (m : ℕ) → length board.phys ≡ places → running board steps events log ≡ Done m → Goes board steps events log
goes board steps events log m long e =
    let on-board = done-by (checked board) _ e in
    let on-steps = done-by (steps_verdict steps) _ on-board.rest in
    let on-events = done-by (events_verdict board events on-steps.count) _ on-steps.rest in
    let pass = passed-bytes most_steps largest_step wrong_step steps on-steps.count on-steps.passes in
    let sound = (check_sound board on-board.count on-board.passes).1 in
    let full = length-take-le board.count board.phys (omega (arith, sound.at_most)) in
    let all = accepted event_record most_events (event_fault board events on-steps.count) events on-events.count on-events.passes in
    record {
      sound = sound;
      few = pass.few;
      few-events = omega (arith, all.count, all.allowed);
      rising = accepted-rising board events on-steps.count on-events.count on-events.passes;
      full = full;
      one = sound-one board sound full;
      named = λ k h. accepted-place board sound full events on-steps.count on-events.count on-events.passes k (omega (arith, all.count));
      room = omega (arith, pass.count, room_fits log (on-steps.count * 5) m on-events.rest);
    }

-- the steps that pass are counted, and they are few enough
pub counted : (steps : List ℕ) (n : ℕ) → steps_verdict steps ≡ Done n → (n ≡ length steps) × (length steps ≤ most_steps)
counted steps n e =
    let pass = passed-bytes most_steps largest_step wrong_step steps n e in
    (pass.count, pass.few)

-- a run that is not refused writes a record of each step
pub writes-all : (board : Board) (steps events log : List ℕ) (m : ℕ) → running board steps events log ≡ Done m → running board steps events log ≡ Done (length steps * 5)
writes-all board steps events log m e =
    let on-board = done-by (checked board) _ e in
    let on-steps = done-by (steps_verdict steps) _ on-board.rest in
    let on-events = done-by (events_verdict board events on-steps.count) _ on-steps.rest in
    e
    ∙ sym on-events.rest
    ∙ room-done log (on-steps.count * 5) (room_fits log (on-steps.count * 5) m on-events.rest)
    ∙ ap (λ n. Done (n * 5)) (counted steps on-steps.count on-steps.passes).0

-- checks that pass say so
pub passed : {answer : Verdict} (verdict : Result ℕ Refusal) → is_ok verdict ≡ true → said verdict ≡ answer → (m : ℕ) × (answer ≡ Done m)
passed (Ok m) ok says = (m, sym says)
passed (Err refusal) ok says = absurd (let z : ◌≡◌ {A = ℕ} 0 1 = cc in omega arith)
