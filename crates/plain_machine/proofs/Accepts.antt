-- What is known of a list that the plain machine does not refuse.
use Prim.Native.Nat.{ℕ, ◌*◌, ◌≤◌, ◌<◌}
use mathlib.Core.Path.{◌≡◌, sym, ap, ◌∙◌}
use mathlib.Core.Bool.{Bool, true, false}
use mathlib.Core.List.{List}
use native.Mathlib.Omega.{arith}
use lib.Dec.{ltb}
use lib.ListN.{length}
use lib.Seq.{length-take-le}
use Rattle.std.specs.Prelude.{Result, Ok, Err}
use Rattle.std.specs.Result.{is_ok}
use Rattle.verdict.specs.declared.Refusal.{Refusal}
use Rattle.verdict.specs.Refusal.{Done, Good, Bad, said, wrong_op, no_room, ◌when◌, refuse}
use Rattle.verdict.specs.File.{records}
use Rattle.verdict.specs.Output.{room_for}
use Rattle.verdict.proofs.Checks.{accepted, done-by}
use Rattle.verdict.proofs.Outputs.{room_fits}
use Rattle.frame.specs.Frame.{clocks}
use Rattle.frame.specs.List.{list_record, transaction_at, parsed, list_verdict}
use Rattle.frame.specs.Answers.{answer_record}
use Rattle.frame.proofs.Lists.{accepted-list, accepted-parses, parsed-past}
use Rattle.board.specs.declared.Board.{Board}
use Rattle.board.specs.Check.{places, checked}
use Rattle.board.specs.Events.{event_record, most_events, event_address, event_fault, events_verdict}
use Rattle.board.proofs.Soundness.{Sound, check_sound}
use Rattle.between.specs.Outcome.{phys_of, owns_of}
use Rattle.between.specs.Happened.{place_of}
use Rattle.between.proofs.Happenings.{Rising, accepted-rising}
use Rattle.between.proofs.EventPlaces.{OneTakes, sound-one, accepted-place}
use Rattle.plain_machine.specs.Plain.{planning}

-- a sound board, a list of good transactions, events by rising clock, each at a PHY of the board, and room for the answers
pub record Goes (board : Board) (list events out : List ℕ) : Type 0 where
  pub sound : Sound board
  pub full : length (phys_of board) ≡ board.count
  pub one : OneTakes (owns_of (phys_of board))
  pub few : records list_record list ≤ 64
  pub good : (k : ℕ) → k < records list_record list → parsed list k ≡ Good (transaction_at list k)
  pub past : parsed list (records list_record list) ≡ Bad wrong_op
  pub few-events : records event_record events ≤ most_events
  pub rising : Rising events
  pub named : (k : ℕ) → k < records event_record events → place_of (owns_of (phys_of board)) (event_address events k) < board.count
  pub room : records list_record list * answer_record ≤ length out

pub goes : (board : Board) (list events out : List ℕ) (m : ℕ) → length board.phys ≡ places → planning board list events out ≡ Done m → Goes board list events out
goes board list events out m long e =
    let on-board = done-by (checked board) _ e in
    let on_List = done-by (list_verdict list) _ on-board.rest in
    let last = on_List.count * clocks in
    let on-events = done-by (events_verdict board events last) _ on_List.rest in
    let sound = (check_sound board on-board.count on-board.passes).1 in
    let full = length-take-le board.count board.phys (omega (arith, sound.at_most)) in
    let listed = accepted-list list on_List.count on_List.passes in
    let all = accepted event_record most_events (event_fault board events last) events on-events.count on-events.passes in
    record {
      sound = sound;
      full = full;
      one = sound-one board sound full;
      few = omega (arith, listed.allowed, listed.count);
      good = λ k h. accepted-parses list on_List.count on_List.passes k (omega (arith, listed.count));
      past = parsed-past list (records list_record list) (omega (arith, listed.whole));
      few-events = omega (arith, all.count, all.allowed);
      rising = accepted-rising board events last on-events.count on-events.passes;
      named = λ k h. accepted-place board sound full events last on-events.count on-events.passes k (omega (arith, all.count));
      room = omega (arith, listed.count, room_fits out (on_List.count * 6) m on-events.rest);
    }

-- where there is room for a result, done says how many bytes it takes
room-says : (out : List ℕ) (n m : ℕ) → room_for out n ≡ Done m → m ≡ n
room-says out n m = go (ltb (length out) n)
  where
    go : (b : Bool) → refuse (no_room when b) 0 (Done n) ≡ Done m → m ≡ n
    go true e = cc
    go false e = cc

-- and such a list is done with the bytes of its answers
pub planned-size : (board : Board) (list events out : List ℕ) (m : ℕ) → planning board list events out ≡ Done m → m ≡ records list_record list * answer_record
planned-size board list events out m e =
    let on-board = done-by (checked board) _ e in
    let on_List = done-by (list_verdict list) _ on-board.rest in
    let on-events = done-by (events_verdict board events (on_List.count * clocks)) _ on_List.rest in
    let listed = accepted-list list on_List.count on_List.passes in
    room-says out (on_List.count * answer_record) m on-events.rest ∙ ap (λ n. n * answer_record) listed.count

-- checks that pass say that a list is done
pub planned-passed : (board : Board) (list events out : List ℕ) (verdict : Result ℕ Refusal) → is_ok verdict ≡ true → said verdict ≡ planning board list events out → planning board list events out ≡ Done (records list_record list * answer_record)
planned-passed board list events out (Ok m) ok says = sym says ∙ ap Done (planned-size board list events out m (sym says))
planned-passed board list events out (Err refusal) ok says = absurd (let z : ◌≡◌ {A = ℕ} 0 1 = cc in omega arith)
