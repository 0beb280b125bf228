-- An accepted list on its way over the wire: its steps pass the steps' checks, the rooms for steps and log are large enough, and its log has the length that the decoder asks for. So what each call on the way says is what `planning` says.
use Prim.Native.Nat.{ℕ, zero, suc, ◌*◌, ◌≤◌}
use mathlib.Core.Path.{◌≡◌, refl, ap, sym, ◌∙◌}
use mathlib.Core.Bool.{Bool, true, false}
use mathlib.Core.List.{List, [], ◌∷◌, map}
use native.Mathlib.Omega.{arith}
use lib.ListN.{length, take, drop, replicate, length-append}
use lib.Seq.{take_at}
use borrow.Author.Tests.{le-ltb, eq-eqb}
use Rattle.verdict.specs.Refusal.{Verdict, Done, Refused, wrong_step, and_then}
use Rattle.verdict.specs.Bits.{bits}
use Rattle.verdict.specs.File.{byte_fault}
use Rattle.verdict.specs.Lists.{All}
use Rattle.verdict.specs.Output.{join, written, room_for, Writes}
use Rattle.verdict.proofs.Checks.{done-by, bytes-done}
use Rattle.verdict.proofs.Elements.{all-map-of, all-or}
use Rattle.verdict.proofs.Lists.{all_join}
use Rattle.frame.specs.declared.list.Transaction.{Transaction}
use Rattle.frame.specs.Frame.{preamble, clocks, log_record, log_part_bytes}
use Rattle.frame.specs.List.{most_transactions, is_read, list_verdict, transactions}
use Rattle.frame.specs.Steps.{release, op_steps, turnaround_steps, data_steps, table, steps_of, translation, translating, Translated, most_steps, largest_step}
use Rattle.frame.specs.Answers.{answer_record, answer_bytes, decoding, Decoded}
use Rattle.frame.proofs.Lists.{accepted-list}
use Rattle.frame.proofs.Laws.{length-translation}
use Rattle.board.specs.declared.Board.{Board}
use Rattle.board.specs.Check.{checked}
use Rattle.board.specs.Events.{events_verdict}
use Rattle.board.specs.Outcome.{Told}
use Rattle.wire_machine.specs.Run.{steps_verdict, running, log_of_run, Ran}
use Rattle.verdict.proofs.Outputs.{room-done}
use Rattle.plain_machine.specs.Plain.{planning}
use Rattle.wire_machine.proofs.RunLaws.{log-length}
use Rattle.agreement.specs.Exchange.{send_verdict, sending, log_of_exchange, board_after_exchange, Sent, answers_of_exchange, Exchanged}

-- every step of a translation is one of the four
abbrev OneOfFour : ℕ → Type 0
OneOfFour step = step ≤ 3

same-steps : (n step : ℕ) → OneOfFour step → All OneOfFour (replicate n step)
same-steps zero step h = tt
same-steps (suc n) step h = (h, same-steps n step h)

bit-steps : (n word : ℕ) → All OneOfFour (bits n word)
unfolding bits
bit-steps zero word = tt
bit-steps (suc n) word = (omega arith, bit-steps n word)

op-steps : (reads : Bool) → All OneOfFour (op_steps reads)
op-steps false = (omega arith, (omega arith, tt))
op-steps true = (omega arith, (omega arith, tt))

-- turnaround, data and idle
last-rows : (reads : Bool) (word : ℕ) → All (All OneOfFour) (turnaround_steps reads ∷ data_steps reads word ∷ (release ∷ []) ∷ [])
last-rows false word = ((omega arith, (omega arith, tt)), (bit-steps 16 word, ((omega arith, tt), tt)))
last-rows true word = ((omega arith, (omega arith, tt)), (same-steps 16 3 (omega arith), ((omega arith, tt), tt)))

four-steps : (t : Transaction) → All OneOfFour (steps_of t)
unfolding steps_of
four-steps t =
    let last = last-rows (is_read t) t.«data» in
    all_join OneOfFour (table preamble t) (same-steps 32 1 (omega arith), ((omega arith, (omega arith, tt)), (op-steps (is_read t), (bit-steps 5 t.address, (bit-steps 5 t.register, last)))))

pub step-of-four : (list : List ℕ) (k : ℕ) → byte_fault largest_step wrong_step (translation list) k ≡ 0
step-of-four list k =
    let small = all-or OneOfFour (translation list) k 0 (omega arith) (all_join OneOfFour (map steps_of (transactions list)) (all-map-of (All OneOfFour) steps_of (transactions list) four-steps)) in
    rw (le-ltb 3 _ small)

-- a result of m bytes at the start of an output
pub record Starts (out result : List ℕ) (m : ℕ) : Type 0 where
  pub within : m ≤ length out
  pub size : m ≡ length (take m out)
  pub bytes : take m out ≡ result

starts : (result room out : List ℕ) (m : ℕ) → out ≡ written result room → length result ≡ m → Starts out result m
starts result room out m wrote long =
    let bytes = ap (take m) wrote ∙ take_at result _ m long in
    record {
      within = omega (arith, ap length wrote, length-append result (drop (length result) room));
      size = sym (ap length bytes ∙ long);
      bytes = bytes;
    }

done-size : {n m : ℕ} → Done n ≡ Done m → n ≡ m
done-size e = cc

-- where nothing after the first refuses, a refusal is the first's
refused-by : (first : Verdict) (size : ℕ → ℕ) {c k : ℕ} → and_then first (λ n. Done (size n)) ≡ Refused c k → first ≡ Refused c k
refused-by (Done n) size e = absurd (let z : ◌≡◌ {A = ℕ} 0 1 = cc in omega arith)
refused-by (Refused d j) size e = e

-- A list that the checks let through
module _ (list : List ℕ) (n : ℕ) (accepted : list_verdict list ≡ Done n) where
  pub few : n ≤ most_transactions
  few = (accepted-list list n accepted).allowed

  pub steps-counted : length (translation list) ≡ n * clocks
  steps-counted = length-translation list ∙ ap (λ m. m * clocks) (sym (accepted-list list n accepted).count)

  pub log-counted : (board : Board) (events : List ℕ) → length (log_of_run board (translation list) events) ≡ n * clocks * log_record
  log-counted board events = log-length board (translation list) events ∙ ap (λ m. m * log_record) steps-counted

  -- its steps pass
  pub steps-accepted : steps_verdict (translation list) ≡ Done (n * clocks)
  steps-accepted =
      bytes-done most_steps largest_step wrong_step (translation list) (omega (arith, few, steps-counted)) (λ k h. step-of-four list k)
      ∙ ap Done steps-counted

  -- its log is refused for room alone
  pub decoding-log : (board : Board) (events out : List ℕ) → decoding list (log_of_run board (translation list) events) out ≡ room_for out (n * answer_record)
  decoding-log board events out = rw (accepted, eq-eqb _ (n * log_part_bytes) (log-counted board events ∙ omega arith))

-- the list's checks decide whether it is translated
translating-list : (list out : List ℕ) → length out ≡ most_steps → translating list out ≡ and_then (list_verdict list) (λ n. Done (n * clocks))
translating-list list out room = go (list_verdict list) refl
  where
    go : (v : Verdict) → list_verdict list ≡ v → and_then v (λ n. room_for out (n * clocks)) ≡ and_then v (λ n. Done (n * clocks))
    go (Done n) e = room-done out (n * clocks) (omega (arith, few list n e))
    go (Refused c k) e = refl

-- a translated list: what its steps are
pub record Stepped (list out : List ℕ) (m : ℕ) : Type 0 where
  pub count : ℕ
  pub accepted : list_verdict list ≡ Done count
  pub steps : Starts out (translation list) m

module _ (list : List ℕ) {room out : List ℕ} {answer : Verdict} (long : length room ≡ most_steps) (translated : Translated list room answer out) where
  pub stepped : {m : ℕ} → answer ≡ Done m → Stepped list out m
  stepped {m} e =
      let done = sym translated.verdict ∙ e in
      let by = done-by (list_verdict list) _ (sym (translating-list list room long) ∙ done) in
      record {
        count = by.count;
        accepted = by.passes;
        steps = starts (translation list) room out m (translated.output ∙ rw done) (steps-counted list by.count by.passes ∙ done-size by.rest);
      }

  pub not-stepped : {c k : ℕ} → answer ≡ Refused c k → list_verdict list ≡ Refused c k
  not-stepped e = refused-by (list_verdict list) (λ n. n * clocks) (sym (translating-list list room long) ∙ sym translated.verdict ∙ e)

-- checks behind others, one by one
pub one_by_one : (first : Verdict) (next last : ℕ → Verdict) → and_then (and_then first next) last ≡ and_then first (λ n. and_then (next n) last)
one_by_one (Done n) next last = refl
one_by_one (Refused c k) next last = refl

module _ (board : Board) (list events : List ℕ) where
  -- the plain machine is refused as a list that is sent, but for its room
  pub planning-sends : (out : List ℕ) → planning board list events out ≡ and_then (send_verdict board list events) (λ n. room_for out (n * answer_record))
  planning-sends out = simp one_by_one

  -- what is sent has an accepted list
  pub sent-list : {n : ℕ} → send_verdict board list events ≡ Done n → list_verdict list ≡ Done n
  sent-list e =
      let on-board = done-by (checked board) _ e in
      let on_List = done-by (list_verdict list) _ on-board.rest in
      on_List.passes ∙ (done-by (events_verdict board events (on_List.count * clocks)) _ on_List.rest).rest

  -- a run of the steps of an accepted list is that list sent
  pub sent-by-run : {steps out out' : List ℕ} {n : ℕ} {r : Told} → list_verdict list ≡ Done n → steps ≡ translation list → Ran board steps events out r out' → Sent board list events out r out'
  sent-by-run {steps} {out} {out'} {n} {r} accepted translated ran =
      let same : running board (translation list) events out ≡ sending board list events out = rw (steps-accepted list n accepted, accepted) (simp one_by_one) in
      rw same at (rw translated at ran)

-- a list that was sent with room for every log: what its log and its board are
pub record Logged (before : Board) (list events out : List ℕ) (m : ℕ) (after : Board) : Type 0 where
  pub count : ℕ
  pub passes : send_verdict before list events ≡ Done count
  pub log : Starts out (log_of_exchange before list events) m
  pub board : after ≡ board_after_exchange before list events

module _ (before : Board) (list events : List ℕ) where
  module _ {room out : List ℕ} {r : Told} (long : length room ≡ most_steps * log_record) (sent : Sent before list events room r out) where
    room-for-all : sending before list events room ≡ and_then (send_verdict before list events) (λ n. Done (n * clocks * log_record))
    room-for-all = go (send_verdict before list events) refl
      where
        go : (v : Verdict) → send_verdict before list events ≡ v → and_then v (λ n. room_for room (n * clocks * log_record)) ≡ and_then v (λ n. Done (n * clocks * log_record))
        go (Done n) e = room-done room (n * clocks * log_record) (omega (arith, few list n (sent-list before list events e)))
        go (Refused c k) e = refl

    pub logged : {m : ℕ} → r.verdict ≡ Done m → Logged before list events out m r.board
    logged {m} e =
        let done = sym sent.writes.verdict ∙ e in
        let by = done-by (send_verdict before list events) _ (sym room-for-all ∙ done) in
        let accepted = sent-list before list events by.passes in
        record {
          count = by.count;
          passes = by.passes;
          log = starts (log_of_exchange before list events) room out m (sent.writes.output ∙ rw done) (log-counted list by.count accepted before events ∙ done-size by.rest);
          board = sent.board ∙ rw done;
        }

    pub not-logged : {c k : ℕ} → r.verdict ≡ Refused c k → send_verdict before list events ≡ Refused c k
    not-logged e = refused-by (send_verdict before list events) (λ n. n * clocks * log_record) (sym room-for-all ∙ sym sent.writes.verdict ∙ e)

  -- what the decoder says of that log is the answer, and the bytes it writes are the result
  module _ {n : ℕ} {log out out' : List ℕ} {answer : Verdict} (passes : send_verdict before list events ≡ Done n) (held : log ≡ log_of_exchange before list events) (decoded : Decoded list log out answer out') where
    room-left : decoding list log out ≡ planning before list events out
    room-left = rw (held, planning-sends before list events out, passes) (decoding-log list n (sent-list before list events passes) before events out)

    answer-planned : planning before list events out ≡ answer
    answer-planned = sym (decoded.verdict ∙ room-left)

    written-planned : Writes (planning before list events out) (join (map answer_bytes (answers_of_exchange before list events))) out answer out'
    written-planned = record { verdict = sym answer-planned; output = decoded.output ∙ rw (room-left, held) }

    pub exchanged : {m : ℕ} {after : Board} → answer ≡ Done m → after ≡ board_after_exchange before list events → Exchanged before list events out (record { verdict = answer; board = after }) out'
    exchanged e left = record { writes = written-planned; board = rw (answer-planned, e) left }

    pub not-decoded : {c k : ℕ} → answer ≡ Refused c k → Exchanged before list events out (record { verdict = answer; board = before }) out'
    not-decoded e = record { writes = written-planned; board = rw (answer-planned, e) }
