-- A run's levels are those of its transactions with the answers that the decoder hears in them (demand 3), and each transaction is read back as its answer.
use Prim.Native.Nat.{ℕ, ◌+◌, ◌-◌, ◌≤◌, ◌<◌}
use mathlib.Core.Path.{◌≡◌, ap, sym, ◌∙◌}
use mathlib.Core.Bool.{Bool, true}
use mathlib.Core.List.{List, map}
use native.Mathlib.Omega.{arith}
use lib.ListN.{length, get_or, length-map}
use lib.Dec.{eqb}
use borrow.Author.Tests.{le-ltb}
use Rattle.verdict.specs.Refusal.{Verdict, Done, wrong_level}
use Rattle.verdict.specs.File.{byte_at, records}
use Rattle.verdict.proofs.Checks.{bytes-done}
use Rattle.verdict.proofs.Elements.{all-or}
use Rattle.verdict.proofs.Lists.{length-tabulate, tabulate-of, map-tabulate, all-tabulate}
use Rattle.verdict.proofs.Outputs.{writes-unique}
use Rattle.frame.specs.Frame.{preamble, log_record}
use Rattle.frame.specs.List.{list_record, transactions, transaction_at, list_verdict}
use Rattle.frame.specs.Steps.{translation}
use Rattle.frame.specs.Log.{level_at}
use Rattle.frame.specs.Answers.{answers_in, decoding, Decoded}
use Rattle.frame.proofs.Lists.{accepted-list}
use Rattle.frame.proofs.Laws.{length-translation}
use Rattle.wire.specs.Wire.{as_bit, level_of}
use Rattle.wire.specs.Machines.{clocks_of}
use Rattle.board.specs.declared.Board.{Board}
use Rattle.board.specs.Load.{loaded}
use Rattle.board.proofs.LoadSound.{load-sound}
use Rattle.board.proofs.LoadTyped.{load_typed}
use Rattle.wire_machine.specs.Run.{log_of_run}
use Rattle.between.specs.Events.{at_start}
use Rattle.wire.proofs.Levels.{bit-small, bit-level}
use Rattle.plain_machine.specs.Plain.{answers_of_plain}
use Rattle.wire_machine.proofs.Lockstep.{driven-all}
use Rattle.wire_machine.proofs.RunLaws.{log-length}
use Rattle.agreement.specs.Levels.{at, heard_all, levels_of_all}
use Rattle.agreement.specs.Demand3.{Asked}
use Rattle.agreement.proofs.Accepted.{accepted-all}
use Rattle.agreement.proofs.Decoded.{clocks-translated}
use Rattle.agreement.proofs.Demand3.{drives, agrees, station, log, level-run, heard-plain}
use Rattle.agreement.proofs.ExchangeCalls.{few, steps-counted, decoding-log}
use Rattle.agreement.proofs.ExchangeLaws.{loaded-hunts}
use Rattle.listener.specs.Frames.{at_first, frames_from}
use Rattle.listener.specs.Records.{records_of_all}
use Rattle.listener.specs.Listening.{most_levels, capture_verdict, largest_level, levels_in, records_in, listening, Listened}
use Rattle.listener.specs.ReadBack.{capture_of_run, ReadsBack}
use Rattle.listener.proofs.Transactions.{list_back}

module _ (board : Board) (list events : List ℕ) (asked : Asked board list) where
  abbrev run_log : List ℕ
  run_log = log_of_run board (translation list) events

  abbrev capture : List ℕ
  capture = capture_of_run board list events

  -- the clocks of the log, and the levels of the run
  abbrev clocks : ℕ
  clocks = records log_record run_log

  abbrev levels : List Bool
  levels = map level_of (drives board list events asked)

  every-clock : clocks ≡ length (translation list)
  every-clock = omega (arith, log-length board (translation list) events)

  levels-long : length levels ≡ clocks
  unfolding drives
  levels-long =
      length-map (drives board list events asked) level_of
      ∙ ap length (driven-all events (translation list) (at_start board events))
      ∙ length-tabulate (length (translation list)) _
      ∙ sym every-clock

  -- the capture's bytes say the levels of the run
  level-back : (i : ℕ) → i < clocks → get_or levels i true ≡ eqb (level_at run_log (1 + i)) 1
  unfolding log
  level-back i within =
      let many = length-tabulate (records list_record list) (transaction_at list) in
      let high : 1 + i ≤ clocks_of preamble preamble (transactions list) = omega (arith, every-clock, length-translation list, clocks-translated (transactions list), many) in
      let place : i ≡ 1 + i - 1 = omega arith in
      sym (bit-level (get_or levels i true))
      ∙ ap (λ k. eqb (as_bit (get_or levels k true)) 1) place
      ∙ ap (λ byte. eqb byte 1) (sym (level-run board list events asked (1 + i) (omega arith) high))

  levels-back : levels_in capture ≡ levels
  levels-back = map-tabulate (λ byte. eqb byte 1) clocks _ ∙ sym (tabulate-of clocks _ levels true levels-long level-back)

  -- demand 3, told of the run's levels
  levels-heard : heard_all preamble preamble (transactions list) (at levels) ≡ answers_of_plain board list events
  unfolding drives
  levels-heard = rw (station board list events asked) at (agrees board list events asked).answers

  levels-said : levels ≡ levels_of_all preamble preamble (transactions list) (answers_of_plain board list events)
  unfolding drives
  levels-said = rw (station board list events asked) at (agrees board list events asked).levels

  answers-back : records_in capture ≡ answers_in list run_log
  unfolding records_in
  answers-back =
      let ts = transactions list in
      ap (λ ls. records_of_all (frames_from at_first ls)) (levels-back ∙ levels-said ∙ ap (levels_of_all preamble preamble ts) (sym levels-heard))
      ∙ list_back ts (at levels) 0 (λ clock. bit-small (get_or levels (clock - 1) true)) (accepted-all list asked.count asked.accepted asked.bytes) (omega arith)
      ∙ levels-heard
      ∙ sym (heard-plain board list events asked)

  -- each of its bytes is a level, and there are as many as steps
  capture-long : length capture ≡ length (translation list)
  capture-long = length-tabulate clocks _ ∙ every-clock

  byte_small : (i : ℕ) → byte_at capture i ≤ largest_level
  unfolding level_at
  byte_small i =
      all-or (λ byte. byte ≤ largest_level) capture i 0 (omega arith)
      (all-tabulate (λ byte. byte ≤ largest_level) clocks _ (λ k within. omega arith))

  capture-accepted : capture_verdict capture ≡ Done (length (translation list))
  capture-accepted =
      let steps = steps-counted list asked.count asked.accepted in
      bytes-done most_levels largest_level wrong_level capture
      (omega (arith, capture-long, steps, few list asked.count asked.accepted))
      (λ i within. rw (le-ltb largest_level _ (byte_small i)))
      ∙ ap Done capture-long

  pub read_back : ReadsBack board list events
  read_back = record { accepted = capture-accepted; answers = answers-back }

  -- both calls are refused for room alone, and ask for the same room
  same-verdict : (out : List ℕ) → listening capture out ≡ decoding list run_log out
  same-verdict out =
      let listed = accepted-list list asked.count asked.accepted in
      let many : length (records_in capture) ≡ asked.count = ap length answers-back ∙ length-tabulate (records list_record list) _ ∙ sym listed.count in
      rw (capture-accepted, many) (sym (decoding-log list asked.count asked.accepted board events out))

-- to listen to a run is to decode its log: the same answer and the same bytes
pub listen-as-decode : (board : Board) (list events out : List ℕ) → Asked board list → {r s : Verdict} {out₁ out₂ : List ℕ} →
    Listened (capture_of_run board list events) out r out₁ → Decoded list (log_of_run board (translation list) events) out s out₂ → (r ≡ s) × (out₁ ≡ out₂)
listen-as-decode board list events out asked {r} {s} {out₁} listened decoded =
    let verdicts = same-verdict board list events asked out in
    let same : Decoded list (log_of_run board (translation list) events) out r out₁ = rw (verdicts, answers-back board list events asked) at listened in
    writes-unique same decoded

-- a load gives hunting: so what runs on a board that was just loaded reads back
pub loaded-read-back : (file list events : List ℕ) {n : ℕ} → ((i : ℕ) → byte_at file i < 256) → ((i : ℕ) → byte_at list i < 256) → list_verdict list ≡ Done n → ReadsBack (loaded file).board list events
loaded-read-back file list events {n} file-bytes bytes accepted =
    read_back (loaded file).board list events
    (record {
      typed = load_typed file file-bytes;
      bytes = bytes;
      phys = (loaded file).board.count;
      sound = load-sound file;
      hunt = loaded-hunts file;
      count = n;
      accepted = accepted;
    })
