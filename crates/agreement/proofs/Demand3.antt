-- Demand 3, told of the definitions that the promises cite: the agreement over any party, at PHYs, over the bytes of list and log.
use Prim.Native.Nat.{ℕ, ◌*◌, ◌-◌, ◌%◌, ◌≤◌, ◌<◌}
use mathlib.Core.Path.{◌≡◌, refl, ap, sym, ◌∙◌}
use mathlib.Core.List.{List, [], ◌∷◌, map}
use native.Mathlib.Omega.{arith}
use native.Mathlib.Nat.{div-one}
use native.Mathlib.Decide.{dec_lt}
use lib.ListN.{length, get_or, get_or-map, get_or-eq_default}
use Rattle.verdict.specs.File.{byte_at, records}
use Rattle.verdict.proofs.Elements.{all-or, map-then}
use Rattle.verdict.proofs.Lists.{length-tabulate}
use Rattle.frame.specs.declared.list.Transaction.{Transaction}
use Rattle.frame.specs.Frame.{preamble}
use Rattle.frame.specs.List.{list_record, transaction_at, transactions}
use Rattle.frame.specs.Steps.{translation}
use Rattle.frame.specs.Log.{level_at}
use Rattle.frame.specs.Answers.{answers_in}
use Rattle.frame.proofs.Lists.{accepted-list}
use Rattle.frame.proofs.Laws.{length-translation}
use Rattle.wire.specs.declared.Drive.{Drive}
use Rattle.wire.specs.declared.Follower.{Follower}
use Rattle.wire.specs.declared.Follower.TheVariants.{Hunting}
use Rattle.wire.specs.Wire.{Party, as_bit, level_of, drivers, runs, driven}
use Rattle.wire.specs.Machines.{clocks_of}
use Rattle.phy.specs.declared.Phy.{Phy}
use Rattle.board.specs.declared.Board.{Board}
use Rattle.between.specs.Outcome.{phys_of}
use Rattle.between.specs.Events.{happens, at_start}
use Rattle.wire_machine.specs.Run.{party_with, station_drives, log_of_run, phys_after_run}
use Rattle.plain_machine.specs.Plain.{core_with, answers_of_plain, phys_after_plain}
use Rattle.between.proofs.HappensEffect.{happens-effect}
use Rattle.plain_machine.proofs.Kept.{plain-followers}
use Rattle.wire_machine.proofs.Lockstep.{drives_in, driven-at}
use Rattle.wire_machine.proofs.RunLaws.{log-length, log-level, log-uncontended}
use Rattle.agreement.specs.Levels.{at}
use Rattle.agreement.specs.Agrees.{AgreesAll, station_for_all, rest, settled}
use Rattle.agreement.specs.Phys.{phy_line}
use Rattle.agreement.specs.Demand3.{Asked, Demand3, followers_of, ends_hunting}
use Rattle.agreement.proofs.Accepted.{accepted-all}
use Rattle.agreement.proofs.Decoded.{station-translated, clocks-translated, decoded-heard}
use Rattle.agreement.proofs.Heard.{heard-all-same}
use Rattle.agreement.proofs.Phys.{phy-follows}
use Rattle.agreement.proofs.Boards.{waiting, one-answers}
use Rattle.agreement.proofs.Agreement.{whole-agreement}

module _ (board : Board) (list events : List ℕ) (asked : Asked board list) where
  party : Party Phy
  party = party_with events

  unfoldable pub drives : List (List Drive)
  drives = driven (party_with events) (station_drives (translation list)) 0 (at_start board events)

  pub agrees : AgreesAll (party_with events) (core_with events) phy_line preamble preamble (transactions list) 0 (at_start board events)
  agrees =
      whole-agreement (phy-follows (happens events) (happens-effect events)) (transactions list) (phys_of board)
      (accepted-all list asked.count asked.accepted asked.bytes)
      (waiting board asked.phys asked.sound asked.typed asked.hunt)
      (one-answers board asked.phys asked.sound (happens events))

  pub station : station_for_all preamble preamble (transactions list) ≡ station_drives (translation list)
  station = station-translated (transactions list)

  unfoldable pub log : List ℕ
  log = log_of_run board (translation list) events

  -- who drives in a clock of the run
  drives-in : (i : ℕ) → i < length (translation list) → get_or drives i [] ≡ drives_in events (translation list) (at_start board events) i
  unfolding drives
  drives-in = driven-at events (translation list) (at_start board events)

  -- the levels of the log are those of the run
  pub level-run : (clock : ℕ) → 1 ≤ clock → clock ≤ clocks_of preamble preamble (transactions list) → level_at log clock ≡ at (map level_of drives) clock
  unfolding level_at log
  level-run clock low high =
      let inside : clock - 1 < length (translation list) = omega (arith, length-translation list, clocks-translated (transactions list), length-tabulate (records list_record list) (transaction_at list)) in
      ap (λ n. n % 2) (sym (div-one (byte_at log ((clock - 1) * 5))))
      ∙ log-level board (translation list) events (clock - 1) inside
      ∙ ap (λ ds. as_bit (level_of ds)) (sym (drives-in (clock - 1) inside))
      ∙ ap as_bit (sym (get_or-map level_of drives (clock - 1) []))

  -- and no clock of it has flag 4
  alone-run : (i : ℕ) → drivers (get_or drives i []) ≤ 1
  unfolding drives
  alone-run i = all-or (λ ds. drivers ds ≤ 1) drives i [] (omega arith) (rw station at agrees.alone)

  flags-run : (i : ℕ) → byte_at log (i * 5) < 4
  unfolding log
  flags-run i = go (dec_lt i (length (translation list)))
    where
      go : Dec (i < length (translation list)) → byte_at log (i * 5) < 4
      go (yes inside) = log-uncontended board (translation list) events i inside (rw (drives-in i inside) at (alone-run i))
      go (no past) =
          let none = get_or-eq_default log 0 {n = i * 5} (omega (arith, log-length board (translation list) events)) in
          omega arith

  -- what the run leaves beside the followers is what the plain machine leaves
  same-field : {A : Type 0} (field : Phy → A) → ((phy : Phy) → field (rest phy_line phy) ≡ field phy) → (ts : List Transaction) (phys : List Phy) → map field (settled phy_line ts phys) ≡ map field phys
  same-field field kept [] phys = refl
  same-field field kept (t ∷ ts) phys = map-then field (rest phy_line) field kept phys

  left : phys_after_run board (translation list) events ≡ settled phy_line (transactions list) (phys_after_plain board list events)
  left = ap (λ ds. runs (party_with events) ds 0 (at_start board events)) (sym station) ∙ agrees.parties

  -- every PHY ends hunting
  ends-hunting : (ts : List Transaction) (phys : List Phy) → followers_of phys ≡ followers_of (phys_of board) → followers_of (settled phy_line ts phys) ≡ ends_hunting ts board
  ends-hunting [] phys same = same
  ends-hunting (t ∷ ts) phys same =
      map-then (λ (phy : Phy). phy.follower) (rest phy_line) (λ phy. Hunting 1) (λ phy. refl) phys
      ∙ sym (map-then (λ (f : Follower). Hunting 1) (λ (phy : Phy). phy.follower) (λ phy. Hunting 1) (λ phy. refl) phys)
      ∙ ap (map (λ (f : Follower). Hunting 1)) same
      ∙ map-then (λ (f : Follower). Hunting 1) (λ (phy : Phy). phy.follower) (λ phy. Hunting 1) (λ phy. refl) (phys_of board)

  -- the decoder hears what the plain machine answers
  pub heard-plain : answers_in list (log_of_run board (translation list) events) ≡ answers_of_plain board list events
  unfolding log drives
  heard-plain =
      let whole = accepted-list list asked.count asked.accepted in
      let long = log-length board (translation list) events in
      decoded-heard list log (omega (arith, whole.allowed, whole.count)) (omega (arith, long, length-translation list))
      ∙ heard-all-same preamble preamble (transactions list) (level_at log) (at (map level_of drives)) level-run
      ∙ (rw station at agrees.answers)

  pub demand-3 : Demand3 board list events
  unfolding log drives
  demand-3 =
      record {
        answers = heard-plain;
        registers = ap (map (λ (phy : Phy). phy.registers)) left ∙ same-field (λ phy. phy.registers) (λ phy. refl) (transactions list) (phys_after_plain board list events);
        links = ap (map (λ (phy : Phy). phy.link)) left ∙ same-field (λ phy. phy.link) (λ phy. refl) (transactions list) (phys_after_plain board list events);
        hunting = ap followers_of left ∙ ends-hunting (transactions list) (phys_after_plain board list events) (plain-followers board list events);
        alone = rw station at agrees.alone;
        no-contention = flags-run;
      }
