-- A run of steps a ++ b is a run of a with the events up to its last clock, and then a fresh run of b, from the board that the first left, with the later events: what a clock's number decides is only which events come after it.
use Prim.Native.Nat.{ℕ, ◌+◌, ◌*◌}
use mathlib.Core.Path.{◌≡◌, sym, ap, ap₂, ◌∙◌}
use mathlib.Core.List.{List, ◌++◌, map}
use native.Mathlib.Omega.{arith}
use lib.ListN.{length, take, drop, length-map}
use lib.Seq.{take_at}
use Rattle.verdict.specs.Refusal.{Done}
use Rattle.verdict.specs.Output.{join, output_after}
use Rattle.verdict.proofs.Elements.{all_of, map_same, map-stays}
use Rattle.frame.specs.Frame.{log_record}
use Rattle.wire.specs.Wire.{station_drive, runs, driven}
use Rattle.wire.proofs.Runs.{HappensAlike, runs-alike, driven-alike}
use Rattle.phy.specs.declared.Phy.{Phy}
use Rattle.phy.specs.Clock.{drives, clock}
use Rattle.board.specs.declared.Board.{Board}
use Rattle.board.specs.Outcome.{Told}
use Rattle.between.specs.Outcome.{phys_of, with_phys, handed_back}
use Rattle.between.specs.Events.{happens, at_start}
use Rattle.between.specs.Parts.{events_up_to, events_past}
use Rattle.wire_machine.specs.Log.{clock_record}
use Rattle.board.specs.Record.{addresses_of}
use Rattle.wire_machine.specs.Run.{party_with, station_drives, running, phys_after_run, board_after_run, log_of_run, Ran}
use Rattle.between.proofs.Places.{phys-of-with, with-with}
use Rattle.phy.proofs.Keeping.{clock-own}
use Rattle.between.proofs.EventPlaces.{owns-addresses}
use Rattle.wire_machine.proofs.Lockstep.{happens-own}
use Rattle.between.proofs.EachPlace.{Each, Leaves, leaves-closed, each-leaves, each-length}
use Rattle.wire_machine.proofs.RunEach.{run-changes}
use Rattle.wire_machine.proofs.RunLaws.{log-length, run-append, log-append}
use Rattle.between.proofs.EventParts.{TakesApart, taken-apart}

-- a run keeps who frames are for, and how many PHYs there are
pub run-keeps-owns : (board : Board) (steps events : List ℕ) → Each (Leaves (λ (phy : Phy). phy.own)) (phys_of board) (phys_after_run board steps events)
run-keeps-owns board steps events =
    run-changes (leaves-closed (λ (phy : Phy). phy.own)) events (happens-own events) clock-own board steps

-- Steps a, then steps b; the events taken apart at the last clock of a
module _ (board : Board) (a b events : List ℕ) {early late : List ℕ} (apart : TakesApart (length a) events early late) where
  abbrev between : Board
  between = board_after_run board a early

  clocks-of : (steps : List ℕ) → length (station_drives steps) ≡ length steps
  clocks-of steps = length-map steps station_drive

  first_alike : HappensAlike (happens events) (happens early) 0 0 (length (station_drives a))
  first_alike =
      record {
        same = λ i j past within shift p.
            let clock-is : i ≡ j = omega arith in
            apart.before i (omega (arith, clocks-of a)) p ∙ ap (λ c. happens early c p) clock-is;
      }

  then-alike : HappensAlike (happens events) (happens late) (length a) 0 (length (station_drives b))
  then-alike =
      record {
        same = λ i j past within shift p.
            let clock-is : i ≡ length a + j = omega arith in
            ap (λ c. happens events c p) clock-is ∙ apart.after j (omega arith) p;
      }

  -- the first part
  same_start : at_start board events ≡ at_start board early
  same_start = map_same (happens events 0) (happens early 0) (phys_of board) (all_of _ (phys_of board) (apart.before 0 (omega arith)))

  first-phys : phys_after_run board a events ≡ phys_after_run board a early
  first-phys =
      ap (runs (party_with events) (station_drives a) 0) same_start
      ∙ runs-alike (happens events) (happens early) drives clock (station_drives a) 0 0 (at_start board early) first_alike

  first-log : log_of_run board a events ≡ log_of_run board a early
  first-log =
      ap (λ clocks. join (map (clock_record (addresses_of (phys_of board))) clocks))
      (ap (driven (party_with events) (station_drives a) 0) same_start
      ∙ driven-alike (happens events) (happens early) drives clock (station_drives a) 0 0 (at_start board early) first_alike)

  -- between the two the PHYs stand where the first part left them, with their addresses
  phys-between : phys_of between ≡ phys_after_run board a early
  phys-between = phys-of-with board (phys_after_run board a early) (each-length (run-keeps-owns board a early))

  same-addresses : addresses_of (phys_of between) ≡ addresses_of (phys_of board)
  same-addresses = ap addresses_of phys-between ∙ owns-addresses (phys_after_run board a early) (phys_of board) (each-leaves (λ (phy : Phy). phy.own) (run-keeps-owns board a early))

  start_between : phys_after_run board a events ≡ at_start between late
  start_between = first-phys ∙ sym (map-stays (happens late 0) apart.start (phys_of between) ∙ phys-between)

  pub run-apart : phys_after_run board (a ++ b) events ≡ phys_after_run between b late
  run-apart =
      run-append board events a b
      ∙ ap (runs (party_with events) (station_drives b) (length a)) start_between
      ∙ runs-alike (happens events) (happens late) drives clock (station_drives b) (length a) 0 (at_start between late) then-alike

  pub log-apart : log_of_run board (a ++ b) events ≡ log_of_run board a early ++ log_of_run between b late
  log-apart =
      let rest : driven (party_with events) (station_drives b) (length a) (phys_after_run board a events) ≡ driven (party_with late) (station_drives b) 0 (at_start between late) =
      ap (driven (party_with events) (station_drives b) (length a)) start_between
      ∙ driven-alike (happens events) (happens late) drives clock (station_drives b) (length a) 0 (at_start between late) then-alike in
      log-append board events a b
      ∙ ap₂ (λ (xs ys : List ℕ). xs ++ ys) first-log (ap₂ (λ who clocks. join (map (clock_record who) clocks)) (sym same-addresses) rest)

-- what a run that succeeds leaves, and the log that it wrote
module _ (board : Board) (steps events : List ℕ) {out : List ℕ} {r : Told} {out' : List ℕ} {n : ℕ} (ran : Ran board steps events out r out') (done : r.verdict ≡ Done n) where
  answer : running board steps events out ≡ Done n
  answer = sym ran.writes.verdict ∙ done

  pub board-left : r.board ≡ board_after_run board steps events
  board-left = ran.board ∙ ap (λ v. handed_back v (board_after_run board steps events) board) answer

  log-left : take (length steps * log_record) out' ≡ log_of_run board steps events
  log-left =
      let log = log_of_run board steps events in
      ap (take (length steps * log_record)) (ran.writes.output ∙ ap (λ v. output_after v log out) answer)
      ∙ take_at log (drop (length log) out) (length steps * log_record) (log-length board steps events)

-- a run in two parts, the events split by their clocks
module _ (board : Board) (a b events : List ℕ) where
  abbrev early : List ℕ
  early = events_up_to (length a) events

  abbrev late : List ℕ
  late = events_past (length a) events

  pub run-in-parts : phys_after_run board (a ++ b) events ≡ phys_after_run (board_after_run board a early) b late
  run-in-parts = run-apart board a b events (taken-apart (length a) events)

  pub log-in-parts : log_of_run board (a ++ b) events ≡ log_of_run board a early ++ log_of_run (board_after_run board a early) b late
  log-in-parts = log-apart board a b events (taken-apart (length a) events)

  -- By what `run` promises: where the three calls succeed, the two parts leave the board that the whole leaves, and their logs are its log
  module _ {out out₁ out₂ : List ℕ} {whole first second : Told} {log log₁ log₂ : List ℕ} {n n₁ n₂ : ℕ}
      (runs-whole : Ran board (a ++ b) events out whole log) (done : whole.verdict ≡ Done n)
      (runs-first : Ran board a early out₁ first log₁) (done₁ : first.verdict ≡ Done n₁)
      (runs-second : Ran first.board b late out₂ second log₂) (done₂ : second.verdict ≡ Done n₂) where
    pub same-board : whole.board ≡ second.board
    same-board =
        let left = phys_after_run board a early in
        board-left board (a ++ b) events runs-whole done
        ∙ ap (with_phys board) run-in-parts
        ∙ sym (with-with board left (each-length (run-keeps-owns board a early)) (phys_after_run (with_phys board left) b late))
        ∙ ap (λ between. with_phys between (phys_after_run between b late)) (sym (board-left board a early runs-first done₁))
        ∙ sym (board-left first.board b late runs-second done₂)

    pub same_log : take (length (a ++ b) * log_record) log ≡ take (length a * log_record) log₁ ++ take (length b * log_record) log₂
    same_log =
        log-left board (a ++ b) events runs-whole done
        ∙ log-in-parts
        ∙ ap₂ (λ (xs ys : List ℕ). xs ++ ys) (sym (log-left board a early runs-first done₁))
        (ap (λ between. log_of_run between b late) (sym (board-left board a early runs-first done₁)) ∙ sym (log-left first.board b late runs-second done₂))
