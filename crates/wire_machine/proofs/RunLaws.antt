-- What a run's log and board say, in the document's words.
use Prim.Native.Nat.{ℕ, ◌+◌, ◌*◌, ◌/◌, ◌%◌, ◌^◌, ◌≤◌, ◌<◌}
use mathlib.Core.Path.{◌≡◌, refl, sym, ap, ◌∙◌}
use mathlib.Core.Bool.{Bool, true, false, ◌&&◌, ◌||◌, or-false}
use mathlib.Core.List.{List, [], ◌∷◌, ◌++◌, map, map-append}
use native.Mathlib.Omega.{arith}
use native.Mathlib.Decide.{ℕ_discrete}
use native.Mathlib.Nat.{zero-div}
use lib.ListN.{length, get_or, length-map}
use lib.Dec.{eqb, leb}
use borrow.Author.Tests.{eq-eqb, ne_eqb, le-leb, lt-leb, leb-true}
use Rattle.verdict.specs.declared.Refusal.{Refusal}
use Rattle.verdict.specs.Bits.{bit}
use Rattle.verdict.specs.Lists.{All}
use Rattle.verdict.specs.Output.{tabulate, join}
use Rattle.verdict.proofs.Lists.{length-pieces, get_or-pieces, join-append}
use Rattle.wire.specs.declared.Drive.{Drive}
use Rattle.wire.specs.declared.Drive.TheVariants.{Released, Driven}
use Rattle.wire.specs.Wire.{as_bit, station_drive, level_of, drivers, runs, driven}
use Rattle.wire.proofs.Levels.{three-flags}
use Rattle.wire.proofs.Runs.{runs_append, driven-append}
use Rattle.phy.specs.Abilities.{one}
use Rattle.phy.specs.Words.{set_bit}
use Rattle.phy.specs.Typed.{Typed}
use Rattle.phy.proofs.Words.{set_same, set_other}
use Rattle.phy.proofs.Keeping.{keeps_typed, clock-typed}
use Rattle.board.specs.declared.Board.{Board}
use Rattle.board.specs.declared.Outcome.{Outcome}
use Rattle.board.specs.Outcome.{told}
use Rattle.between.specs.Outcome.{phys_of}
use Rattle.wire_machine.specs.Log.{is_driving, flags_of, mask_from, clock_record}
use Rattle.board.specs.Record.{addresses_of}
use Rattle.wire_machine.specs.Run.{party_with, station_drives, phys_after_run, log_of_run, Ran}
use Rattle.between.specs.Events.{at_start}
use Rattle.wire_machine.proofs.Lockstep.{phys_after, station_in, drives_in, log-by-clock}
use Rattle.between.proofs.Laws.{outcome-unique}
use Rattle.between.proofs.HappensEffect.{happens-effect}
use Rattle.between.proofs.EachPlace.{keeps-closed, each_keeps}
use Rattle.wire_machine.proofs.RunEach.{run-changes}

-- two results that meet the promise of `run` are equal, as are the logs
pub run-unique : (board : Board) (steps events log : List ℕ) {r s : Outcome Refusal} {log₁ log₂ : List ℕ} → Ran board steps events log (told r) log₁ → Ran board steps events log (told s) log₂ → (r ≡ s) × (log₁ ≡ log₂)
run-unique board steps events log p q = outcome-unique p q

-- The flags: "1 level, 2 station drives, 4 two or more parties drive"
module _ (station : Drive) (drives : List Drive) where
  pub level-flag : bit 0 (flags_of station drives) ≡ as_bit (level_of (station ∷ drives))
  level-flag = (three-flags (level_of (station ∷ drives)) (is_driving station) (leb 2 (drivers (station ∷ drives)))).0

  pub station-flag : bit 1 (flags_of station drives) ≡ as_bit (is_driving station)
  station-flag = (three-flags (level_of (station ∷ drives)) (is_driving station) (leb 2 (drivers (station ∷ drives)))).1

  contention-flag : bit 2 (flags_of station drives) ≡ as_bit (leb 2 (drivers (station ∷ drives)))
  contention-flag = (three-flags (level_of (station ∷ drives)) (is_driving station) (leb 2 (drivers (station ∷ drives)))).2

  -- flag 4 exactly if two or more parties drive
  pub contended : 2 ≤ drivers (station ∷ drives) → bit 2 (flags_of station drives) ≡ 1
  contended many = contention-flag ∙ rw (le-leb 2 (drivers (station ∷ drives)) many)

  pub only-contended : bit 2 (flags_of station drives) ≡ 1 → 2 ≤ drivers (station ∷ drives)
  only-contended flag = leb-true 2 (drivers (station ∷ drives)) (go (leb 2 (drivers (station ∷ drives))) (sym contention-flag ∙ flag))
    where
      go : (b : Bool) → as_bit b ≡ 1 → b ≡ true
      go true e = refl
      go false e = absurd (omega arith)

  -- so the flags are below 4 where at most one drives
  uncontended : drivers (station ∷ drives) ≤ 1 → flags_of station drives < 4
  uncontended few = rw (lt-leb 2 (drivers (station ∷ drives)) (omega arith)) (go (level_of (station ∷ drives)) (is_driving station))
    where
      go : (a b : Bool) → as_bit a * 1 + as_bit b * 2 + 0 < 4
      go true true = omega arith
      go true false = omega arith
      go false true = omega arith
      go false false = omega arith

-- The mask: "bit a set when the PHY at address a drives"
pub drives_at : ℕ → List ℕ → List Drive → Bool
drives_at a [] drives = false
drives_at a (address ∷ addresses) [] = false
drives_at a (address ∷ addresses) (drive ∷ drives) = (eqb address a && is_driving drive) || drives_at a addresses drives

set-bit : (a address mask : ℕ) → one a (set_bit address mask) ≡ one a mask || eqb address a
set-bit a address mask = go (ℕ_discrete address a)
  where
    or-true : (b : Bool) → true ≡ b || true
    or-true true = refl
    or-true false = refl

    go : Dec (address ≡ a) → one a (set_bit address mask) ≡ one a mask || eqb address a
    go (yes e) = rw (← e, set_same address mask, eq-eqb address address refl) (or-true (one address mask))
    go (no n) = rw (set_other address a mask (λ e. n (sym e)), ne_eqb address a n) (sym (or-false (one a mask)))

or_assoc : (a b c : Bool) → (a || b) || c ≡ a || (b || c)
or_assoc true b c = refl
or_assoc false b c = refl

pub mask-from-bit : (a mask : ℕ) (addresses : List ℕ) (drives : List Drive) → one a (mask_from mask addresses drives) ≡ one a mask || drives_at a addresses drives
unfolding mask_from drives_at
mask-from-bit a mask [] drives = sym (or-false (one a mask))
mask-from-bit a mask (address ∷ addresses) [] = sym (or-false (one a mask))
mask-from-bit a mask (address ∷ addresses) (Released ∷ drives) =
    mask-from-bit a mask addresses drives ∙ ap (λ b. one a mask || (b || drives_at a addresses drives)) (sym (none (eqb address a)))
  where
    none : (b : Bool) → b && false ≡ false
    none true = refl
    none false = refl
mask-from-bit a mask (address ∷ addresses) (Driven level ∷ drives) =
    mask-from-bit a (set_bit address mask) addresses drives
    ∙ ap (λ b. b || drives_at a addresses drives) (set-bit a address mask)
    ∙ or_assoc (one a mask) (eqb address a) (drives_at a addresses drives)
    ∙ ap (λ b. one a mask || (b || drives_at a addresses drives)) (sym (all (eqb address a)))
  where
    all : (b : Bool) → b && true ≡ b
    all true = refl
    all false = refl

-- bit a is one exactly if a PHY at address a drives; so it is zero where no PHY has the address
pub mask-bit : (a : ℕ) (addresses : List ℕ) (drives : List Drive) → one a (mask_from 0 addresses drives) ≡ drives_at a addresses drives
mask-bit a addresses drives =
    let none : 0 / 2 ^ a ≡ 0 = zero-div (2 ^ a) in
    let empty : one a 0 ≡ false = ap (λ n. eqb (n % 2) 1) none in
    mask-from-bit a 0 addresses drives ∙ ap (λ b. b || drives_at a addresses drives) empty

-- The log: "5 bytes per clock"
module _ (board : Board) (steps events : List ℕ) where
  abbrev record_in : ℕ → List ℕ
  record_in k = clock_record (addresses_of (phys_of board)) (drives_in events steps (at_start board events) k)

  log-pieces : log_of_run board steps events ≡ join (tabulate (length steps) record_in)
  log-pieces = ap join (log-by-clock events steps (at_start board events) (addresses_of (phys_of board)))

  pub log-length : length (log_of_run board steps events) ≡ length steps * 5
  unfolding clock_record
  log-length = ap length log-pieces ∙ length-pieces 5 (length steps) record_in (λ k. refl)

  -- byte i of the record of clock k + 1: what the parties do by their state before it
  pub log-byte : (k i : ℕ) → k < length steps → i < 5 → get_or (log_of_run board steps events) (k * 5 + i) 0 ≡ get_or (record_in k) i 0
  unfolding clock_record
  log-byte k i h l = ap (λ xs. get_or xs (k * 5 + i) 0) log-pieces ∙ get_or-pieces 5 (length steps) record_in (λ k. refl) 0 k i h l

  -- the flags of clock k + 1, by what all parties do in it
  module _ (k : ℕ) (within : k < length steps) where
    abbrev station : Drive
    station = station_in events steps (at_start board events) k

    abbrev others : List Drive
    others = map (party_with events).drives (phys_after events steps (at_start board events) k)

    flags-byte : get_or (log_of_run board steps events) (k * 5) 0 ≡ get_or (record_in k) 0 0
    flags-byte =
        let place : k * 5 + 0 ≡ k * 5 = omega arith in
        rw place at (log-byte k 0 within (omega arith))

    pub log-level : bit 0 (get_or (log_of_run board steps events) (k * 5) 0) ≡ as_bit (level_of (drives_in events steps (at_start board events) k))
    unfolding clock_record
    log-level = ap (bit 0) flags-byte ∙ level-flag station others

    pub log-uncontended : drivers (drives_in events steps (at_start board events) k) ≤ 1 → get_or (log_of_run board steps events) (k * 5) 0 < 4
    unfolding clock_record
    log-uncontended few = rw flags-byte (uncontended station others few)

-- an empty run: only the events of clock 0 act
module _ (board : Board) (events : List ℕ) where
  pub empty-run : phys_after_run board [] events ≡ at_start board events
  unfolding runs
  empty-run = refl

  pub empty-log : log_of_run board [] events ≡ []
  unfolding driven join
  empty-log = refl

  -- a run of steps a ++ b is a run of a, then one of b from there
  module _ (a b : List ℕ) where
    two-parts : station_drives (a ++ b) ≡ station_drives a ++ station_drives b
    two-parts = map-append station_drive a b

    gone : length a ≡ 0 + length (station_drives a)
    gone = omega (arith, length-map a station_drive)

    pub run-append : phys_after_run board (a ++ b) events ≡ runs (party_with events) (station_drives b) (length a) (phys_after_run board a events)
    run-append =
        ap (λ ds. runs (party_with events) ds 0 (at_start board events)) two-parts
        ∙ runs_append (party_with events) (station_drives a) (station_drives b) 0 (length a) (at_start board events) gone

    pub log-append : log_of_run board (a ++ b) events ≡ log_of_run board a events ++ join (map (clock_record (addresses_of (phys_of board))) (driven (party_with events) (station_drives b) (length a) (phys_after_run board a events)))
    log-append =
        let rec = clock_record (addresses_of (phys_of board)) in
        let first = driven (party_with events) (station_drives a) 0 (at_start board events) in
        let rest = driven (party_with events) (station_drives b) (length a) (phys_after_run board a events) in
        ap (λ ds. join (map rec (driven (party_with events) ds 0 (at_start board events)))) two-parts
        ∙ ap (λ xss. join (map rec xss)) (driven-append (party_with events) (station_drives a) (station_drives b) 0 (length a) (at_start board events) gone)
        ∙ ap join (map-append rec first rest)
        ∙ join-append (map rec first) (map rec rest)

-- every field stays within its type
pub run_typed : (board : Board) (steps events : List ℕ) → All Typed (phys_of board) → All Typed (phys_after_run board steps events)
run_typed board steps events =
    each_keeps Typed (run-changes (keeps-closed Typed) events (λ c. keeps_typed (happens-effect events c)) clock-typed board steps)
