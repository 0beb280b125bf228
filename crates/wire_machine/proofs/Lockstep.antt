-- The PHYs of a run after k of its clocks, and what each clock of the log says of them.
use Prim.Native.Nat.{ℕ, zero, suc, ◌+◌, ◌≤◌, ◌<◌}
use mathlib.Core.Path.{◌≡◌, refl, sym, ap, ◌∙◌}
use mathlib.Core.List.{List, [], ◌∷◌, ◌++◌, map, map-append}
use native.Mathlib.Omega.{arith}
use lib.ListN.{length, get_or, take, length-map}
use lib.Seq.{take-suc, take-length, length-take-le}
use Rattle.verdict.specs.File.{byte_at}
use Rattle.verdict.specs.Output.{tabulate}
use Rattle.verdict.proofs.Lists.{get_or-tabulate, map-tabulate}
use Rattle.wire.specs.declared.Drive.{Drive}
use Rattle.wire.specs.Wire.{station_drive, drives_of, clocked, events_after, runs, driven}
use Rattle.wire.proofs.Runs.{runs_append, driven-append}
use Rattle.phy.specs.declared.Phy.{Phy}
use Rattle.phy.specs.declared.own.Own.{Own}
use Rattle.phy.proofs.Keeping.{keeps-own, clock-own}
use Rattle.between.specs.Events.{happens}
use Rattle.wire_machine.specs.Log.{clock_record}
use Rattle.between.specs.Outcome.{owns_of}
use Rattle.wire_machine.specs.Run.{party_with, station_drives}
use Rattle.between.proofs.EachPlace.{leaves-closed, each-leaves, runs-each}
use Rattle.between.proofs.HappensEffect.{happens-effect}

-- the events after a clock keep who a frame is for
pub happens-own : (events : List ℕ) (c : ℕ) (phy : Phy) → (happens events c phy).own ≡ phy.own
happens-own events c phy = keeps-own (happens-effect events c) phy

module _ (events steps : List ℕ) (start : List Phy) where
  -- the PHYs after k clocks and the events after them
  abbrev pub phys_after : ℕ → List Phy
  phys_after k = runs (party_with events) (station_drives (take k steps)) 0 start

  -- what the station does in clock k + 1, and what all do
  abbrev pub station_in : ℕ → Drive
  station_in k = station_drive (byte_at steps k)

  abbrev pub drives_in : ℕ → List Drive
  drives_in k = drives_of (party_with events) (station_in k) (phys_after k)

  pub owns-stay : (k : ℕ) → owns_of (phys_after k) ≡ owns_of start
  owns-stay k =
      let own : Phy → Own = λ phy. phy.own in
      each-leaves own (runs-each (leaves-closed own) (party_with events) clock-own (happens-own events) (station_drives (take k steps)) 0 start)

  module _ (k : ℕ) (within : k < length steps) where
    one_more : station_drives (take (suc k) steps) ≡ station_drives (take k steps) ++ (station_in k ∷ [])
    one_more = ap station_drives (take-suc steps k 0 within) ∙ map-append station_drive (take k steps) (byte_at steps k ∷ [])

    so_far : k ≡ 0 + length (station_drives (take k steps))
    so_far = omega (arith, length-map (take k steps) station_drive, length-take-le k steps (omega arith))

    -- one clock more
    pub phys-next : phys_after (suc k) ≡ events_after (party_with events) (suc k) (clocked (party_with events) (station_in k) (phys_after k))
    unfolding runs
    phys-next =
        ap (λ ds. runs (party_with events) ds 0 start) one_more
        ∙ runs_append (party_with events) (station_drives (take k steps)) (station_in k ∷ []) 0 k start so_far

    pub driven-next : driven (party_with events) (station_drives (take (suc k) steps)) 0 start ≡ driven (party_with events) (station_drives (take k steps)) 0 start ++ (drives_in k ∷ [])
    unfolding driven
    driven-next =
        ap (λ ds. driven (party_with events) ds 0 start) one_more
        ∙ driven-append (party_with events) (station_drives (take k steps)) (station_in k ∷ []) 0 k start so_far

  -- the clocks of a log one by one
  driven-by-clock : (k : ℕ) → k ≤ length steps → driven (party_with events) (station_drives (take k steps)) 0 start ≡ tabulate k drives_in
  unfolding tabulate driven
  driven-by-clock zero h = refl
  driven-by-clock (suc k) h = driven-next k (omega arith) ∙ ap (λ xss. xss ++ (drives_in k ∷ [])) (driven-by-clock k (omega arith))

  pub driven-all : driven (party_with events) (station_drives steps) 0 start ≡ tabulate (length steps) drives_in
  driven-all =
      ap (λ ss. driven (party_with events) (station_drives ss) 0 start) (sym (take-length steps))
      ∙ driven-by-clock (length steps) (omega arith)

  pub driven-at : (k : ℕ) → k < length steps → get_or (driven (party_with events) (station_drives steps) 0 start) k [] ≡ drives_in k
  driven-at k within = ap (λ clocks. get_or clocks k []) driven-all ∙ get_or-tabulate (length steps) drives_in [] k within

  pub log-by-clock : (addresses : List ℕ) → map (clock_record addresses) (driven (party_with events) (station_drives steps) 0 start) ≡ tabulate (length steps) (λ k. clock_record addresses (drives_in k))
  log-by-clock addresses = ap (map (clock_record addresses)) driven-all ∙ map-tabulate (clock_record addresses) (length steps) drives_in
