-- Document 01, "Clock steps": "What each party drives in a clock depends on its state before that clock. Level: 1 if nobody drives (pull-up), 0 if anyone drives 0, else 1. Then all sample it."
use Rattle.std.specs.Prelude.{ℕ, zero, suc, Bool, true, false, ◌&&◌, List, [], ◌∷◌, map}
use Rattle.wire.specs.declared.Drive.{Drive}
use Rattle.wire.specs.declared.Drive.TheVariants.{Released, Driven}

-- what the station does in a step: "0 drive zero, 1 drive one, 2 release, 3 release and sample"
abbrev pub station_drive : ℕ → Drive
station_drive zero = Driven false
station_drive (suc zero) = Driven true
station_drive (suc (suc step)) = Released

-- the level, from what all parties do in a clock
abbrev pub level_of : List Drive → Bool
level_of [] = true
level_of (Released ∷ drives) = level_of drives
level_of (Driven level ∷ drives) = level && level_of drives

-- a level as the bit that it says
abbrev pub as_bit : Bool → ℕ
as_bit false = 0
as_bit true = 1

-- how many parties drive
abbrev pub drivers : List Drive → ℕ
drivers [] = 0
drivers (Released ∷ drives) = drivers drives
drivers (Driven level ∷ drives) = suc (drivers drives)

-- what the wire asks of a party: what it drives, what it is after it sampled a level, and what the events that come after a clock make of it
pub record Party (P : Type 0) : Type 0 where
  pub drives : P → Drive
  pub samples : Bool → P → P
  pub happens : ℕ → P → P

-- A run over a station's drives, one for each clock; c clocks are gone. Events come after their clock and before the next
module _ {P : Type 0} (party : Party P) where
  -- who drives in a clock: the station, then the parties in order
  abbrev pub drives_of : Drive → List P → List Drive
  drives_of station ps = station ∷ map party.drives ps

  -- one clock: all drive, all sample the level
  abbrev pub clocked : Drive → List P → List P
  clocked station ps = map (party.samples (level_of (drives_of station ps))) ps

  -- the events of a clock
  abbrev pub events_after : ℕ → List P → List P
  events_after c ps = map (party.happens c) ps

  -- what the parties are after the run
  unfoldable pub runs : List Drive → ℕ → List P → List P
  runs [] c ps = ps
  runs (station ∷ drives) c ps = runs drives (suc c) (events_after (suc c) (clocked station ps))

  -- who drove in each clock of the run
  unfoldable pub driven : List Drive → ℕ → List P → List (List Drive)
  driven [] c ps = []
  driven (station ∷ drives) c ps = drives_of station ps ∷ driven drives (suc c) (events_after (suc c) (clocked station ps))

  -- what one party is after the levels of some clocks, and their events
  unfoldable pub sampled : List Bool → ℕ → P → P
  sampled [] c p = p
  sampled (level ∷ levels) c p = sampled levels (suc c) (party.happens (suc c) (party.samples level p))
