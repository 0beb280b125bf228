-- Document 02, E2, of the run that the promise of `run` cites: "after a start of 00 the follower passes over the other 30 bits, driving and storing nothing, and only then hunts, with 0 ones".
use Rattle.std.specs.Prelude.{ℕ, ◌+◌, ◌-◌, ◌≡◌, Bool, List, [], ◌∷◌, ◌++◌, map, length, replicate}
use Rattle.verdict.specs.Refusal.{Done}
use Rattle.verdict.specs.Lists.{All}
use Rattle.frame.specs.Frame.{preamble, frame_bits}
use Rattle.frame.specs.Steps.{drive_zero, drive_one}
use Rattle.wire.specs.declared.Drive.{Drive}
use Rattle.wire.specs.declared.Drive.TheVariants.{Released}
use Rattle.wire.specs.declared.Follower.TheVariants.{Hunting}
use Rattle.wire.specs.Wire.{level_of, driven}
use Rattle.wire.specs.Machines.{quiet}
use Rattle.phy.specs.Fields.{with_line}
use Rattle.board.specs.declared.Board.{Board}
use Rattle.board.specs.Check.{checked}
use Rattle.board.specs.Typed.{TypedBoard}
use Rattle.between.specs.Outcome.{phys_of}
use Rattle.wire_machine.specs.Run.{party_with, station_drives, phys_after_run}
use Rattle.between.specs.Events.{at_start}
use Rattle.plain_machine.specs.Plain.{core_with}
use Rattle.agreement.specs.Demand3.{Hunts}

-- a whole preamble, a start of 00, and whatever the station does in the frame's other clocks
abbrev pub foreign_steps : List ℕ → List ℕ
foreign_steps others = (replicate preamble drive_one ++ (drive_zero ∷ drive_zero ∷ [])) ++ others

-- what is asked: a sound board whose PHYs all hunt, and 30 steps more. Any events will do
pub record ForeignAsked (board : Board) (others : List ℕ) : Type 0 where
  pub typed : TypedBoard board
  pub phys : ℕ
  pub sound : checked board ≡ Done phys
  pub hunt : All Hunts (phys_of board)
  pub long : length others ≡ frame_bits - 2

-- in a clock nobody but the station drives, and the level that it makes by itself
abbrev pub StationAlone : List Drive → Type 0
StationAlone [] = Unit {0}
StationAlone (station ∷ phys) = All (λ drive. drive ≡ Released) phys

abbrev pub level_alone : Drive → Bool
level_alone station = level_of (station ∷ [])

-- what is shown of the run of these steps
module _ (board : Board) (others events : List ℕ) where
  -- who drives in each clock
  abbrev pub foreign_drives : List (List Drive)
  foreign_drives = driven (party_with events) (station_drives (foreign_steps others)) 0 (at_start board events)

  pub record PassedOver : Type 0 where
    -- the PHYs are what the events alone make of them, hunting with 0 ones
    pub phys : phys_after_run board (foreign_steps others) events ≡ map (with_line (Hunting 0) 0) (quiet (core_with events) 0 (preamble + frame_bits) (at_start board events))
    -- in no clock does a PHY drive, so each level is what the station makes by itself
    pub silent : All StationAlone foreign_drives
    pub levels : map level_of foreign_drives ≡ map level_alone (station_drives (foreign_steps others))
