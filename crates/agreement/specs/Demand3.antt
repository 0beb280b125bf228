-- Demand 3: "Running the translated clock steps on the wire gives the same answers, registers and links as the plain machine (..); never two drivers; every PHY ends hunting." Over the very definitions that the promises of `translate`, `run`, `decode` and `plain` cite.
use Rattle.std.specs.Prelude.{ℕ, ◌≤◌, ◌<◌, ◌*◌, ◌≡◌, Bool, List, [], ◌∷◌, map}
use Rattle.verdict.specs.Refusal.{Done}
use Rattle.verdict.specs.File.{byte_at}
use Rattle.verdict.specs.Lists.{All}
use Rattle.frame.specs.declared.list.Transaction.{Transaction}
use Rattle.frame.specs.Frame.{log_record}
use Rattle.frame.specs.List.{list_verdict, transactions}
use Rattle.frame.specs.Steps.{translation}
use Rattle.frame.specs.Answers.{answers_in}
use Rattle.wire.specs.declared.Follower.{Follower}
use Rattle.wire.specs.declared.Follower.TheVariants.{Hunting}
use Rattle.wire.specs.Wire.{drivers, driven}
use Rattle.phy.specs.declared.Phy.{Phy}
use Rattle.board.specs.declared.Board.{Board}
use Rattle.board.specs.Check.{checked}
use Rattle.board.specs.Typed.{TypedBoard}
use Rattle.between.specs.Outcome.{phys_of}
use Rattle.wire_machine.specs.Run.{party_with, station_drives, log_of_run, phys_after_run}
use Rattle.between.specs.Events.{at_start}
use Rattle.plain_machine.specs.Plain.{answers_of_plain, phys_after_plain}

-- a PHY that hunts, with any number of ones
pub record Hunts (phy : Phy) : Type 0 where
  pub ones : ℕ
  pub hunting : phy.follower ≡ Hunting ones

-- what is asked: a sound board whose PHYs all hunt, and a list that the checks let through. Any events will do
pub record Asked (board : Board) (list : List ℕ) : Type 0 where
  pub typed : TypedBoard board
  pub bytes : (i : ℕ) → byte_at list i < 256
  pub phys : ℕ
  pub sound : checked board ≡ Done phys
  pub hunt : All Hunts (phys_of board)
  pub count : ℕ
  pub accepted : list_verdict list ≡ Done count

-- the registers and the link of PHYs, and their followers
abbrev pub registers_of : List Phy → List (List ℕ)
registers_of phys = map (λ phy. phy.registers) phys

abbrev pub links_of : List Phy → List Bool
links_of phys = map (λ phy. phy.link) phys

abbrev pub followers_of : List Phy → List Follower
followers_of phys = map (λ phy. phy.follower) phys

-- every PHY ends hunting: as it was after an empty list, and with the one 1 of the idle clock after any other
abbrev pub ends_hunting : List Transaction → Board → List Follower
ends_hunting [] board = followers_of (phys_of board)
ends_hunting (t ∷ ts) board = map (λ phy. Hunting 1) (phys_of board)

-- what is shown of the run of the translated steps
pub record Demand3 (board : Board) (list events : List ℕ) : Type 0 where
  pub answers : answers_in list (log_of_run board (translation list) events) ≡ answers_of_plain board list events
  pub registers : registers_of (phys_after_run board (translation list) events) ≡ registers_of (phys_after_plain board list events)
  pub links : links_of (phys_after_run board (translation list) events) ≡ links_of (phys_after_plain board list events)
  pub hunting : followers_of (phys_after_run board (translation list) events) ≡ ends_hunting (transactions list) board
  pub alone : All (λ drives. drivers drives ≤ 1) (driven (party_with events) (station_drives (translation list)) 0 (at_start board events))
  pub no-contention : (i : ℕ) → byte_at (log_of_run board (translation list) events) (i * log_record) < 4
