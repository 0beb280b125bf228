-- Demand 3: on a board that hunts, a list sent over the wire leaves the parties of the plain machine and the levels of its answers, and in no clock do two drive.
use Rattle.std.specs.Prelude.{ℕ, ◌^◌, ◌≤◌, ◌<◌, ◌≡◌, false, List, [], ◌∷◌, ◌++◌, map}
use Rattle.verdict.specs.Lists.{All}
use Rattle.verdict.specs.Output.{join}
use Rattle.frame.specs.declared.list.Transaction.{Transaction}
use Rattle.frame.specs.List.{write, is_read}
use Rattle.frame.specs.Steps.{table}
use Rattle.wire.specs.declared.Drive.{Drive}
use Rattle.wire.specs.declared.Follower.TheVariants.{Hunting}
use Rattle.wire.specs.Wire.{Party, level_of, drivers, station_drive, runs, driven}
use Rattle.wire.specs.Machines.{Core, plain_answer, plain_after, plain_answers, plain_parties}
use Rattle.agreement.specs.Follows.{Line}
use Rattle.agreement.specs.Levels.{heard, heard_all, at, levels_of, levels_of_all}

-- a transaction that the list's checks let through
pub record Accepted (t : Transaction) : Type 0 where
  pub op : is_read t ≡ false → t.op ≡ write
  pub address : t.address < 32
  pub register : t.register < 32
  pub word : t.«data» < 2 ^ 16

-- what the station does for a transaction with a preamble of m ones; and for a list, the first with m and each later one with n
abbrev pub station_for : ℕ → Transaction → List Drive
station_for m t = map station_drive (join (table m t))

unfoldable pub station_for_all : ℕ → ℕ → List Transaction → List Drive
station_for_all m n [] = []
station_for_all m n (t ∷ ts) = station_for m t ++ station_for_all n n ts

module _ {P : Type 0} (line : Line P) where
  -- a party at rest after a transaction: hunting with the one 1 of the idle clock, nothing captured
  abbrev pub rest : P → P
  rest p = line.put (Hunting 1) 0 p

  -- after no transaction the parties are as they were, after any they are at rest
  abbrev pub settled : List Transaction → List P → List P
  settled [] ps = ps
  settled (t ∷ ts) ps = map rest ps

module _ {P : Type 0} (wire : Party P) (core : Core P) (line : Line P) where
  -- one transaction with a preamble of m ones, after c clocks
  pub record Agrees (m : ℕ) (t : Transaction) (c : ℕ) (ps : List P) : Type 0 where
    pub parties : runs wire (station_for m t) c ps ≡ map (rest line) (plain_after core m t c ps)
    pub levels : map level_of (driven wire (station_for m t) c ps) ≡ levels_of m t (plain_answer core m t c ps)
    pub answer : heard m t (at (map level_of (driven wire (station_for m t) c ps))) ≡ plain_answer core m t c ps
    pub alone : All (λ drives. drivers drives ≤ 1) (driven wire (station_for m t) c ps)

  -- a list after c clocks, the first transaction with a preamble of m ones and each later one with n
  pub record AgreesAll (m n : ℕ) (ts : List Transaction) (c : ℕ) (ps : List P) : Type 0 where
    pub parties : runs wire (station_for_all m n ts) c ps ≡ settled line ts (plain_parties core m n ts c ps)
    pub levels : map level_of (driven wire (station_for_all m n ts) c ps) ≡ levels_of_all m n ts (plain_answers core m n ts c ps)
    pub answers : heard_all m n ts (at (map level_of (driven wire (station_for_all m n ts) c ps))) ≡ plain_answers core m n ts c ps
    pub alone : All (λ drives. drivers drives ≤ 1) (driven wire (station_for_all m n ts) c ps)
