-- Document 01, "Refusal numbers": "Nothing is written and the board stays"; success hands back the board as it is after the call.
use Rattle.std.specs.Prelude.{ℕ, ◌≡◌, List, ◌++◌, map, take, drop}
use Rattle.verdict.specs.Refusal.{Verdict, Done, Refused}
use Rattle.verdict.specs.Output.{Writes}
use Rattle.phy.specs.declared.own.Own.{Own}
use Rattle.phy.specs.declared.Phy.{Phy}
use Rattle.board.specs.declared.Board.{Board}
use Rattle.board.specs.Outcome.{Told}

-- the PHYs of a board, and the board with others in their places
abbrev pub phys_of : Board → List Phy
phys_of board = take board.count board.phys

abbrev pub with_phys : Board → List Phy → Board
with_phys board phys = record { count = board.count; phys = phys ++ drop board.count board.phys }

-- who frames are for, place by place
abbrev pub owns_of : List Phy → List Own
owns_of phys = map (λ phy. phy.own) phys

-- the board that a call with this answer hands back: the one after it, or where it refuses the one before
abbrev pub handed_back : Verdict → Board → Board → Board
handed_back (Done n) after before = after
handed_back (Refused number index) after before = before

-- what a call that takes a board promises: its answer, every byte of its output, and the board that it hands back
pub record HandsBack (answer : Verdict) (result : List ℕ) (after before : Board) (out : List ℕ) (r : Told) (out' : List ℕ) : Type 0 where
  pub writes : Writes answer result out r.verdict out'
  pub board : r.board ≡ handed_back answer after before
