-- Document 01, "Refusal numbers": "board, then list, then events".
use Rattle.std.specs.Prelude.{ℕ, ◌≡◌, List}
use Rattle.verdict.specs.Refusal.{Done}
use Rattle.frame.specs.List.{list_verdict}
use Rattle.board.specs.declared.Board.{Board}
use Rattle.board.specs.Load.{loaded}

-- a board of a file that has passed, and a list that has
pub record Passed (board : Board) (list : List ℕ) : Type 0 where
  pub file : List ℕ
  pub phys : ℕ
  pub loads : (loaded file).verdict ≡ Done phys
  pub gives : board ≡ (loaded file).board
  pub count : ℕ
  pub accepted : list_verdict list ≡ Done count
