-- What all clocks of a run that is not refused do.
use Rattle.std.specs.Prelude.{ℕ, ◌≡◌, List}
use Rattle.verdict.specs.Output.{written}
use Rattle.board.specs.declared.Board.{Board}
use Rattle.wire_machine.specs.Run.{board_after_run, log_of_run}

pub record Clocked (before : Board) (steps events log : List ℕ) (after : Board) (log' : List ℕ) : Type 0 where
  pub board : after ≡ board_after_run before steps events
  pub logged : log' ≡ written (log_of_run before steps events) log
