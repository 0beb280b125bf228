-- Document 02, E1: "Levels taken from a run of a translated list from a hunting board must read back as exactly that run's answers."
use Rattle.std.specs.Prelude.{ℕ, ◌≡◌, List, length}
use Rattle.verdict.specs.Refusal.{Done}
use Rattle.verdict.specs.File.{records}
use Rattle.frame.specs.Frame.{log_record}
use Rattle.frame.specs.Steps.{translation}
use Rattle.frame.specs.Log.{levels}
use Rattle.frame.specs.Answers.{answers_in}
use Rattle.board.specs.declared.Board.{Board}
use Rattle.wire_machine.specs.Run.{log_of_run}
use Rattle.listener.specs.Listening.{capture_verdict, records_in}

-- the levels of a log, one byte per clock, as the analyser saves them
abbrev pub capture_of : List ℕ → List ℕ
capture_of log = levels log 1 (records log_record log)

-- a list's run, as the analyser heard it
abbrev pub capture_of_run : Board → List ℕ → List ℕ → List ℕ
capture_of_run board list events = capture_of (log_of_run board (translation list) events)

-- what is shown of it: it passes the listener's checks, and reads back as what the decoder finds in the run's own log
pub record ReadsBack (board : Board) (list events : List ℕ) : Type 0 where
  pub accepted : capture_verdict (capture_of_run board list events) ≡ Done (length (translation list))
  pub answers : records_in (capture_of_run board list events) ≡ answers_in list (log_of_run board (translation list) events)
