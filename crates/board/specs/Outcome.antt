-- What a call that loads or changes a board hands back: its answer, and a board.
use Rattle.std.specs.Prelude.{ℕ, Result}
use Rattle.verdict.specs.declared.Refusal.{Refusal}
use Rattle.verdict.specs.Refusal.{Verdict, said}
use Rattle.board.specs.declared.Board.{Board}
use Rattle.board.specs.declared.Outcome.{Outcome}

-- an outcome by its parts, whatever refuses
module _ {E : Type 0} where
  abbrev pub outcome_of : Result ℕ E → Board → Outcome E
  outcome_of verdict board = record { verdict = verdict; board = board }

-- the same with the answer as the documents have it
pub record Told : Type 0 where
  pub verdict : Verdict
  pub board : Board

-- what an outcome says
abbrev pub told : Outcome Refusal → Told
told outcome = record { verdict = said outcome.verdict; board = outcome.board }
