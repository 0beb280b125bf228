-- The records are asked in order, and the first at fault refuses.
use Prim.Native.Nat.{ℕ, ◌-◌}
use mathlib.Core.Bool.{Bool, false}
use mathlib.Core.List.{List}
use mathlib.Core.Path.{◌≡◌}
use lib.ListN.{get_or}
use Rattle.verdict.specs.Refusal.{Done}
use Rattle.verdict.specs.File.{in_order, file_verdict}
use Rattle.board.specs.Events.{event_address, clock_before, event_fault_as}
use Rattle.board.proofs.events.check_events.Given as goal

-- what the checks find of a record where a table says which addresses are on the board
abbrev pub fault_by : List Bool → List ℕ → ℕ → ℕ → ℕ
fault_by there events last k = event_fault_as (get_or there (event_address events k) false) events last k

abbrev pub invariant-loop-k : goal.invariant-loop-k
invariant-loop-k l =
    (l.before ≡ clock_before l.events l.k)
    × (file_verdict 4 256 (fault_by l.there l.events l.last) l.events ≡ in_order (fault_by l.there l.events l.last) l.k (l.count - l.k) (Done l.count))
