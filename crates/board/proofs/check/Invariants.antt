-- The places are asked in order, those with a PHY and then the blank ones, and the first at fault refuses.
use Prim.Native.Nat.{◌-◌}
use mathlib.Core.Path.{◌≡◌}
use Rattle.verdict.specs.Refusal.{Done}
use Rattle.verdict.specs.File.{in_order}
use Rattle.board.specs.Record.{taken_by}
use Rattle.board.specs.Check.{place_at, place_fault, checked}
use Rattle.board.proofs.check.Given as goal

abbrev pub invariant-loop-k : goal.invariant-loop-k
invariant-loop-k l =
    (l.taken ≡ taken_by (λ i. (place_at l.fn.board i).own.address) l.k)
    × (checked l.fn.board ≡ in_order (place_fault l.fn.board) l.k (32 - l.k) (Done l.fn.board.count))
