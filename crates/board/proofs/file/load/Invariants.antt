-- The records are asked in order; each that passes fills the next place, and the first at fault refuses.
use Prim.Native.Nat.{◌-◌}
use mathlib.Core.Path.{◌≡◌}
use lib.ListN.{replicate}
use Rattle.verdict.specs.Refusal.{Done}
use Rattle.verdict.specs.File.{in_order}
use Rattle.verdict.proofs.Checks.{Counted}
use Rattle.verdict.proofs.Outputs.{filled}
use Rattle.phy.specs.Sound.{blank}
use Rattle.board.specs.Record.{taken_by}
use Rattle.board.specs.Load.{address_at, phy_at, record_fault, board_verdict}
use Rattle.board.proofs.file.load.Given as goal

abbrev pub invariant-loop-k : goal.invariant-loop-k
invariant-loop-k l =
    (l.phys ≡ filled (phy_at l.file) (replicate 32 blank) l.k)
    × (l.taken ≡ taken_by (address_at l.file) l.k)
    × (board_verdict l.file ≡ in_order (record_fault l.file) l.k (l.count - l.k) (Done l.count))
    × Counted 134 32 l.file l.count
