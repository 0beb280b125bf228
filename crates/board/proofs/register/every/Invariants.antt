-- One test more each turn.
use mathlib.Core.Bool.{Bool}
use mathlib.Core.Path.{◌≡◌}
use Prim.Native.Nat.{ℕ}
use Rattle.phy.specs.Record.{every}
use Rattle.board.specs.Registers.{Finds}
use Rattle.board.proofs.register.every.Given as goal

abbrev pub invariant-loop-r : goal.invariant-loop-r
invariant-loop-r g l = (test : ℕ → Bool) → Finds (goal.F-post g l.passes) test → l.all ≡ every l.r test
