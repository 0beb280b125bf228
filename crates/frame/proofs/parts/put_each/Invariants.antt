-- Transaction by transaction: after k turns the output begins with the first k parts.
use Prim.Native.Nat.{ℕ}
use mathlib.Core.Path.{◌≡◌}
use mathlib.Core.List.{List}
use Rattle.verdict.proofs.Outputs.{pieced}
use Rattle.frame.specs.Parts.{Puts}
use Rattle.frame.proofs.parts.put_each.Given as goal

abbrev pub invariant-loop-k : goal.invariant-loop-k
invariant-loop-k g l =
    (piece : ℕ → List ℕ) → Puts g.F.Fn l.put l.list l.width piece → l.out ≡ pieced l.width piece l.initial.out l.k
