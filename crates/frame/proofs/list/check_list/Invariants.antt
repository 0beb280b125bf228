-- One law of records in order for each turn: a good record hands on, a bad one refuses.
use Prim.Native.Nat.{◌-◌}
use Rattle.frame.specs.List.{record_fault, list_verdict}
use mathlib.Core.Path.{◌≡◌}
use Rattle.verdict.specs.Refusal.{Done}
use Rattle.verdict.specs.File.{in_order}
use Rattle.frame.proofs.list.check_list.Given as goal

abbrev pub invariant-loop-k : goal.invariant-loop-k
invariant-loop-k l = list_verdict l.list ≡ in_order (record_fault l.list) l.k (l.count - l.k) (Done l.count)
