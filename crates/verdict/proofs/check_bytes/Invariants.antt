-- The bytes are asked in order, and the first over the largest refuses.
use Prim.Native.Nat.{◌-◌}
use mathlib.Core.Path.{◌≡◌}
use lib.ListN.{length}
use Rattle.verdict.specs.Refusal.{Done}
use Rattle.verdict.specs.File.{in_order, byte_fault, bytes_verdict}
use Rattle.verdict.proofs.check_bytes.Given as goal

abbrev pub invariant-loop-k : goal.invariant-loop-k
invariant-loop-k l =
    (l.count ≡ length l.file)
    × (bytes_verdict l.most l.largest l.number l.file ≡ in_order (byte_fault l.largest l.number l.file) l.k (l.count - l.k) (Done l.count))
