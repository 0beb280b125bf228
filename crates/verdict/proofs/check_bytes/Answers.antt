-- The bytes are asked in order, and the first over the largest refuses.
use mathlib.Core.Path.{◌≡◌, ap, sym, ◌∙◌}
use native.Mathlib.Nat.{sub-zero}
use native.Mathlib.Omega.{arith}
use Rattle.std.proofs.Math.Nat.{div-one}
use borrow.Author.Tests.{lt-ltb, le-ltb}
use borrow.Author.Rules.{rules}
use Rattle.verdict.specs.Refusal.{Refused}
use Rattle.verdict.specs.File.{byte_fault}
use Rattle.verdict.proofs.Checks.{count-refused, counted, count-done, bytes-records, next, stop, finish}
use Rattle.verdict.proofs.check_bytes.Goals.{then-largest-byte, else-largest-byte}
use Rattle.verdict.proofs.check_bytes.Goals as goal

pub returns-in-Err : goal.returns-in-Err
returns-in-Err c =
    rw (c.from.ensures, bytes-records c.args.most c.args.largest c.args.number c.args.file.now) (count-refused _ _ _ _ (omega arith) c.in-Err.ensures)

pub loop-k-init : goal.loop-k-init
loop-k-init c =
    let count = (counted (omega arith) c.in-Ok.ensures).count ∙ div-one _ in
    (count, bytes-records c.args.most c.args.largest c.args.number c.args.file.now ∙ rw sub-zero (count-done _ _ _ _ (omega arith) c.in-Ok.ensures))

pub returns-then-fault-ne0 : goal.returns-then-fault-ne0
returns-then-fault-ne0 c =
    let fault = byte_fault c.args.largest c.args.number c.args.file.now in
    let found : fault c.loop-k.k ≡ c.if-largest-byte.fault =
    elim c.if-largest-byte.branch [ then-largest-byte w ↦ rw (lt-ltb _ _ w.if-largest-byte.true, w.fault-is) | else-largest-byte w ↦ rw (le-ltb _ _ w.if-largest-byte.false, w.fault-is) ] in
    ap (λ number. Refused number c.loop-k.k) (sym found) ∙ sym (c.loop-k.invariant.1 ∙ stop fault _ _ c.loop-k.k (search rules) (λ none. c.if-fault-ne0.true (sym found ∙ none)))

pub loop-k-preserved : goal.loop-k-preserved
loop-k-preserved c =
    let fault = byte_fault c.args.largest c.args.number c.args.file.now in
    let found : fault c.loop-k.k ≡ c.if-largest-byte.fault =
    elim c.if-largest-byte.branch [ then-largest-byte w ↦ rw (lt-ltb _ _ w.if-largest-byte.true, w.fault-is) | else-largest-byte w ↦ rw (le-ltb _ _ w.if-largest-byte.false, w.fault-is) ] in
    (c.loop-k.invariant.0, c.loop-k.invariant.1 ∙ next fault _ _ c.loop-k.k (omega (arith, c.loop-k.invariant.0, c.loop-k-test.true)) (found ∙ c.if-fault-ne0.false))

pub returns : goal.returns
returns c = sym (c.loop-k.invariant.1 ∙ finish _ _ _ _ (search rules))
