-- Each mask of one bit clears or sets that bit.
use native.Mathlib.Omega.{arith}
use Prim.Native.Nat.{◌<◌}
use Rattle.phy.specs.Words.{clear_bit}
use Rattle.phy.proofs.Words.{clear-rest, clear-lt, or-bit}
use Rattle.phy.proofs.status.Status.read.Goals as goal

pub returns-then-link : goal.returns-then-link
returns-then-link c =
    let status = c.args.status in
    let fits : status < 65536 = omega arith in
    rw (c.if-link.true, clear-rest 4 status (omega arith) fits, clear-rest 1 (clear_bit 4 status) (omega arith) (clear-lt 4 16 status fits), or-bit 2)

pub returns-else-link : goal.returns-else-link
returns-else-link c =
    let status = c.args.status in
    let fits : status < 65536 = omega arith in
    let again : clear_bit 4 status < 65536 = clear-lt 4 16 status fits in
    rw (c.if-link.false, clear-rest 4 status (omega arith) fits, clear-rest 1 (clear_bit 4 status) (omega arith) again, clear-rest 2 (clear_bit 1 (clear_bit 4 status)) (omega arith) (clear-lt 1 16 (clear_bit 4 status) again))
