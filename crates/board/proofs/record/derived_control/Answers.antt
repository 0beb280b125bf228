-- Speed, bit 12 and bit 8 are added up as `derived_control` says; each has its own bits, so the sum fits.
use Prim.Native.Nat.{◌*◌, ◌^◌}
use mathlib.Core.Bool.{cond}
use mathlib.Core.Path.{◌≡◌}
use native.Mathlib.Omega.{arith}
use Rattle.verdict.specs.Bits.{bit}
use Rattle.phy.specs.Abilities.{able_half}
use Rattle.phy.specs.Record.{derived_control}
use Rattle.phy.proofs.Words.{bit-lt, and-bit}
use Rattle.board.proofs.record.derived_control.Goals as goal
use Rattle.board.proofs.record.derived_control.Goals.{then-able-ne0, else-able-ne0, then-half, else-half}

pub returns : goal.returns
unfolding derived_control
returns c =
    let status = c.args.able.status in
    let negotiates : c.if-able-ne0.negotiation ≡ bit 3 status * 2 ^ 12 =
    elim c.if-able-ne0.branch [
      | then-able-ne0 w ↦ omega (arith, w.if-able-ne0.true, w.negotiation-is, and-bit 3 status, bit-lt 3 status)
      | else-able-ne0 w ↦ omega (arith, w.if-able-ne0.false, w.negotiation-is, and-bit 3 status)
    ] in
    let duplex : c.if-half.duplex ≡ cond (able_half status c.args.able.extended) 0 (2 ^ 8) =
    elim c.if-half.branch [
      | then-half w ↦ rw (w.duplex-is, ← c.half.ensures, w.if-half.true)
      | else-half w ↦ rw (w.duplex-is, ← c.half.ensures, w.if-half.false)
    ] in
    rw (c.fastest.ensures, ← negotiates, ← duplex) (omega arith)
