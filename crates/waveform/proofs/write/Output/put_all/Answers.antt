-- The header, then clock by clock what is to come, then the closing time.
use mathlib.Core.Path.{◌≡◌, subst}
use mathlib.Core.List.{List, ◌++◌}
use native.Mathlib.Omega.{arith}
use Prim.Native.Nat.{ℕ}
use Rattle.verdict.specs.File.{records}
use Rattle.frame.specs.Frame.{log_record}
use Rattle.waveform.specs.declared.write.Output.{Output}
use Rattle.waveform.specs.Waveform.{header, waveform}
use Rattle.waveform.specs.Passes.{HasRoom, Puts}
use Rattle.waveform.proofs.Puts.{room-first, room-second, puts_both}
use Rattle.waveform.proofs.Writing.{to_come, behind-header, goes_first, room-here, goes_on, room-closing, goes-to-end}
use Rattle.waveform.proofs.write.Output.put_all.Goals as goal

-- the whole text has room, and so has what stands behind the header
module _ (log : List ℕ) (out : Output) (has_room : HasRoom out (waveform log)) where
  whole : HasRoom out (header ++ to_come log 0)
  whole = subst (HasRoom out) (behind-header log) has_room

  module _ (line : List ℕ) (same : line ≡ header) (out₁ : Output) (put : Puts out line out₁) where
    puts-header : Puts out header out₁
    puts-header = subst (λ line. Puts out line out₁) same put

    room : HasRoom out₁ (to_come log 0)
    room = room-second header (to_come log 0) whole puts-header

pub put-requires : goal.put-requires
put-requires c = rw c.header.ensures (room-first c.args.self.now header (to_come c.args.log.now 0) (whole c.args.log.now c.args.self.now c.requires.has_room))

pub loop-i-init : goal.loop-i-init
loop-i-init c = goes_first c.args.log.now _

pub put_clock-requires : goal.put_clock-requires
put_clock-requires c =
    rw c.at.ensures
    (room-here _ _ (room c.args.log.now c.args.self.now c.requires.has_room _ c.header.ensures _ c.put.ensures) c.loop-i.invariant c.loop-i-test.true)

pub loop-i-preserved : goal.loop-i-preserved
loop-i-preserved c =
    goes_on _ _ (room c.args.log.now c.args.self.now c.requires.has_room _ c.header.ensures _ c.put.ensures) c.loop-i.invariant c.loop-i-test.true (rw c.at.ensures at c.put_clock.ensures)

pub put_time-requires : goal.put_time-requires
put_time-requires c =
    let end : c.loop-i.i ≡ records log_record c.args.log.now = omega (arith, c.loop-i.invariant.within, c.loop-i-test.false) in
    room-closing _ _ (room c.args.log.now c.args.self.now c.requires.has_room _ c.header.ensures _ c.put.ensures) c.loop-i.invariant end

pub returns : goal.returns
returns c =
    let log = c.args.log.now in
    let end : c.loop-i.i ≡ records log_record log = omega (arith, c.loop-i.invariant.within, c.loop-i-test.false) in
    rw (behind-header log)
    (puts_both header (to_come log 0) (whole log c.args.self.now c.requires.has_room) (puts-header log c.args.self.now c.requires.has_room _ c.header.ensures _ c.put.ensures)
    (goes-to-end _ _ (room log c.args.self.now c.requires.has_room _ c.header.ensures _ c.put.ensures) c.loop-i.invariant end c.put_time.ensures))
