-- The word grows by a level a turn.
use Prim.Native.Nat.{◌+◌, ◌*◌, ◌≤◌, ◌<◌, ◌^◌}
use mathlib.Core.Path.{◌≡◌, refl, sym}
use native.Mathlib.Omega.{arith}
use native.Mathlib.Numerals.{add-one}
use native.Mathlib.Nat.{pow-suc, mod-lt}
use lib.Pow.{pow_mono}
use Rattle.verdict.specs.Bits.{shift_in}
use Rattle.verdict.specs.Output.{tabulate}
use Rattle.verdict.proofs.Bits.{value-more}
use Rattle.frame.specs.Log.{level_at, levels}
use Rattle.frame.proofs.answer.word_in.Goals as goal

pub loop-i-init : goal.loop-i-init
unfolding tabulate shift_in
loop-i-init c = (refl, omega arith)

pub overflow_add-word : goal.overflow_add-word
unfolding level_at
overflow_add-word c =
    let most : 2 ^ c.loop-i.i ≤ 2 ^ 15 = pow_mono {j = 15} (omega arith) in
    let one_bit : c.level.result < 2 = rw c.level.ensures (mod-lt _ (omega arith)) in
    omega arith

pub loop-i-preserved : goal.loop-i-preserved
unfolding tabulate level_at
loop-i-preserved c =
    let i = c.loop-i.i in
    let part = c.args.part.now in
    let one_bit : c.level.result < 2 = rw c.level.ensures (mod-lt _ (omega arith)) in
    let power : 2 ^ (i + 1) ≡ 2 ^ i * 2 = rw (add-one, pow-suc) in (
      rw (c.level.ensures, c.loop-i.invariant.0, add-one) (sym (value-more 0 (levels part 49 i) (level_at part (49 + i)))),
      omega (arith, power),
    )
