-- Each flag is 0 or its value.
use Prim.Native.Nat.{◌≤◌}
use mathlib.Core.Path.{◌≡◌, refl}
use mathlib.Core.Bool.{Bool, true, false}
use native.Mathlib.Omega.{arith}
use mir.Val.{bool_byte}
use Rattle.wire.specs.Wire.{as_bit}
use Rattle.wire.proofs.Levels.{bit-small}
use Rattle.waveform.specs.Signals.{flags_of}
use Rattle.waveform.proofs.signals.U8FromSignals.from.Goals as goal

-- a bool as a number
as-bit : (b : Bool) → (bool_byte b ≡ as_bit b) × (as_bit b ≤ 1)
as-bit true = (refl, bit-small true)
as-bit false = (refl, bit-small false)

pub returns : goal.returns
unfolding flags_of
returns c =
    let signals = c.args.signals in
    omega (arith, as-bit signals.level, as-bit signals.enable, as-bit signals.contention)
