-- Each flag is a bit.
use Prim.Native.Nat.{◌/◌, ◌%◌, ◌^◌}
use mathlib.Core.Path.{◌≡◌}
use native.Mathlib.Omega.{arith}
use Rattle.waveform.specs.Signals.{signals_of}
use Rattle.waveform.proofs.signals.SignalsFromU8.from.Goals as goal

pub returns : goal.returns
unfolding signals_of
returns c = let lowest : c.args.flags / 2 ^ 0 % 2 ≡ c.args.flags % 2 = omega arith in rw lowest
