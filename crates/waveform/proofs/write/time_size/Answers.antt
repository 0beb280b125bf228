-- The digits stand between two characters.
use mathlib.Core.Path.{ap, sym, ◌∙◌}
use Prim.Native.Nat.{◌+◌}
use Rattle.waveform.proofs.Texts.{length-time}
use Rattle.waveform.proofs.write.time_size.Goals as goal

pub returns : goal.returns
returns c = ap (λ n. 2 + n) c.places.ensures ∙ sym (length-time c.args.number)
