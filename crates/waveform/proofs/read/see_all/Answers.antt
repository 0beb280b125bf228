-- One signal behind the other.
use mathlib.Core.Path.{◌≡◌}
use mathlib.Core.Bool.{Bool}
use mathlib.Core.List.{List}
use Prim.Native.Nat.{ℕ}
use Rattle.waveform.specs.declared.signals.Signals.{Signals}
use Rattle.waveform.specs.declared.signals.Signal.TheVariants.{Level, Enable, Contention}
use Rattle.waveform.specs.Passes.{Seen, seen_in, Shown, shown_in}
use Rattle.waveform.proofs.read.see_all.Goals as goal

-- three that are seen in turn are what the clock shows
three : (text : List ℕ) (old : Signals) (first : Bool) (l e c : Seen Bool) →
    l ≡ seen_in text Level old.level first → e ≡ seen_in l.rest Enable old.enable first → c ≡ seen_in e.rest Contention old.contention first →
    ◌≡◌ {A = Shown} (record { value = record { level = l.value; enable = e.value; contention = c.value }; rest = c.rest }) (shown_in text old first)
unfolding shown_in
three text old first l e c level enable contention = rw (← level, ← enable, ← contention)

pub returns : goal.returns
returns c = three c.args.text.now c.args.old c.args.first _ _ _ c.see-level.ensures c.see-enable.ensures c.see-contention.ensures
