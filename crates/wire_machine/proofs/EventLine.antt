-- An event leaves a PHY's line: it touches registers and link alone, and leaves 1.6.
use Prim.Native.Nat.{ℕ}
use mathlib.Core.Path.{◌≡◌}
use Rattle.phy.specs.declared.Phy.{Phy}
use Rattle.phy.specs.Events.{event}
use Rattle.phy.proofs.Effects.{event-effect, event-gently}
use Rattle.phy.proofs.Keeping.{keeps-own, keeps-follower, keeps-captured}
use Rattle.wire_machine.specs.Lines.{line_of}

pub event-line : (code : ℕ) (phy : Phy) → line_of (event code phy) ≡ line_of phy
event-line code phy =
    let effect = event-effect code in
    let same = (event-gently code).suffices phy in
    λ j. record {
      own = keeps-own effect phy j;
      enough = same j;
      follower = keeps-follower effect phy j;
      captured = keeps-captured effect phy j;
    }
