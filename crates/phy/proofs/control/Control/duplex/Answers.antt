-- Where both duplexes or none are able the bit is as written.
use borrow.Author.Rules.{rules}
use mathlib.Core.Path.{◌≡◌}
use Rattle.phy.specs.Control.{new_bit8}
use Rattle.phy.proofs.NewBits.{duplex-stored}
use Rattle.phy.proofs.Words.{and-bit}
use Rattle.phy.proofs.control.Control.duplex.Goals as goal
use Rattle.phy.proofs.control.Control.duplex.Goals.{in_default-via-then-full+then-half, in_default-via-else-full+else-this}

pub returns-in_default : goal.returns-in_default
unfolding new_bit8
returns-in_default c =
    let same : c.full.result ≡ c.half.result = elim c.in_default.branch [ in_default-via-then-full+then-half w ↦ search rules | in_default-via-else-full+else-this w ↦ search rules ] in
    rw (← c.full.ensures, ← c.half.ensures, duplex-stored _ _ _ same) (and-bit 8 _)
