-- Place by place: after i turns the first i addresses stand.
use mathlib.Core.Path.{◌≡◌}
use lib.ListN.{get_or}
use Rattle.verdict.proofs.Outputs.{filled}
use Rattle.phy.specs.Sound.{nowhere}
use Rattle.board.proofs.events.addresses_of.Given as goal

abbrev pub invariant-loop-i : goal.invariant-loop-i
invariant-loop-i l = l.address-items ≡ filled (λ k. (get_or l.board.phys k nowhere).own.address) l.initial.address-items l.i
