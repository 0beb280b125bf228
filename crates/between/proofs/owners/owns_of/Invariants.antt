-- Place by place: after i turns the first i stand.
use mathlib.Core.Path.{◌≡◌}
use lib.ListN.{get_or}
use Rattle.verdict.proofs.Outputs.{filled}
use Rattle.phy.specs.Sound.{nowhere}
use Rattle.between.proofs.owners.owns_of.Given as goal

abbrev pub invariant-loop-i : goal.invariant-loop-i
invariant-loop-i l = l.owns ≡ filled (λ k. (get_or l.board.phys k nowhere).own) l.initial.owns l.i
