-- One address more each turn.
use mathlib.Core.Path.{◌≡◌}
use lib.ListN.{get_or}
use Rattle.board.specs.Record.{taken_by}
use Rattle.board.proofs.events.table_of.Given as goal

abbrev pub invariant-loop-address : goal.invariant-loop-address
invariant-loop-address l = l.there ≡ taken_by (λ i. get_or l.addresses i 0) l.address-index
