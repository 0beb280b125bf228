-- The first line that has the address is found.
use mathlib.Core.Path.{◌∙◌}
use lib.Dec.{eqb}
use Rattle.std.proofs.Common.{rules, tests}
use Rattle.std.proofs.lemmas.Iterator.{YieldsList-from_slice}
use Rattle.std.proofs.lemmas.Iterator.Search.{position_from_yields_List}
use Rattle.wire_machine.proofs.Lines.{place-found}
use Rattle.wire_machine.proofs.line.place_in.Goals as goal

pub returns : goal.returns
returns c =
    position_from_yields_List (λ line. eqb c.args.address line.own.address) _ _ _ c.position.ensures.ran (YieldsList-from_slice c.args.lines.now cc) (λ x b q k. search (rules, tests))
    ∙ place-found c.args.address c.args.lines.now
