-- The library's search finds the first that has the address, and so does the definition.
use mathlib.Core.Path.{◌∙◌}
use Rattle.std.proofs.Common.{rules, tests}
use Rattle.std.proofs.lemmas.Iterator.{YieldsList-from_slice}
use Rattle.std.proofs.lemmas.Iterator.Search.{position_from_yields_List}
use Rattle.between.proofs.Finding.{first-position}
use Rattle.between.proofs.owners.place_of.Goals as goal

pub returns : goal.returns
returns c =
    position_from_yields_List _ _ _ _ c.position.ensures.ran (YieldsList-from_slice c.args.owns.now cc) (λ x b q k. search (rules, tests))
    ∙ first-position _ c.args.owns.now
