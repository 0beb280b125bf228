-- A mask is not zero exactly if one of its bits is.
use mathlib.Core.Path.{◌∙◌}
use mathlib.Core.List.{[], ◌∷◌}
use mathlib.Core.Bool.{or-false}
use Rattle.phy.proofs.Words.{has-these}
use Rattle.phy.proofs.abilities.Abilities.ten.Goals as goal

pub returns : goal.returns
returns c = has-these (12 ∷ 11 ∷ []) c.args.self.status tt ∙ simp or-false
