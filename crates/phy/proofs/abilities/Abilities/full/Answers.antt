-- A mask is not zero exactly if one of its bits is, and either word may say it.
use mathlib.Core.Path.{sym, ◌∙◌}
use mathlib.Core.List.{[], ◌∷◌}
use mathlib.Core.Bool.{or-false}
use borrow.Author.Tests.{ne_eqb}
use Rattle.phy.proofs.Words.{has-first, has-rest, has-these}
use Rattle.phy.proofs.abilities.Abilities.full.Goals as goal

pub returns-then-self-ne0 : goal.returns-then-self-ne0
returns-then-self-ne0 c = rw (ne_eqb _ 0 c.if-self-ne0.true) (sym (has-first (14 ∷ 12 ∷ 10 ∷ []) c.args.self.status _ tt c.if-self-ne0.true))

pub returns-else-self-ne0 : goal.returns-else-self-ne0
returns-else-self-ne0 c =
    has-these (15 ∷ 13 ∷ []) c.args.self.extended tt ∙ (simp or-false)
    ∙ sym (has-rest (14 ∷ 12 ∷ 10 ∷ []) c.args.self.status _ tt c.if-self-ne0.false)
