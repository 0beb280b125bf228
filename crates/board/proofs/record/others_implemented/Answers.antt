-- The mask has the bits of the other registers, and no more.
use mathlib.Core.List.{List, [], ◌∷◌}
use mathlib.Core.Path.{sym, ◌∙◌}
use Prim.Native.Nat.{ℕ}
use Rattle.phy.specs.Record.{others_implemented}
use Rattle.phy.proofs.Words.{has-these}
use Rattle.board.proofs.Turns.{any-down}
use Rattle.board.proofs.record.others_implemented.Goals as goal

others : List ℕ
others =
    31 ∷ 30 ∷ 29 ∷ 28 ∷ 27 ∷ 26 ∷ 25 ∷ 24 ∷ 23 ∷ 22 ∷ 21 ∷ 20 ∷ 19 ∷ 18 ∷ 17 ∷ 16
    ∷ 12 ∷ 11 ∷ 10 ∷ 9 ∷ 8 ∷ 7 ∷ 6 ∷ 5 ∷ 4 ∷ 3 ∷ 2 ∷ []

pub returns : goal.returns
unfolding others_implemented others
returns c = has-these others c.args.implemented tt ∙ sym (any-down _ 32)
