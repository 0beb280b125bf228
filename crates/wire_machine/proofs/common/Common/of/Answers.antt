-- Every line's follower is held against the first one's.
use Rattle.std.proofs.Common.{◌≡◌, sym, ◌∙◌, rules, tests}
use Rattle.std.specs.List.{list_all}
use Rattle.std.proofs.lemmas.Iterator.{YieldsList-from_slice}
use Rattle.std.proofs.lemmas.Iterator.Search.{all_from_yields_List}
use Rattle.wire_machine.specs.Common.{same_follower}
use Rattle.wire_machine.proofs.Alike.{common-is}
use Rattle.wire_machine.proofs.common.Common.of.Goals as goal
use Rattle.wire_machine.proofs.common.Common.of.Goals.{After-all}

-- the test of all lines
tested : (c : After-all) → c.all.result ≡ list_all (λ line. same_follower line.follower c.in-Some.first.now.follower) c.args.lines.now
tested c = all_from_yields_List (λ line. same_follower line.follower c.in-Some.first.now.follower) _ _ _ c.all.ensures.ran (YieldsList-from_slice c.args.lines.now cc) (λ x b q k. search (rules, tests))

pub returns-then-all : goal.returns-then-all
returns-then-all c =
    common-is c.args.lines.now c.in-Some.first.now _ c.in-Some.ensures.value (sym c.if-all.true ∙ tested (goal.at.returns-then-all c).After-all)

pub returns-else-all : goal.returns-else-all
returns-else-all c =
    common-is c.args.lines.now c.in-Some.first.now _ c.in-Some.ensures.value (sym c.if-all.false ∙ tested (goal.at.returns-else-all c).After-all)
