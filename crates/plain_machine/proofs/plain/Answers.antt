-- Nothing is refused where the checks pass.
use mathlib.Core.Path.{refl, sym, ◌∙◌}
use Rattle.plain_machine.proofs.Accepts.{planned-passed}
use Rattle.plain_machine.proofs.plain.Goals as goal

pub transact_all-requires : goal.transact_all-requires
transact_all-requires c =
    planned-passed _ _ _ _ c.check_plan-verdict.result (sym c.is_ok.ensures.value ∙ c.if-is_ok.true) (c.check_plan-verdict.ensures c.args.answers.now refl)
