-- Place by place: after i turns the first i stand.
use mathlib.Core.Path.{◌≡◌, refl, ◌∙◌}
use native.Mathlib.Omega.{arith}
use lib.ListN.{length, get_or, replicate}
use borrow.Author.Rules.{rules}
use Rattle.verdict.specs.Output.{tabulate}
use Rattle.verdict.proofs.Outputs.{fill}
use Rattle.phy.specs.declared.Phy.{Phy}
use Rattle.phy.specs.Sound.{nowhere}
use Rattle.between.proofs.Filling.{filled-map}
use Rattle.between.proofs.owners.owns_of.Goals as goal

pub loop-i-init : goal.loop-i-init
unfolding tabulate
loop-i-init c = refl

pub loop-i-preserved : goal.loop-i-preserved
loop-i-preserved c =
    let loop = c.loop-i in
    fill _ _ loop.owns loop.i _ (omega arith) loop.invariant refl

pub returns : goal.returns
returns c =
    let phys = c.args.board.phys in
    let loop = c.loop-i in
    let places : length phys ≡ 32 = search rules in
    let all : loop.i ≡ 32 = omega (arith, loop.auto.i-end, c.loop-i-test.false) in
    loop.invariant ∙ rw all (filled-map (λ (phy : Phy). phy.own) phys nowhere (replicate 32 (get_or phys 0 nowhere).own) 32 places refl)
