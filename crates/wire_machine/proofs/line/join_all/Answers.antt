-- Place by place: after i turns the first i PHYs have their lines again.
use mathlib.Core.Path.{◌≡◌, refl, sym, ap, ◌∙◌}
use native.Mathlib.Omega.{arith}
use lib.ListN.{length, get_or, drop, length-append, length-drop}
use Rattle.verdict.proofs.Lists.{length-tabulate}
use borrow.Author.Rules.{rules}
use Rattle.verdict.specs.Output.{tabulate}
use Rattle.phy.specs.Sound.{nowhere}
use Rattle.wire_machine.specs.Lines.{no_line, onto}
use Rattle.wire_machine.specs.Common.{stands, standing}
use Rattle.between.proofs.Filling.{map_at}
use Rattle.wire_machine.proofs.Turns.{rejoined, join-next, join-end}
use Rattle.wire_machine.proofs.line.join_all.Goals as goal

pub loop-i-init : goal.loop-i-init
unfolding tabulate
loop-i-init c = (refl, refl)

pub loop-i-preserved : goal.loop-i-preserved
loop-i-preserved c =
    let loop = c.loop-i in
    let now-long : length loop.board.phys ≡ 32 = search rules in
    let places : length c.args.board.now.phys ≡ 32 = omega (arith, now-long, ap length loop.invariant.1, length-append (tabulate loop.i (rejoined (standing c.args.common c.args.lines.now) c.args.board.now)) (drop loop.i c.args.board.now.phys), length-tabulate loop.i (rejoined (standing c.args.common c.args.lines.now) c.args.board.now), length-drop loop.i c.args.board.now.phys) in
    let common = c.args.common in
    let here = c.stands.ensures ∙ sym (map_at (stands common) c.args.lines.now loop.i no_line no_line (search rules)) in
    (loop.invariant.0, join-next (standing common c.args.lines.now) c.args.board.now loop.board.phys loop.i _ (omega arith) loop.invariant.1 (c.onto.ensures ∙ ap (λ line. onto line (get_or loop.board.phys loop.i nowhere)) here))

pub returns : goal.returns
returns c =
    let loop = c.loop-i in
    join-end (standing c.args.common c.args.lines.now) c.args.board.now loop.board loop.i (omega arith) loop.invariant.0 loop.invariant.1
