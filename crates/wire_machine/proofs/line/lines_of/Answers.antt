-- The closure makes each place's line of its PHY.
use Rattle.std.proofs.Common.{◌≡◌, sym, ◌∙◌, length, get_or, rules, tests, arith}
use Rattle.phy.specs.Sound.{nowhere}
use Rattle.wire_machine.specs.Lines.{line_of, no_line}
use Rattle.wire_machine.proofs.Made.{made_at, made-of}
use Rattle.wire_machine.proofs.line.lines_of.Goals as goal

pub returns : goal.returns
returns c =
    let phys = c.args.board.now.phys in
    let places : length phys ≡ 32 = search rules in
    made-of line_of phys c.from_fn.result nowhere no_line (c.from_fn.ensures.items.long ∙ sym places) (λ i l. made_at c.from_fn.result (λ i. line_of (get_or phys i nowhere)) (λ i y q k. search (rules, tests)) c.from_fn.ensures.items i no_line (omega arith))
