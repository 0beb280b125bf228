-- Word by word: after r turns the first r words stand.
use Rattle.verdict.proofs.Outputs.{fill}
use borrow.Author.Rules.{rules}
use Rattle.board.proofs.file.words_at.Goals as goal

pub loop-r-preserved : goal.loop-r-preserved
loop-r-preserved c =
    let loop = c.loop-r in
    fill _ _ loop.word-items loop.r _ (search rules) loop.invariant (search rules)
