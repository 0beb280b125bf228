-- Word by word: after r turns the first r words stand.
use mathlib.Core.Path.{◌≡◌}
use Prim.Native.Nat.{◌+◌, ◌*◌}
use Rattle.verdict.specs.File.{word_at}
use Rattle.verdict.proofs.Outputs.{filled}
use Rattle.board.proofs.file.words_at.Given as goal

abbrev pub invariant-loop-r : goal.invariant-loop-r
invariant-loop-r l = l.word-items ≡ filled (λ r. word_at l.file (l.start + r * 2)) l.initial.word-items l.r
