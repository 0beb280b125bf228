-- The fixed bytes are those of the text.
use borrow.Author.Rules.{rules}
use Rattle.waveform.specs.Waveform.{header}
use Rattle.waveform.proofs.lines.header.Goals as goal

pub returns : goal.returns
unfolding header
returns c = search rules
