-- The header is the frame without its last 18 bits.
use Rattle.listener.specs.Records.{transaction_in}
use Rattle.listener.proofs.transaction_in.Goals as goal

pub returns : goal.returns
unfolding transaction_in
returns c = rw c.from-header.ensures
