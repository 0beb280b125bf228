-- The clocks are read into a room, or the text is found not to be ours; only then their flags are copied to the output.
use mathlib.Core.Path.{◌≡◌, refl, ap}
use mathlib.Core.List.{◌++◌}
use lib.ListN.{drop}
use borrow.Author.Rules.{rules}
use Rattle.std.specs.Prelude.{Err}
use Rattle.waveform.proofs.ReadBack.{not_ours, no_room_lem, reads as read_all}
use Rattle.waveform.proofs.read.read_vcd.Goals as goal

pub returns-in_err-count : goal.returns-in_err-count
returns-in_err-count c =
    let refused : c.from_residual.result ≡ Err c.in_err-count.field-0.0 = search rules in
    rw refused (not_ours (rw c.in_err-count.was at c.read_clocks.ensures) c.args.flags.now refl)

pub returns-then-flags-count : goal.returns-then-flags-count
returns-then-flags-count c = rw c.at.ensures (no_room_lem c.in_ok-count.ensures refl c.args.flags.now c.if-flags-count.true)

pub returns : goal.returns
returns c =
    read_all c.in_ok-count.ensures refl c.args.flags.now c.if-flags-count.false _
    (ap (λ front. front ++ drop c.in_ok-count.count c.args.flags.now) c.copy_from_slice.ensures.after)
