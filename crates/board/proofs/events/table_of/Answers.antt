-- One address more each turn.
use Prim.Native.Nat.{ℕ}
use mathlib.Core.Bool.{true, false}
use mathlib.Core.Path.{◌≡◌, ap, ◌∙◌}
use native.Mathlib.Omega.{arith}
use lib.ListN.{length, get_or, set}
use borrow.Author.Rules.{rules}
use Rattle.board.proofs.Taken.{taken_at, taken_next}
use Rattle.board.proofs.events.table_of.Goals as goal

pub loop-address-preserved : goal.loop-address-preserved
loop-address-preserved c =
    let address : ℕ → ℕ = λ i. get_or c.args.addresses.now i 0 in
    let loop = c.loop-address in
    ap (λ table. set table (address loop.address-index) true) loop.invariant ∙ taken_next address loop.address-index (search rules)

pub returns : goal.returns
returns c a byte =
    let addresses = c.args.addresses.now in
    let all : c.loop-address.address-index ≡ length addresses = omega arith in
    ap (λ table. get_or table a false) (rw all at c.loop-address.invariant) ∙ taken_at (λ i. get_or addresses i 0) (length addresses) a byte
