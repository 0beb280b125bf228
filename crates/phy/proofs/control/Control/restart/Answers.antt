-- Where the new bit 12 is one the word decides, then the old bit.
use mathlib.Core.Path.{◌≡◌}
use native.Mathlib.Omega.{arith}
use borrow.Author.Tests.{ne_eqb}
use Rattle.phy.specs.Control.{new_bit9, new_bit12}
use Rattle.phy.proofs.Words.{and-bit, one-true, one-false}
use Rattle.phy.proofs.control.Control.restart.Goals as goal

pub returns-then-word-ne0 : goal.returns-then-word-ne0
unfolding new_bit9
returns-then-word-ne0 c =
    let on : new_bit12 c.args.able.status c.args.word ≡ 0 → ⊥ = omega arith in
    rw (ne_eqb _ 0 on, one-true 9 _ c.if-word-ne0.true)

pub returns-else-word-ne0 : goal.returns-else-word-ne0
unfolding new_bit9
returns-else-word-ne0 c =
    let on : new_bit12 c.args.able.status c.args.word ≡ 0 → ⊥ = omega arith in
    rw (ne_eqb _ 0 on, one-false 9 _ c.if-word-ne0.false) (and-bit 9 _)
