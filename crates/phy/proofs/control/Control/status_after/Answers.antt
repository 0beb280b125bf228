-- 1.5 clears where bit 12 stays zero or 9 is written one.
use borrow.Author.Rules.{rules}
use mathlib.Core.Path.{◌≡◌}
use mathlib.Core.Bool.{or-true}
use native.Mathlib.Omega.{arith}
use borrow.Author.Tests.{eq-eqb, ne_eqb}
use Rattle.phy.specs.Control.{new_bit12, new_status}
use Rattle.phy.proofs.Words.{clear-rest, one-true, one-false}
use Rattle.phy.proofs.control.Control.status_after.Goals as goal
use Rattle.phy.proofs.control.Control.status_after.Goals.{else-enabled-via-then-enabled+else-not-restarted, else-enabled-via-else-enabled}

pub returns-then-not-restarted : goal.returns-then-not-restarted
unfolding new_status
returns-then-not-restarted c =
    let on : new_bit12 c.args.able.status c.args.word ≡ 0 → ⊥ = omega arith in
    rw (ne_eqb _ 0 on, one-false 9 _ c.if-not-restarted.true)

pub returns-else-enabled : goal.returns-else-enabled
unfolding new_status
returns-else-enabled c =
    let status = c.args.able.status in
    let drops = clear-rest 5 status (omega arith) (search rules) in
    elim c.else-enabled.branch [
      | else-enabled-via-then-enabled+else-not-restarted w ↦ rw (one-true 9 _ w.if-not-restarted.false, or-true) drops
      | else-enabled-via-else-enabled w ↦
          let off : new_bit12 status c.args.word ≡ 0 = omega (arith, w.if-enabled.false) in
          rw (eq-eqb _ 0 off) drops
    ]
