-- Each test is its clause of `words_right`.
use Prim.Native.Nat.{◌≤◌}
use mathlib.Core.Bool.{and-true, and_assoc, or_assoc}
use mathlib.Core.List.{[], ◌∷◌}
use native.Mathlib.Omega.{arith}
use lib.Bits.{and_mask}
use Rattle.phy.proofs.Derived.{derived-most}
use Rattle.phy.proofs.Words.{bit-lt, and-bit, has-none}
use Rattle.phy.specs.Record.{words_right}
use Rattle.board.proofs.record.words_right.Goals as goal

pub overflow_add-derived : goal.overflow_add-derived
overflow_add-derived c =
    let derived : c.derived_control.result ≤ 12544 = rw c.derived_control.ensures (derived-most c.args.able.status c.args.able.extended) in
    omega (arith, and-bit 10 c.args.control, bit-lt 10 c.args.control)

pub returns : goal.returns
unfolding words_right
returns c =
    rw (
      c.derived_control.ensures,
      c.ten.ensures,
      c.hundred.ensures,
      c.thousand.ensures,
      has-none (5 ∷ 4 ∷ 2 ∷ 1 ∷ []) _ tt,
      and_mask _ 12,
      and-bit 10,
    )
    (simp (and-true, and_assoc, or_assoc))
