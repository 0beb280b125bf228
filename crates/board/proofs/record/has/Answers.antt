-- The mask has the register's bit.
use Prim.Native.Nat.{ℕ, ◌*◌, ◌%◌, ◌^◌, ◌<◌}
use mathlib.Core.Bool.{not}
use mathlib.Core.Path.{◌≡◌, ap, ◌∙◌}
use native.Mathlib.Nat.{one-mul, mod-eq_of_lt}
use lib.Bits.{bit_and}
use lib.Pow.{pow-lt}
use lib.Dec.{eqb}
use Rattle.phy.proofs.Words.{has-bit}
use Rattle.board.proofs.record.has.Goals as goal

-- `1 << register`
one_bit : (r : ℕ) → r < 32 → 1 * 2 ^ r % 4294967296 ≡ 2 ^ r
one_bit r within = rw one-mul (mod-eq_of_lt (pow-lt within))

pub returns : goal.returns
returns c =
    ap (λ mask. not (eqb (bit_and c.args.implemented mask) 0)) (one_bit c.args.register c.requires)
    ∙ has-bit c.args.register c.args.implemented
