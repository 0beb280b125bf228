-- Registers are 0 to 31: what is implemented is one of them.
use Prim.Native.Nat.{ℕ, ◌<◌}
use mathlib.Core.Path.{◌≡◌}
use mathlib.Core.Bool.{true}
use lib.Dec.{ltb}
use borrow.Author.Tests.{ltb-true}
use Rattle.phy.specs.declared.own.Own.{Own}
use Rattle.phy.specs.Abilities.{one}
use Rattle.phy.specs.Own.{implements}
use Rattle.phy.proofs.Every.{both}

pub implemented_below : (r : ℕ) (own : Own) → implements r own ≡ true → r < 32
unfolding implements
implemented_below r own h = ltb-true r 32 (both (ltb r 32) (one r own.implemented) h).0
