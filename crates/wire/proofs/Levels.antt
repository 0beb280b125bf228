-- A level as a bit: it is at most 1, it says its level again, and three of them as flags stay apart.
use Prim.Native.Nat.{◌+◌, ◌*◌, ◌≤◌}
use mathlib.Core.Path.{◌≡◌, refl}
use mathlib.Core.Bool.{Bool, true, false}
use native.Mathlib.Omega.{arith}
use lib.Dec.{eqb}
use Rattle.verdict.specs.Bits.{bit}
use Rattle.wire.specs.Wire.{as_bit}

pub bit-small : (level : Bool) → as_bit level ≤ 1
bit-small true = omega arith
bit-small false = omega arith

-- a bit is a level again
pub bit-level : (level : Bool) → eqb (as_bit level) 1 ≡ level
bit-level true = refl
bit-level false = refl

-- "flags (1 level, 2 station drives, 4 two or more parties drive)"
pub three-flags : (a b c : Bool) → (bit 0 (as_bit a * 1 + as_bit b * 2 + as_bit c * 4) ≡ as_bit a) × (bit 1 (as_bit a * 1 + as_bit b * 2 + as_bit c * 4) ≡ as_bit b) × (bit 2 (as_bit a * 1 + as_bit b * 2 + as_bit c * 4) ≡ as_bit c)
three-flags false false false = (refl, refl, refl)
three-flags false false true = (refl, refl, refl)
three-flags false true false = (refl, refl, refl)
three-flags false true true = (refl, refl, refl)
three-flags true false false = (refl, refl, refl)
three-flags true false true = (refl, refl, refl)
three-flags true true false = (refl, refl, refl)
three-flags true true true = (refl, refl, refl)
