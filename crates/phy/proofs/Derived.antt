-- The derived default of register 0: speed, bit 12 and bit 8 have bits of their own, so their sum fits a word.
use Prim.Native.Nat.{ℕ, ◌+◌, ◌≤◌, ◌^◌}
use mathlib.Core.Bool.{Bool, true, false, cond}
use native.Mathlib.Omega.{arith}
use Rattle.phy.specs.Abilities.{able100, able1000, able_half}
use Rattle.phy.specs.Record.{fastest, derived_control}

cond-most : (b : Bool) (x y n : ℕ) → x ≤ n → y ≤ n → cond b x y ≤ n
cond-most true x y n hx hy = hx
cond-most false x y n hx hy = hy

pub fastest-most : (status extended : ℕ) → fastest status extended ≤ 2 ^ 13
fastest-most status extended =
    cond-most (able1000 status extended) _ _ _ (omega arith) (cond-most (able100 status extended) _ _ _ (omega arith) (omega arith))

pub derived-most : (status extended : ℕ) → derived_control status extended ≤ 2 ^ 13 + 2 ^ 12 + 2 ^ 8
unfolding derived_control
derived-most status extended =
    let speed = fastest-most status extended in
    let duplex = cond-most (able_half status extended) 0 (2 ^ 8) (2 ^ 8) (omega arith) (omega arith) in
    omega arith
