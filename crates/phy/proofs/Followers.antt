-- The PHY's follower is the wire's: it goes by the levels alone.
use Prim.Native.Nat.{ℕ, ◌/◌, ◌%◌, ◌^◌}
use mathlib.Core.Path.{◌≡◌, refl, ap₂}
use mathlib.Core.Bool.{Bool}
use Rattle.wire.specs.Follower.{follow, header_of}
use Rattle.phy.specs.declared.Phy.{Phy}
use Rattle.phy.specs.Clock.{enough, at_frame, acts, clock}

pub clock-follows : (level : Bool) (phy : Phy) → (clock level phy).follower ≡ follow (enough phy) level phy.follower
unfolding clock
clock-follows level phy = refl

-- "Turnaround bits of a write are not examined": frames with the same header and data do the same at their last bit
pub turnaround-free : (a b : ℕ) (phy : Phy) → a / 2 ^ 18 ≡ b / 2 ^ 18 → a % 2 ^ 16 ≡ b % 2 ^ 16 → acts 31 a phy ≡ acts 31 b phy
unfolding acts
turnaround-free a b phy header rest = ap₂ (λ (h d : ℕ). at_frame (header_of h) d phy) header rest
