-- A turn of a loop that gathers its tests of the numbers below k: the test of k is one more.
use Prim.Native.Nat.{ℕ, zero, suc, ◌+◌}
use mathlib.Core.Bool.{Bool, false, ◌&&◌, ◌||◌, or_comm}
use mathlib.Core.Path.{◌≡◌, refl, ap, ◌∙◌}
use native.Mathlib.Numerals.{add-one}
use Rattle.phy.specs.Record.{every, any}

module _ (test : ℕ → Bool) where
  pub every-turn : (k : ℕ) {all here : Bool} → all ≡ every k test → here ≡ test k → all && here ≡ every (k + 1) test
  unfolding every
  every-turn k so_far now = rw (so_far, now, add-one)

  pub any-turn : (k : ℕ) → any (k + 1) test ≡ any k test || test k
  unfolding any
  any-turn k = rw add-one

  -- the same tests, the highest number first
  abbrev pub any_down : ℕ → Bool
  any_down zero = false
  any_down (suc n) = test n || any_down n

  pub any-down : (n : ℕ) → any n test ≡ any_down n
  unfolding any
  any-down zero = refl
  any-down (suc n) = or_comm (any n test) (test n) ∙ ap (λ b. test n || b) (any-down n)
