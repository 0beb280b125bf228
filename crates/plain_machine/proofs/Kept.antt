-- The plain machine is one effect on each PHY: so followers stay as they were, as do all but registers and link, and words stay words.
use Prim.Native.Nat.{ℕ}
use mathlib.Core.Path.{◌≡◌}
use mathlib.Core.List.{List, map}
use Rattle.verdict.specs.Lists.{All}
use Rattle.phy.specs.Typed.{Typed}
use Rattle.phy.proofs.Effects.{Effect, after_header-effect, after_frame-effect}
use Rattle.phy.proofs.Keeping.{keeps-follower, keeps-captured, keeps_typed}
use Rattle.board.specs.declared.Board.{Board}
use Rattle.between.specs.Outcome.{phys_of}
use Rattle.plain_machine.specs.Plain.{phys_after_plain}
use Rattle.between.proofs.EachPlace.{Each, each-as, each-leaves, each_keeps}
use Rattle.plain_machine.proofs.PlainEach.{plain-changes}
use Rattle.between.proofs.HappensEffect.{effects-closed, happens-effect}

module _ (board : Board) (list events : List ℕ) where
  -- what the plain machine leaves of a board is one effect on each of its PHYs
  pub plain-effect : Each Effect (phys_of board) (phys_after_plain board list events)
  plain-effect = plain-changes effects-closed events (happens-effect events) after_header-effect after_frame-effect board list

  -- "followers as they were", and the captured words with them
  pub plain-followers : map (λ phy. phy.follower) (phys_after_plain board list events) ≡ map (λ phy. phy.follower) (phys_of board)
  plain-followers = each-leaves (λ phy. phy.follower) (each-as (λ f e. keeps-follower e) plain-effect)

  pub plain-captured : map (λ phy. phy.captured) (phys_after_plain board list events) ≡ map (λ phy. phy.captured) (phys_of board)
  plain-captured = each-leaves (λ phy. phy.captured) (each-as (λ f e. keeps-captured e) plain-effect)

  -- every field stays within its type
  pub plain-typed : All Typed (phys_of board) → All Typed (phys_after_plain board list events)
  plain-typed = each_keeps Typed (each-as (λ f e. keeps_typed e) plain-effect)
