-- Each test is its clause of `is_blank`.
use Rattle.std.proofs.Common.{◌≡◌, refl, rules}
use mathlib.Core.Bool.{and_assoc}
use Rattle.wire.specs.declared.Follower.{Follower}
use Rattle.wire.specs.declared.Follower.TheVariants.{Hunting, Inside}
use Rattle.wire.specs.contracts.FollowerPartialEq.TheImpl as follower
use Rattle.phy.specs.Sound.{hunts_fresh, is_blank}
use Rattle.board.proofs.Registers.{all_zero}
use Rattle.board.proofs.sound.is_blank.Goals as goal

fresh_found : (f : Follower) → follower.ghosts.eq f (Hunting 0) ≡ hunts_fresh f
fresh_found (Hunting ones) = refl
fresh_found (Inside seen bits) = refl

pub returns : goal.returns
unfolding is_blank
returns c =
    let phy = c.args.phy in
    rw (
      ← all_zero phy.defaults (search rules),
      ← all_zero phy.masks (search rules),
      ← all_zero phy.registers (search rules),
      ← fresh_found phy.follower,
      c.eq.ensures,
      c.eq-2.ensures,
      c.eq-3.ensures,
      c.eq-4.ensures,
      c.eq-5.ensures,
    )
    (simp and_assoc)
