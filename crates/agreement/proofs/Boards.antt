-- The PHYs of a sound board that hunts wait for a frame with nothing captured, and at most one answers a header.
use Prim.Native.Nat.{ℕ, ◌<◌}
use mathlib.Core.Path.{◌≡◌, refl, ap, sym, ◌∙◌}
use mathlib.Core.Bool.{Bool, true, false, not, ◌||◌}
use native.Mathlib.Omega.{arith}
use lib.Dec.{eqb}
use lib.ListN.{length, get_or, length-take}
use lib.Seq.{get_or-take}
use borrow.Author.Tests.{eqb-true, ne_eqb, not-true}
use Rattle.verdict.specs.Refusal.{Done}
use Rattle.verdict.specs.Lists.{All}
use Rattle.verdict.proofs.Elements.{all-places, all_both}
use Rattle.wire.specs.declared.Follower.TheVariants.{Hunting}
use Rattle.phy.specs.declared.Phy.{Phy}
use Rattle.phy.specs.Abilities.{one}
use Rattle.phy.specs.Record.{every}
use Rattle.phy.specs.Sound.{stands_outside, status_stands, in_own_read, phy_sound, nowhere}
use Rattle.phy.specs.Own.{takes}
use Rattle.phy.specs.Typed.{Typed, Steady, StatusFixed}
use Rattle.phy.specs.Clock.{phy_core}
use Rattle.phy.proofs.Every.{every-each}
use Rattle.phy.proofs.Clauses.{sound-clauses}
use Rattle.board.specs.declared.Board.{Board}
use Rattle.board.specs.Check.{place_at, checked}
use Rattle.board.specs.Typed.{TypedBoard}
use Rattle.board.proofs.Soundness.{Sound, check_sound, used-place, addresses-differ}
use Rattle.between.specs.Outcome.{phys_of}
use Rattle.agreement.specs.Follows.{Waits, OneAnswers}
use Rattle.agreement.specs.Phys.{phy_line}
use Rattle.agreement.specs.Demand3.{Hunts}
use Rattle.agreement.proofs.Phys.{phys-one}

-- a bit that no test lets off stands
stands_at : (off same : Bool) → (off || same) ≡ true → off ≡ false → same ≡ true
stands_at true same e none = absurd (let z : ◌≡◌ {A = ℕ} 0 1 = cc in omega arith)
stands_at false same e none = e

-- the bits that are let off, by a test over all 16
let-off : (i : ℕ) → i < 16 → (i ≡ 5 → ⊥) → (i ≡ 4 → ⊥) → (i ≡ 2 → ⊥) → (i ≡ 1 → ⊥) → one i 54 ≡ false
unfolding every
let-off i small a b c d =
    let test : ℕ → Bool = λ j. eqb j 5 || (eqb j 4 || (eqb j 2 || (eqb j 1 || not (one j 54)))) in
    not-true _ (rw (ne_eqb i 5 a, ne_eqb i 4 b, ne_eqb i 2 c, ne_eqb i 1 d) at (every-each test 16 refl i small))

status-fixed : (phy : Phy) → status_stands phy ≡ true → StatusFixed phy
unfolding stands_outside
status-fixed phy stands i small a b c d =
    eqb-true _ _ (stands_at (one i 54) _ (every-each _ 16 stands i small) (let-off i small a b c d))

-- a sound PHY rests on its words, and has nothing captured while it hunts
steady : (phy : Phy) → Typed phy → phy_sound phy ≡ true → Steady phy
steady phy typed sound =
    record { words = typed.words; fixed = status-fixed phy (sound-clauses phy sound).bank.status-stands }

empty : (phy : Phy) (ones : ℕ) → phy_sound phy ≡ true → phy.follower ≡ Hunting ones → phy.captured ≡ 0
unfolding in_own_read
empty phy ones sound hunts =
    let clause = (sound-clauses phy sound).captured-sound in
    let away : in_own_read phy.own phy.follower ≡ false = ap (in_own_read phy.own) hunts in
    eqb-true _ 0 (stands_at _ _ clause away)

module _ (board : Board) (n : ℕ) (passes : checked board ≡ Done n) where
  sound : Sound board
  sound = (check_sound board n passes).1

  place : (i : ℕ) → i < length (phys_of board) → get_or (phys_of board) i nowhere ≡ place_at board i
  place i h = get_or-take board.count board.phys i nowhere (omega (arith, length-take board.count board.phys))

  within : (i : ℕ) → i < length (phys_of board) → i < board.count
  within i h = omega (arith, length-take board.count board.phys)

  pub waiting : TypedBoard board → All Hunts (phys_of board) → All (Waits phy_line Steady) (phys_of board)
  waiting typed hunts =
      all_both (λ phy. Steady phy × (phy_sound phy ≡ true)) Hunts (Waits phy_line Steady) (phys_of board)
      (λ phy good h. record { good = good.0; ones = h.ones; hunts = h.hunting; empty = empty phy h.ones good.1 h.hunting })
      (all-places (λ phy. Steady phy × (phy_sound phy ≡ true)) (phys_of board) nowhere (λ i h.
      let here = (used-place board sound i (within i h)).1 in
      rw (place i h) (steady (place_at board i) (typed.each i (omega (arith, within i h, sound.at_most))) here, here)))
      hunts

  pub one-answers : (happens : ℕ → Phy → Phy) → OneAnswers (phy_core happens) (phys_of board)
  one-answers happens =
      phys-one happens (phys_of board) nowhere (λ i j before h address one other. addresses-differ board sound i j before (within j h) address
      (ap (λ (phy : Phy). takes address phy.own) (sym (place i (omega arith))) ∙ one)
      (ap (λ (phy : Phy). takes address phy.own) (sym (place j h)) ∙ other))
