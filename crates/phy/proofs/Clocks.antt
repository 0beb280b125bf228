-- A clock and what is driven in it, by where the follower stands.
use Prim.Native.Nat.{ℕ, ◌-◌, ◌≤◌, ◌<◌}
use mathlib.Core.Path.{◌≡◌, refl, sym, ap, ◌∙◌}
use mathlib.Core.Bool.{Bool, true, false, cond}
use native.Mathlib.Omega.{arith}
use lib.Dec.{leb}
use borrow.Author.Tests.{eq-eqb, ne_eqb, le-leb, lt-leb, leb-true, leb-false}
use Rattle.wire.specs.declared.Drive.TheVariants.{Released, Driven}
use Rattle.wire.specs.declared.Follower.{Follower}
use Rattle.wire.specs.declared.Follower.TheVariants.{Hunting, Inside}
use Rattle.wire.specs.Follower.{follow, header_seen, answering}
use Rattle.phy.specs.declared.own.Own.{Own}
use Rattle.phy.specs.declared.Phy.{Phy}
use Rattle.phy.specs.Abilities.{one}
use Rattle.phy.specs.Own.{answers, drives_in}
use Rattle.phy.specs.Fields.{with_follower}
use Rattle.phy.specs.Clock.{enough, drives, acts_in, clock}

pub clock-by : (level : Bool) (phy : Phy) (f : Follower) → phy.follower ≡ f
    → clock level phy ≡ with_follower (follow (enough phy) level phy.follower) (acts_in f level phy)
unfolding clock
clock-by level phy f e = ap (λ (g : Follower). with_follower (follow (enough phy) level phy.follower) (acts_in g level phy)) e

-- What is driven goes by whom frames are for, the captured word and the follower
module _ (own : Own) (captured : ℕ) (f : Follower) where
  -- hunting, nothing is driven
  pub drives-hunting : (ones : ℕ) → f ≡ Hunting ones → drives_in f captured own ≡ Released
  unfolding drives_in
  drives-hunting ones now = ap (λ (g : Follower). drives_in g captured own) now

  module _ (seen bits : ℕ) (now : f ≡ Inside seen bits) where
    inside : drives_in f captured own ≡ cond (answers (header_seen seen bits) own) (answering seen captured) Released
    unfolding drives_in
    inside = ap (λ (g : Follower). drives_in g captured own) now

    -- in a frame that is no own read of an implemented register nothing is driven
    pub drives-other : answers (header_seen seen bits) own ≡ false → drives_in f captured own ≡ Released
    drives-other e = inside ∙ ap (λ (t : Bool). cond t (answering seen captured) Released) e

    -- in an own read the answer is driven
    pub drives-own : answers (header_seen seen bits) own ≡ true → drives_in f captured own ≡ answering seen captured
    drives-own e = inside ∙ ap (λ (t : Bool). cond t (answering seen captured) Released) e

    nothing : answering seen captured ≡ Released → drives_in f captured own ≡ Released
    nothing e = go (answers (header_seen seen bits) own) refl
      where
        go : (t : Bool) → answers (header_seen seen bits) own ≡ t → drives_in f captured own ≡ Released
        go true read = drives-own read ∙ e
        go false other = drives-other other

    -- before bit 16 nothing is driven, "released for bit 15" too, nor past bit 32
    pub drives-early : seen < 15 → drives_in f captured own ≡ Released
    unfolding answering
    drives-early h = nothing (rw (ne_eqb seen 15 (omega arith), lt-leb 16 seen (omega arith)))

    pub drives-late : 31 < seen → drives_in f captured own ≡ Released
    unfolding answering
    drives-late h = nothing (rw (ne_eqb seen 15 (omega arith), le-leb 16 seen (omega arith), lt-leb seen 31 h))

    -- "drives 0 for bit 16, the word for bits 17 to 32"
    pub drives-zero : seen ≡ 15 → answers (header_seen seen bits) own ≡ true → drives_in f captured own ≡ Driven false
    unfolding answering
    drives-zero h read = drives-own read ∙ rw (eq-eqb seen 15 h)

    pub drives-word : 16 ≤ seen → seen ≤ 31 → answers (header_seen seen bits) own ≡ true → drives_in f captured own ≡ Driven (one (31 - seen) captured)
    unfolding answering
    drives-word h l read = drives-own read ∙ rw (ne_eqb seen 15 (omega arith), le-leb 16 seen h, le-leb seen 31 l)

-- in an own read of an implemented register, with at least so many bits seen
pub record OwnRead (least : ℕ) (phy : Phy) : Type 0 where
  pub seen : ℕ
  pub bits : ℕ
  pub now : phy.follower ≡ Inside seen bits
  pub own : answers (header_seen seen bits) phy.own ≡ true
  pub from : least ≤ seen
  pub upto : seen ≤ 31

released : {A : Type 0} (level : Bool) → Released ≡ Driven level → A
released level e = let z : ◌≡◌ {A = ℕ} 0 1 = cc in absurd (omega arith)

-- a PHY drives only in such a read, from bit 16 on
pub drives-only : (phy : Phy) (level : Bool) → drives phy ≡ Driven level → OwnRead 15 phy
drives-only phy level e = go phy.follower refl
  where
    by : (seen bits : ℕ) → phy.follower ≡ Inside seen bits → (a b t : Bool) → leb 15 seen ≡ a → leb seen 31 ≡ b → answers (header_seen seen bits) phy.own ≡ t → OwnRead 15 phy
    by seen bits now false b t early l own = released level (sym (drives-early _ _ _ seen bits now (leb-false 15 seen early)) ∙ e)
    by seen bits now true false t f late own = released level (sym (drives-late _ _ _ seen bits now (leb-false seen 31 late)) ∙ e)
    by seen bits now true true false f l other = released level (sym (drives-other _ _ _ seen bits now other) ∙ e)
    by seen bits now true true true f l own =
        record { seen = seen; bits = bits; now = now; own = own; from = leb-true 15 seen f; upto = leb-true seen 31 l }

    go : (f : Follower) → phy.follower ≡ f → OwnRead 15 phy
    go (Hunting ones) now = released level (sym (drives-hunting _ _ _ ones now) ∙ e)
    go (Inside seen bits) now = by seen bits now (leb 15 seen) (leb seen 31) (answers (header_seen seen bits) phy.own) refl refl refl
