-- A clock on a PHY whose follower and captured word are given apart: who uses these never looks into a clock again.
use Prim.Native.Nat.{ℕ, ◌%◌, ◌^◌}
use mathlib.Core.Path.{◌≡◌, refl, sym, ap, ◌∙◌}
use mathlib.Core.Bool.{Bool, true, false, cond}
use native.Mathlib.Omega.{arith}
use borrow.Author.Tests.{ne_eqb}
use Rattle.wire.specs.declared.Drive.TheVariants.{Released}
use Rattle.wire.specs.declared.Follower.{Follower}
use Rattle.wire.specs.declared.Follower.TheVariants.{Hunting, Inside}
use Rattle.wire.specs.declared.Header.{Header}
use Rattle.wire.specs.Follower.{one_more, follow, header_seen, answering}
use Rattle.wire.proofs.Followers.{goes_on}
use Rattle.phy.specs.declared.Phy.{Phy}
use Rattle.phy.specs.Fields.{with_line, with_follower}
use Rattle.phy.specs.Own.{answers, drives_in}
use Rattle.phy.specs.Clock.{enough, word, after_header, after_frame, drives, at_header, acts, clock}
use Rattle.phy.proofs.Headers.{after_header-silent}
use Rattle.phy.proofs.Effects.{after_header-effect, after_frame-effect}

-- what is driven, by the follower and the captured word
pub drives-line-hunting : (ones captured : ℕ) (phy : Phy) → drives (with_line (Hunting ones) captured phy) ≡ Released
unfolding drives_in
drives-line-hunting ones captured phy = refl

pub drives-line : (seen bits captured : ℕ) (phy : Phy)
    → drives (with_line (Inside seen bits) captured phy) ≡ cond (answers (header_seen seen bits) phy.own) (answering seen captured) Released
unfolding drives_in
drives-line seen bits captured phy = refl

-- a clock touches registers and link only at the 14th and the 32nd bit of a frame
pub clock-hunting : (level : Bool) (ones captured : ℕ) (phy : Phy)
    → clock level (with_line (Hunting ones) captured phy) ≡ with_line (follow (enough phy) level (Hunting ones)) captured phy
unfolding clock enough
clock-hunting level ones captured phy = refl

pub clock-inside : (level : Bool) (seen bits captured : ℕ) (phy : Phy) → (seen ≡ 13 → ⊥) → (seen ≡ 31 → ⊥)
    → clock level (with_line (Inside seen bits) captured phy) ≡ with_line (follow (enough phy) level (Inside seen bits)) captured phy
unfolding clock acts enough
clock-inside level seen bits captured phy n13 n31 = rw (ne_eqb seen 13 n13, ne_eqb seen 31 n31)

-- "the word is captured at the 14th frame bit, with the read's effect in that same clock"
module _ (level : Bool) (bits captured : ℕ) (phy : Phy) where
  abbrev in_frame : Phy
  in_frame = with_line (Inside 13 bits) captured phy

  abbrev next : Follower
  next = Inside 14 (one_more bits level)

  at-header : (header : Header)
      → with_follower next (at_header header in_frame)
      ≡ with_line next (cond (answers header phy.own) (word header phy) captured) (after_header header phy)
  unfolding at_header
  at-header header = go (answers header phy.own) refl
    where
      go : (t : Bool) → answers header phy.own ≡ t
          → with_follower next (cond t (with_line (after_header header in_frame).follower (word header phy) (after_header header in_frame)) in_frame)
          ≡ with_line next (cond t (word header phy) captured) (after_header header phy)
      go true own = ap (with_line next (word header phy)) ((after_header-effect header).blind (Inside 13 bits) captured phy)
      go false other = ap (with_line next captured) (sym (after_header-silent header phy other))

  pub clock-header : clock level in_frame
      ≡ with_line next
      (cond (answers (header_seen 14 (one_more bits level)) phy.own) (word (header_seen 14 (one_more bits level)) phy) captured)
      (after_header (header_seen 14 (one_more bits level)) phy)
  unfolding clock acts
  clock-header =
      ap (λ f. with_follower f (at_header (header_seen 14 (one_more bits level)) in_frame)) (goes_on (enough in_frame) level 13 bits (omega arith))
      ∙ at-header (header_seen 14 (one_more bits level))

-- "Own write: stored at the 32nd bit"; then hunting with 0 ones, and nothing is captured any more
pub clock-frame : (level : Bool) (bits captured : ℕ) (phy : Phy)
    → clock level (with_line (Inside 31 bits) captured phy)
    ≡ with_line (Hunting 0) 0 (after_frame (header_seen 32 (one_more bits level)) (one_more bits level % 2 ^ 16) phy)
unfolding clock follow acts
clock-frame level bits captured phy =
    ap (λ p. with_line (Hunting 0) 0 p)
    ((after_frame-effect (header_seen 32 (one_more bits level)) (one_more bits level % 2 ^ 16)).blind (Inside 31 bits) captured phy)
