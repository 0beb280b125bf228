-- What every effect and every clock keeps of a PHY: its record, and with it whom frames are for, `enough`, its types.
use Prim.Native.Nat.{ℕ, ◌+◌, ◌%◌, ◌^◌, ◌≤◌, ◌<◌}
use mathlib.Core.Path.{◌≡◌, refl, sym, ap, subst, ◌∙◌}
use mathlib.Core.Bool.{Bool, true, false, cond}
use mathlib.Core.List.{List}
use native.Mathlib.Omega.{arith}
use lib.Dec.{eqb}
use lib.ListN.{get_or}
use Rattle.wire.specs.declared.Follower.{Follower}
use Rattle.wire.specs.declared.Follower.TheVariants.{Hunting, Inside}
use Rattle.wire.specs.declared.Header.{Header}
use Rattle.wire.specs.Follower.{one_more, follow, header_seen}
use Rattle.wire.proofs.Followers.{follow-keeps}
use Rattle.phy.specs.declared.own.Own.{Own}
use Rattle.phy.specs.declared.Phy.{Phy}
use Rattle.phy.specs.Abilities.{one}
use Rattle.phy.specs.Fields.{register_of, default_of, record_of, with_line}
use Rattle.phy.specs.Own.{answers}
use Rattle.phy.specs.Clock.{fresh, enough, word, after_header, after_frame, acts, at_header, clock}
use Rattle.phy.specs.Typed.{Words, TypedOwn, TypedWords, TypedFollower, Typed, StatusFixed, Steady}
use Rattle.phy.proofs.Clocks.{clock-by}
use Rattle.phy.proofs.Effects.{Effect, nothing, after_header-effect, after_frame-effect}

-- a PHY accepts at most 32 ones as enough, and at least 1
pub enough-most : (phy : Phy) → enough phy ≤ 32
unfolding enough
enough-most phy = go (one 6 (register_of 1 phy))
  where
    go : (t : Bool) → cond t 1 32 ≤ 32
    go true = omega arith
    go false = omega arith

-- where register 1 is fixed, the default of 1.6 decides what is enough
pub enough-fixed : (phy : Phy) → StatusFixed phy → enough phy ≡ cond (one 6 (default_of 1 phy)) 1 32
unfolding enough
enough-fixed phy fixed =
    ap (λ (b : ℕ). cond (eqb b 1) 1 32) (fixed 6 (omega arith) (omega arith) (omega arith) (omega arith) (omega arith))

-- Of an effect
module _ {f : Phy → Phy} (effect : Effect f) (phy : Phy) where
  -- it cannot see the line, so it does not touch it: the PHY put onto its own line is itself
  same_line : f phy ≡ with_line phy.follower phy.captured (f phy)
  same_line = effect.blind phy.follower phy.captured phy

  pub keeps-follower : (f phy).follower ≡ phy.follower
  keeps-follower = ap (λ p. p.follower) same_line

  pub keeps-captured : (f phy).captured ≡ phy.captured
  keeps-captured = ap (λ p. p.captured) same_line

  -- the record stays, so the same frames are for it: it answers and stores as before
  pub keeps-own : (f phy).own ≡ phy.own
  keeps-own = ap (λ r. r.own) (effect.leaves phy)

  -- and as many ones are enough, where 1.6 stands at default
  pub keeps-enough : StatusFixed phy → enough (f phy) ≡ enough phy
  keeps-enough fixed =
      enough-fixed (f phy) (effect.fixed phy fixed)
      ∙ ap (λ r. cond (one 6 (get_or r.defaults 1 0)) 1 32) (effect.leaves phy)
      ∙ sym (enough-fixed phy fixed)

  -- and every field stays within its type
  pub keeps_typed : Typed phy → Typed (f phy)
  keeps_typed t =
      record {
        own = rw keeps-own t.own;
        words = effect.typed phy t.words;
        follower = rw keeps-follower t.follower;
        captured = rw keeps-captured t.captured;
      }

  -- what it rests on it keeps
  pub keeps-steady : Steady phy → Steady (f phy)
  keeps-steady s = record { words = effect.typed phy s.words; fixed = effect.fixed phy s.fixed }

-- a line of any kind leaves that too
line-words : (f : Follower) (w : ℕ) (phy : Phy) → TypedWords phy → TypedWords (with_line f w phy)
line-words f w phy t = record { defaults = t.defaults; masks = t.masks; registers = t.registers }

pub line-steady : (f : Follower) (w : ℕ) (phy : Phy) → Steady phy → Steady (with_line f w phy)
line-steady f w phy s = record { words = line-words f w phy s.words; fixed = s.fixed }

pub word_small : (header : Header) (phy : Phy) → TypedWords phy → word header phy < 2 ^ 16
word_small header phy t = t.registers.small header.register

-- a clock is the follower's move, a captured word, and an effect
pub record Clocked (level : Bool) (phy : Phy) : Type 0 where
  pub does : Phy → Phy
  pub effect : Effect does
  pub captured : ℕ
  pub small : Typed phy → captured < 2 ^ 16
  pub is : clock level phy ≡ with_line (follow (enough phy) level phy.follower) captured (does phy)

pub clocked : (level : Bool) (phy : Phy) → Clocked level phy
unfolding clock acts at_header
clocked level phy = go phy.follower refl
  where
    next : Follower
    next = follow (enough phy) level phy.follower

    -- a clock in which only the follower moves
    moves : clock level phy ≡ with_line next phy.captured phy → Clocked level phy
    moves is = record { does = λ p. p; effect = nothing; captured = phy.captured; small = λ t. t.captured; is = is }

    go : (f : Follower) → phy.follower ≡ f → Clocked level phy
    go (Hunting ones) now = moves (clock-by level phy (Hunting ones) now)
    go (Inside seen bits) now = by (eqb seen 13) (eqb seen 31) (answers header phy.own) refl refl refl
      where
        after : ℕ
        after = one_more bits level

        header : Header
        header = header_seen 14 after

        by : (a b own : Bool) → eqb seen 13 ≡ a → eqb seen 31 ≡ b → answers header phy.own ≡ own → Clocked level phy
        by true b true e13 e31 own =
            record {
              does = after_header header;
              effect = after_header-effect header;
              captured = word header phy;
              small = λ t. word_small header phy t.words;
              is = clock-by level phy (Inside seen bits) now ∙ rw (e13, own);
            }
        by true b false e13 e31 other = moves (clock-by level phy (Inside seen bits) now ∙ rw (e13, other))
        by false true own e13 e31 o =
            record {
              does = after_frame (header_seen 32 after) (after % 2 ^ 16);
              effect = after_frame-effect (header_seen 32 after) (after % 2 ^ 16);
              captured = 0;
              small = λ t. omega arith;
              is = clock-by level phy (Inside seen bits) now ∙ rw (e13, e31);
            }
        by false false own e13 e31 o = moves (clock-by level phy (Inside seen bits) now ∙ rw (e13, e31))

-- Of a clock
module _ (level : Bool) (phy : Phy) where
  of : Clocked level phy
  of = clocked level phy

  pub clock-record : record_of (clock level phy) ≡ record_of phy
  clock-record = ap record_of of.is ∙ of.effect.leaves phy

  pub clock-own : (clock level phy).own ≡ phy.own
  clock-own = ap (λ r. r.own) clock-record

  pub clock-enough : StatusFixed phy → enough (clock level phy) ≡ enough phy
  unfolding enough
  clock-enough fixed = ap enough of.is ∙ keeps-enough of.effect phy fixed

  pub clock-fixed : StatusFixed phy → StatusFixed (clock level phy)
  clock-fixed fixed = subst StatusFixed (sym of.is) (of.effect.fixed phy fixed)

  pub clock-typed : Typed phy → Typed (clock level phy)
  clock-typed t =
      let after = keeps_typed of.effect phy t in
      subst Typed (sym of.is)
      record {
        own = after.own;
        words = line-words _ _ (of.does phy) after.words;
        follower = follow-keeps TypedFollower (omega arith) (omega arith, omega arith) (λ ones. omega arith) more (enough phy) level phy.follower t.follower;
        captured = of.small t;
      }
    where
      shifted : (bits : ℕ) (l : Bool) → one_more bits l < 2 ^ 32
      shifted bits true = omega arith
      shifted bits false = omega arith

      more : (l : Bool) (seen bits : ℕ) → TypedFollower (Inside seen bits) → seen < 31 → TypedFollower (Inside (seen + 1) (one_more bits l))
      more l seen bits p h = (omega arith, shifted bits l)

-- A fresh PHY
pub fresh-typed : (own : Own) (defaults masks : List ℕ) → TypedOwn own → Words 32 defaults → Words 32 masks → Typed (fresh own defaults masks)
fresh-typed own defaults masks o d m =
    record { own = o; words = record { defaults = d; masks = m; registers = d }; follower = omega arith; captured = omega arith }
