-- What reads, writes and events have in common: they leave a PHY's record and its line, and of what they touch they leave what its types and register 1's fixed bits ask.
use Prim.Native.Nat.{ℕ, zero, suc, ◌^◌, ◌<◌}
use mathlib.Core.Path.{◌≡◌, refl, sym, ap, ◌∙◌}
use mathlib.Core.Bool.{Bool, true, false, not, ◌&&◌, ◌||◌, cond}
use mathlib.Core.List.{List, [], ◌∷◌}
use native.Mathlib.Omega.{arith}
use lib.Dec.{eqb}
use lib.ListN.{get_or, set, length-set}
use lib.Seq.{get_or-set_other}
use borrow.Author.Tests.{eqb-false}
use Rattle.verdict.specs.Bits.{bit}
use Rattle.wire.specs.declared.Follower.{Follower}
use Rattle.wire.specs.declared.Header.{Header}
use Rattle.phy.specs.declared.Phy.{Phy}
use Rattle.phy.specs.Abilities.{one}
use Rattle.phy.specs.Words.{set_bit, clear_bit}
use Rattle.phy.specs.Own.{implements, answers, stores}
use Rattle.phy.specs.Fields.{register_of, default_of, mask_of, record_of, with_registers, with_register, sets, clears, with_link, with_line}
use Rattle.phy.specs.Control.{reset, new_control, new_status, new_bit12, write_control}
use Rattle.phy.specs.Registers.{in_reset, masked, write_ordinary, held_after, read_status, after_read, write_by, after_write}
use Rattle.phy.specs.Events.{link_up, link_down, remote_fault, jabber, negotiation_complete, restart_done, reset_done, completes, happening, event}
use Rattle.phy.specs.Clock.{enough, after_header, after_frame}
use Rattle.phy.specs.Typed.{Words, TypedWords, StatusFixed}
use Rattle.phy.proofs.Words.{set_other, clear-other, set-lt, clear-lt, picked-lt}
use Rattle.phy.proofs.NewBits.{control_parts}
use Rattle.phy.proofs.Held.{held-others}

-- an effect neither sees nor touches the line, leaves the record, keeps register 1 fixed but for its held bits, and words stay words
pub record Effect (f : Phy → Phy) : Type 0 where
  pub blind : (follower : Follower) (captured : ℕ) (phy : Phy) → f (with_line follower captured phy) ≡ with_line follower captured (f phy)
  pub leaves : (phy : Phy) → record_of (f phy) ≡ record_of phy
  pub fixed : (phy : Phy) → StatusFixed phy → StatusFixed (f phy)
  pub typed : (phy : Phy) → TypedWords phy → TypedWords (f phy)

-- an effect that leaves 1.6 too: as many ones are enough after it
pub record Gentle (f : Phy → Phy) : Type 0 where
  pub effect : Effect f
  pub suffices : (phy : Phy) → enough (f phy) ≡ enough phy

-- a test that does not see the line
abbrev Unseeing : (Phy → Bool) → Type 0
Unseeing test = (follower : Follower) (captured : ℕ) (phy : Phy) → test (with_line follower captured phy) ≡ test phy

-- what holds of both PHYs holds of the one that a test picks
picked : (P : Phy → Type 0) (t : Bool) {a b : Phy} → P a → P b → P (cond t a b)
picked P true x y = x
picked P false x y = y

-- doing nothing is an effect
pub nothing : Effect (λ phy. phy)
nothing = record { blind = λ g w phy. refl; leaves = λ phy. refl; fixed = λ phy h. h; typed = λ phy w. w }

-- so is one after the other
pub one-after : {f g : Phy → Phy} → Effect f → Effect g → Effect (λ phy. g (f phy))
one-after {f} {g} ef eg =
    record {
      blind = λ l w phy. ap g (ef.blind l w phy) ∙ eg.blind l w (f phy);
      leaves = λ phy. eg.leaves (f phy) ∙ ef.leaves phy;
      fixed = λ phy h. eg.fixed (f phy) (ef.fixed phy h);
      typed = λ phy w. eg.typed (f phy) (ef.typed phy w);
    }

-- so is one of two, by a test that does not see the line
pub either : (test : Phy → Bool) → Unseeing test → (f g : Phy → Phy) → Effect f → Effect g → Effect (λ phy. cond (test phy) (f phy) (g phy))
either test same f g ef eg =
    record {
      blind = λ l w phy. rw (same l w phy) (blinds l w phy (test phy));
      leaves = λ phy. picked (λ p. record_of p ≡ record_of phy) (test phy) (ef.leaves phy) (eg.leaves phy);
      fixed = λ phy h. picked StatusFixed (test phy) (ef.fixed phy h) (eg.fixed phy h);
      typed = λ phy w. picked TypedWords (test phy) (ef.typed phy w) (eg.typed phy w);
    }
  where
    blinds : (l : Follower) (w : ℕ) (phy : Phy) (t : Bool)
        → cond t (f (with_line l w phy)) (g (with_line l w phy)) ≡ with_line l w (cond t (f phy) (g phy))
    blinds l w phy true = ef.blind l w phy
    blinds l w phy false = eg.blind l w phy

-- all three of gentle ones
pub gently-nothing : Gentle (λ phy. phy)
gently-nothing = record { effect = nothing; suffices = λ phy. refl }

gently-after : {f g : Phy → Phy} → Gentle f → Gentle g → Gentle (λ phy. g (f phy))
gently-after {f} {g} gf gg =
    record { effect = one-after gf.effect gg.effect; suffices = λ phy. gg.suffices (f phy) ∙ gf.suffices phy }

pub gently-either : (test : Phy → Bool) → Unseeing test → (f g : Phy → Phy) → Gentle f → Gentle g → Gentle (λ phy. cond (test phy) (f phy) (g phy))
gently-either test same f g gf gg =
    record {
      effect = either test same f g gf.effect gg.effect;
      suffices = λ phy. picked (λ p. enough p ≡ enough phy) (test phy) (gf.suffices phy) (gg.suffices phy);
    }

-- Each part that effects touch: a change of the link
on-link : (link : Bool) → Gentle (with_link link)
unfolding enough
on-link link =
    record {
      effect = record {
        blind = λ f w phy. refl;
        leaves = λ phy. refl;
        fixed = λ phy h. h;
        typed = λ phy w. record { defaults = w.defaults; masks = w.masks; registers = w.registers };
      };
      suffices = λ phy. refl;
    }

-- and one of the registers that keeps register 1 fixed and words words
on-registers : (change : Phy → List ℕ) → ((f : Follower) (w : ℕ) (phy : Phy) → change (with_line f w phy) ≡ change phy)
    → ((phy : Phy) → StatusFixed phy → StatusFixed (with_registers (change phy) phy))
    → ((phy : Phy) → TypedWords phy → Words 32 (change phy))
    → Effect (λ phy. with_registers (change phy) phy)
on-registers change same fixed words =
    record {
      blind = λ f w phy. ap (λ l. with_registers l (with_line f w phy)) (same f w phy);
      leaves = λ phy. refl;
      fixed = fixed;
      typed = λ phy w. record { defaults = w.defaults; masks = w.masks; registers = words phy w };
    }

-- what holds of the new element and of the old ones holds after a store
stored : (P : ℕ → Type 0) (l : List ℕ) (i v j : ℕ) → P v → P (get_or l j 0) → P (get_or (set l i v) j 0)
stored P [] i v j new old = old
stored P (x ∷ l) zero v zero new old = new
stored P (x ∷ l) zero v (suc j) new old = old
stored P (x ∷ l) (suc i) v zero new old = old
stored P (x ∷ l) (suc i) v (suc j) new old = stored P l i v j new old

words-set : (l : List ℕ) (i v : ℕ) → Words 32 l → v < 2 ^ 16 → Words 32 (set l i v)
words-set l i v w small =
    record { long = length-set l i v ∙ w.long; small = λ j. stored (λ x. x < 2 ^ 16) l i v j small (w.small j) }

-- the bits of register 1 that neither a read nor an event nor a write changes
abbrev Kept : (ℕ → ℕ) → Type 0
Kept change = (w i : ℕ) → (i ≡ 5 → ⊥) → (i ≡ 4 → ⊥) → (i ≡ 2 → ⊥) → (i ≡ 1 → ⊥) → bit i (change w) ≡ bit i w

abbrev Small : (ℕ → ℕ) → Type 0
Small change = (w : ℕ) → w < 2 ^ 16 → change w < 2 ^ 16

-- a change of register 1's held bits
on-status : (change : Bool → ℕ → ℕ) → ((l : Bool) → Kept (change l)) → ((l : Bool) → Small (change l))
    → Gentle (λ phy. with_register 1 (change phy.link (register_of 1 phy)) phy)
unfolding enough
on-status change kept small =
    record {
      effect = on-registers (λ phy. set phy.registers 1 (held phy)) (λ f w phy. refl)
          (λ phy h i below n5 n4 n2 n1.
          stored (λ x. bit i x ≡ bit i (default_of 1 phy)) phy.registers 1 (held phy) 1
          (kept phy.link (register_of 1 phy) i n5 n4 n2 n1 ∙ h i below n5 n4 n2 n1) (h i below n5 n4 n2 n1))
          (λ phy w. words-set phy.registers 1 (held phy) w.registers (small phy.link (register_of 1 phy) (w.registers.small 1)));
      suffices = λ phy.
          ap (λ (b : ℕ). cond (eqb b 1) 1 32)
          (stored (λ x. bit 6 x ≡ bit 6 (register_of 1 phy)) phy.registers 1 (held phy) 1
          (kept phy.link (register_of 1 phy) 6 (omega arith) (omega arith) (omega arith) (omega arith)) refl);
    }
  where
    held : Phy → ℕ
    held phy = change phy.link (register_of 1 phy)

-- a change of another register
on-other : (r : ℕ) → (1 ≡ r → ⊥) → (change : Phy → ℕ) → ((f : Follower) (w : ℕ) (phy : Phy) → change (with_line f w phy) ≡ change phy)
    → ((phy : Phy) → TypedWords phy → change phy < 2 ^ 16)
    → Effect (λ phy. with_register r (change phy) phy)
on-other r n1 change same small =
    on-registers (λ phy. set phy.registers r (change phy)) (λ f w phy. ap (set phy.registers r) (same f w phy))
    (λ phy h i below n5 n4 n2 n. rw (get_or-set_other phy.registers r 1 (change phy) 0 n1) (h i below n5 n4 n2 n))
    (λ phy w. words-set phy.registers r (change phy) w.registers (small phy w))

-- reads
held_small : (l : Bool) → Small (held_after l)
held_small true w h = set-lt 2 16 _ (omega arith) (clear-lt 1 16 _ (clear-lt 4 16 w h))
held_small false w h = clear-lt 2 16 _ (clear-lt 1 16 _ (clear-lt 4 16 w h))

pub read_status-effect : Effect read_status
unfolding read_status
read_status-effect = (on-status held_after (λ l w i n5 n4 n2 n1. held-others l w i n4 n2 n1) held_small).effect

pub after_read-effect : (r : ℕ) → Effect (after_read r)
unfolding after_read
after_read-effect r = either (λ phy. eqb r 1) (λ f w phy. refl) read_status (λ phy. phy) read_status-effect nothing

-- writes
pub reset-effect : Effect reset
unfolding reset
reset-effect =
    one-after (one-after to_default (on-link false).effect)
    (on-other 0 (omega arith) (λ phy. set_bit 15 (register_of 0 phy)) (λ f w phy. refl) (λ phy w. set-lt 15 16 (register_of 0 phy) (omega arith) (w.registers.small 0)))
  where
    to_default : Effect (λ phy. with_registers phy.defaults phy)
    to_default = on-registers (λ phy. phy.defaults) (λ f w phy. refl) (λ phy h i below n5 n4 n2 n1. refl) (λ phy w. w.defaults)

new_status-kept : (word : ℕ) → Kept (λ w. new_status w word)
unfolding new_status
new_status-kept word w i n5 n4 n2 n1 = go (eqb (new_bit12 w word) 0 || one 9 word)
  where
    go : (t : Bool) → bit i (cond t (clear_bit 5 w) w) ≡ bit i w
    go true = clear-other 5 i w n5
    go false = refl

new_status-small : (word : ℕ) → Small (λ w. new_status w word)
unfolding new_status
new_status-small word w h = go (eqb (new_bit12 w word) 0 || one 9 word)
  where
    go : (t : Bool) → cond t (clear_bit 5 w) w < 2 ^ 16
    go true = clear-lt 5 16 w h
    go false = h

pub write_control-effect : (word : ℕ) → Effect (write_control word)
unfolding write_control
write_control-effect word =
    either (λ phy. one 15 word) (λ f w phy. refl) reset _ reset-effect
    (on-registers (λ phy. set (written phy) 1 (new_status (register_of 1 phy) word)) (λ f w phy. refl)
    (λ phy h i below n5 n4 n2 n1.
    stored (λ x. bit i x ≡ bit i (default_of 1 phy)) (written phy) 1 (new_status (register_of 1 phy) word) 1
    (new_status-kept word (register_of 1 phy) i n5 n4 n2 n1 ∙ h i below n5 n4 n2 n1)
    (rw (get_or-set_other phy.registers 0 1 (control phy) 0 (omega arith)) (h i below n5 n4 n2 n1)))
    (λ phy w.
    words-set (written phy) 1 (new_status (register_of 1 phy) word)
    (words-set phy.registers 0 (control phy) w.registers
    (control_parts (register_of 1 phy) (register_of 15 phy) (register_of 0 phy) word).1)
    (new_status-small word (register_of 1 phy) (w.registers.small 1))))
  where
    control : Phy → ℕ
    control phy = new_control (register_of 1 phy) (register_of 15 phy) (register_of 0 phy) word

    written : Phy → List ℕ
    written phy = set phy.registers 0 (control phy)

pub write_ordinary-effect : (r word : ℕ) → (1 ≡ r → ⊥) → Effect (write_ordinary r word)
unfolding write_ordinary masked
write_ordinary-effect r word n1 =
    on-other r n1 (λ phy. masked (mask_of r phy) (register_of r phy) word) (λ f w phy. refl)
    (λ phy w. picked-lt (mask_of r phy) (register_of r phy) word 16)

pub write_by-effect : (r word : ℕ) → Effect (write_by r word)
unfolding write_by
write_by-effect r word =
    either (λ phy. eqb r 0) (λ f w phy. refl) (write_control word) _ (write_control-effect word) (go (eqb r 1) refl)
  where
    go : (t : Bool) → eqb r 1 ≡ t → Effect (λ phy. cond t phy (write_ordinary r word phy))
    go true e = nothing
    go false e = write_ordinary-effect r word (λ n. eqb-false r 1 e (sym n))

pub after_write-effect : (r word : ℕ) → Effect (after_write r word)
unfolding after_write in_reset
after_write-effect r word =
    either (λ phy. implements r phy.own && not (in_reset phy)) (λ f w phy. refl) (write_by r word) (λ phy. phy) (write_by-effect r word) nothing

-- events
sets-gently : (i : ℕ) → ((j : ℕ) → (j ≡ 5 → ⊥) → (j ≡ 4 → ⊥) → (j ≡ 2 → ⊥) → (j ≡ 1 → ⊥) → j ≡ i → ⊥) → i < 16 → Gentle (sets 1 i)
sets-gently i held small =
    on-status (λ l. set_bit i) (λ l w j n5 n4 n2 n1. set_other i j w (held j n5 n4 n2 n1)) (λ l w h. set-lt i 16 w small h)

link-clears-gently : Gentle (clears 1 2)
link-clears-gently = on-status (λ l. clear_bit 2) (λ l w j n5 n4 n2 n1. clear-other 2 j w n2) (λ l w h. clear-lt 2 16 w h)

clears-gently : (i : ℕ) → Gentle (clears 0 i)
unfolding enough
clears-gently i =
    record {
      effect = on-other 0 (omega arith) (λ phy. clear_bit i (register_of 0 phy)) (λ f w phy. refl) (λ phy w. clear-lt i 16 (register_of 0 phy) (w.registers.small 0));
      suffices = λ phy. ap (λ (w : ℕ). cond (one 6 w) 1 32) (get_or-set_other phy.registers 0 1 (clear_bit i (register_of 0 phy)) 0 (omega arith));
    }

completes-gently : Gentle completes
unfolding completes
completes-gently =
    gently-either (λ phy. one 12 (register_of 0 phy) && not (one 9 (register_of 0 phy))) (λ f w phy. refl) _ (λ phy. phy)
    (sets-gently 5 (λ j n5 n4 n2 n1. n5) (omega arith)) gently-nothing

happening-gently : (code : ℕ) → Gentle (happening code)
unfolding happening
happening-gently code =
    by link_up (on-link true)
    (by link_down (gently-after link-clears-gently (on-link false))
    (by remote_fault (sets-gently 4 (λ j n5 n4 n2 n1. n4) (omega arith))
    (by jabber (sets-gently 1 (λ j n5 n4 n2 n1. n1) (omega arith))
    (by negotiation_complete completes-gently
    (by restart_done (clears-gently 9)
    (by reset_done (clears-gently 15)
    gently-nothing))))))
  where
    by : (number : ℕ) {f g : Phy → Phy} → Gentle f → Gentle g → Gentle (λ phy. cond (eqb code number) (f phy) (g phy))
    by number {f} {g} gf gg = gently-either (λ phy. eqb code number) (λ l w phy. refl) f g gf gg

pub event-gently : (code : ℕ) → Gentle (event code)
unfolding event in_reset
event-gently code =
    gently-either (λ phy. in_reset phy && not (eqb code reset_done)) (λ f w phy. refl) (λ phy. phy) (happening code) gently-nothing (happening-gently code)

pub event-effect : (code : ℕ) → Effect (event code)
event-effect code = (event-gently code).effect

-- headers and frames
pub after_header-effect : (header : Header) → Effect (after_header header)
unfolding after_header
after_header-effect header =
    either (λ phy. answers header phy.own) (λ f w phy. refl) (after_read header.register) (λ phy. phy) (after_read-effect header.register) nothing

pub after_frame-effect : (header : Header) (word : ℕ) → Effect (after_frame header word)
unfolding after_frame
after_frame-effect header word =
    either (λ phy. stores header phy.own) (λ f w phy. refl) (after_write header.register word) (λ phy. phy) (after_write-effect header.register word) nothing
