-- "A sound board: (..) Every call keeps it." Each clock, event, header and frame's end keeps who frames are for and keeps every PHY sound, so both machines do; unused places stand as they were; and a refusal hands the same board back.
use Prim.Native.Nat.{ℕ, ◌≤◌, ◌<◌}
use mathlib.Core.Path.{◌≡◌, refl, sym, ap, subst, ◌∙◌}
use mathlib.Core.Bool.{Bool, true, false, cond}
use mathlib.Core.List.{List, map}
use native.Mathlib.Omega.{arith}
use lib.Dec.{leb}
use borrow.Author.Tests.{leb-true, leb-false}
use Rattle.verdict.specs.Refusal.{Verdict, Done, Refused}
use Rattle.phy.specs.declared.Phy.{Phy}
use Rattle.phy.specs.Fields.{record_of}
use Rattle.phy.specs.Sound.{nowhere}
use Rattle.phy.specs.Events.{event}
use Rattle.phy.specs.Typed.{Typed}
use Rattle.phy.proofs.Effects.{Effect, event-effect, after_header-effect, after_frame-effect}
use Rattle.phy.proofs.Every.{any-ext}
use Rattle.phy.proofs.Keeping.{keeps-own, clock-own}
use Rattle.phy.proofs.SoundKept.{SoundPhy, event-sound, after_header-sound, after_frame-sound, clock-sound}
use Rattle.phy.specs.Clock.{clock}
use Rattle.board.specs.declared.Board.{Board}
use Rattle.board.specs.Record.{has_address}
use Rattle.board.specs.Check.{places, place_at, record_passes, place_sound, checked}
use Rattle.board.specs.Typed.{TypedBoard}
use Rattle.board.specs.Events.{event_code}
use Rattle.board.proofs.Soundness.{Sound, Passes, check_sound, sound-check, passes-no-fault, used-place, unused-place}
use Rattle.board.specs.Outcome.{Told}
use Rattle.between.specs.Outcome.{phys_of, with_phys, handed_back, HandsBack}
use Rattle.between.specs.Events.{is_for, happens}
use Rattle.wire_machine.specs.Run.{phys_after_run, board_after_run, Ran}
use Rattle.plain_machine.specs.Plain.{phys_after_plain, board_after_plain, Planned}
use Rattle.between.proofs.Places.{at-replaced, past-replaced, length-replaced}
use Rattle.between.proofs.EachPlace.{Closed, Each, closed-by}
use Rattle.wire_machine.proofs.RunEach.{run-changes}
use Rattle.plain_machine.proofs.PlainEach.{plain-changes}
use Rattle.between.proofs.HappensEffect.{happens-by}

-- One PHY: the same frames are for it, and if it was sound it still is
pub record StaysSound (before after : Phy) : Type 0 where
  pub same-own : after.own ≡ before.own
  pub still-sound : SoundPhy before → SoundPhy after

abbrev pub KeepsSound : (Phy → Phy) → Type 0
KeepsSound f = (phy : Phy) → StaysSound phy (f phy)

stays : (phy : Phy) → StaysSound phy phy
stays phy = record { same-own = refl; still-sound = λ s. s }

sound-closed : Closed KeepsSound
sound-closed =
    closed-by StaysSound stays (λ p q r first then.
    record { same-own = then.same-own ∙ first.same-own; still-sound = λ s. then.still-sound (first.still-sound s) })

keeps-by : {f : Phy → Phy} → Effect f → ((phy : Phy) → SoundPhy phy → SoundPhy (f phy)) → KeepsSound f
keeps-by effect sound phy = record { same-own = keeps-own effect phy; still-sound = sound phy }

clock-keeps : (level : Bool) → KeepsSound (clock level)
clock-keeps level phy = record { same-own = clock-own level phy; still-sound = clock-sound level phy }

happens-keeps : (events : List ℕ) (c : ℕ) → KeepsSound (happens events c)
happens-keeps events c = happens-by sound-closed events c (λ k phy. go k phy (is_for events k c phy))
  where
    go : (k : ℕ) (phy : Phy) (t : Bool) → StaysSound phy (cond t (event (event_code events k) phy) phy)
    go k phy true = keeps-by (event-effect (event_code events k)) (event-sound (event_code events k)) phy
    go k phy false = stays phy

-- A board whose PHYs all changed so
module _ (board : Board) (typed : TypedBoard board) (sound : Sound board) (f : Phy → Phy) (keeps : KeepsSound f) where
  abbrev after : Board
  after = with_phys board (map f (phys_of board))

  used : (k : ℕ) → k < board.count → place_at after k ≡ f (place_at board k)
  used k l = at-replaced f board.count k board.phys nowhere l (omega (arith, typed.long, sound.at_most))

  unused : (k : ℕ) → board.count ≤ k → place_at after k ≡ place_at board k
  unused k h = past-replaced f board.count k board.phys nowhere h

  sound-at : (k : ℕ) → k < board.count → SoundPhy (place_at board k)
  sound-at k l =
      let here = used-place board sound k l in
      record {
        typed = typed.each k (omega (arith, sound.at_most));
        set-right = here.0.set-right;
        defaults-right = here.0.defaults-right;
        sound = here.1;
      }

  still-sound-at : (k : ℕ) → k < board.count → SoundPhy (place_at after k)
  still-sound-at k l = subst SoundPhy (sym (used k l)) ((keeps (place_at board k)).still-sound (sound-at k l))

  same-own-at : (k : ℕ) → k < board.count → (place_at after k).own ≡ (place_at board k).own
  same-own-at k l = ap (λ (phy : Phy). phy.own) (used k l) ∙ (keeps (place_at board k)).same-own

  -- the addresses before a place are as they were, so none is its own
  still-free : (k : ℕ) → k < board.count → has_address after.phys k (place_at after k).own.address ≡ false
  unfolding has_address
  still-free k l =
      any-ext k _ _ (λ i h. rw (same-own-at i (omega arith), same-own-at k l))
      ∙ (used-place board sound k l).0.address-free

  passes : (k : ℕ) → k < board.count → Passes 0 (has_address after.phys k (place_at after k).own.address) (record_of (place_at after k))
  passes k l =
      record {
        fields-right = rw (same-own-at k l) (used-place board sound k l).0.fields-right;
        address-free = still-free k l;
        set-right = (still-sound-at k l).set-right;
        defaults-right = (still-sound-at k l).defaults-right;
      }

  place-sound : (k : ℕ) → k < places → place_sound after k ≡ true
  unfolding place_sound record_passes
  place-sound k l = go (leb board.count k) refl
    where
      go : (b : Bool) → leb board.count k ≡ b → place_sound after k ≡ true
      go true e =
          let past = leb-true board.count k e in
          rw (e, unused k past) (unused-place board sound k past l)
      go false e =
          let below = leb-false board.count k e in
          rw (e, passes-no-fault 0 _ (record_of (place_at after k)) (passes k below), (still-sound-at k below).sound)

  sound-after : Sound after
  sound-after = record { at_most = sound.at_most; each = place-sound }

  typed_at : (k : ℕ) → k < places → Typed (place_at after k)
  typed_at k l = go (leb board.count k) refl
    where
      go : (b : Bool) → leb board.count k ≡ b → Typed (place_at after k)
      go true e = subst Typed (sym (unused k (leb-true board.count k e))) (typed.each k l)
      go false e = (still-sound-at k (leb-false board.count k e)).typed

  typed-after : TypedBoard after
  typed-after = record { long = length-replaced f board.count board.phys ∙ typed.long; each = typed_at }

-- a sound board of n PHYs, with every field within its type
pub record SoundBoard (n : ℕ) (board : Board) : Type 0 where
  pub typed : TypedBoard board
  pub passes : checked board ≡ Done n

module _ {n : ℕ} {board : Board} (is : SoundBoard n board) where
  -- a change of all PHYs that keeps each sound keeps the board sound
  changed-sound : {phys : List Phy} → Each KeepsSound (phys_of board) phys → SoundBoard n (with_phys board phys)
  changed-sound each =
      let sound = check_sound board n is.passes in
      subst (λ phys. SoundBoard n (with_phys board phys)) (sym each.maps)
      record {
        typed = typed-after board is.typed sound.1 each.on-each each.is;
        passes = sound-check _ (sound-after board is.typed sound.1 each.on-each each.is) ∙ ap Done sound.0;
      }

  -- a refusal hands the same board back, a success the board after it
  pub handed-back-sound : {answer : Verdict} {result : List ℕ} {after : Board} {out : List ℕ} {r : Told} {out' : List ℕ} → SoundBoard n after → HandsBack answer result after board out r out' → SoundBoard n r.board
  handed-back-sound {answer} {after = after} sound back = subst (SoundBoard n) (sym back.board) (go answer)
    where
      go : (v : Verdict) → SoundBoard n (handed_back v after board)
      go (Done m) = sound
      go (Refused number index) = is

  module _ (events : List ℕ) where
    -- any steps and any events, whether the checks would let them through or not
    module _ (steps : List ℕ) where
      pub run-keeps : Each KeepsSound (phys_of board) (phys_after_run board steps events)
      run-keeps = run-changes sound-closed events (happens-keeps events) clock-keeps board steps

      pub run_sound : SoundBoard n (board_after_run board steps events)
      run_sound = changed-sound run-keeps

      -- what `run` promises keeps a board sound
      pub ran-sound : {out : List ℕ} {r : Told} {out' : List ℕ} → Ran board steps events out r out' → SoundBoard n r.board
      ran-sound ran = handed-back-sound run_sound ran

    -- any list and any events
    module _ (list : List ℕ) where
      plain-keeps : Each KeepsSound (phys_of board) (phys_after_plain board list events)
      plain-keeps =
          plain-changes sound-closed events (happens-keeps events)
          (λ header. keeps-by (after_header-effect header) (after_header-sound header))
          (λ header word. keeps-by (after_frame-effect header word) (after_frame-sound header word))
          board list

      pub plain-sound : SoundBoard n (board_after_plain board list events)
      plain-sound = changed-sound plain-keeps

      -- what `plain` promises keeps a board sound
      pub planned-sound : {out : List ℕ} {r : Told} {out' : List ℕ} → Planned board list events out r out' → SoundBoard n r.board
      planned-sound planned = handed-back-sound plain-sound planned
