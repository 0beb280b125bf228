-- A load gives a sound board: each record that passed is a fresh PHY that is sound, and the other places are blank.
use Prim.Native.Nat.{ℕ, ◌+◌, ◌-◌, ◌≤◌, ◌<◌}
use mathlib.Core.Bool.{Bool, true, false, not, ◌&&◌}
use mathlib.Core.List.{List, ◌++◌}
use mathlib.Core.Path.{◌≡◌, refl, ap, ◌∙◌}
use native.Mathlib.Omega.{arith}
use lib.ListN.{length, get_or, drop, replicate, get_or-replicate}
use lib.Seq.{get_or-append-add, get_or-drop}
use lib.Dec.{eqb, ltb, leb}
use borrow.Author.Tests.{lt-leb, le-leb, leb-true, leb-false}
use Rattle.verdict.specs.Refusal.{Verdict, Done, Refused}
use Rattle.verdict.specs.Output.{tabulate}
use Rattle.verdict.proofs.Lists.{length-tabulate}
use Rattle.verdict.proofs.Checks.{accepted}
use Rattle.wire.specs.declared.Follower.TheVariants.{Hunting}
use Rattle.phy.specs.declared.Phy.{Phy}
use Rattle.phy.specs.Record.{every, masks_zero, unimplemented_zero, words_right, word, defaults_right}
use Rattle.phy.specs.Sound.{is_blank, blank, nowhere}
use Rattle.phy.proofs.Every.{both, neither}
use Rattle.phy.proofs.Fresh.{fresh-sound}
use Rattle.board.specs.Record.{fields_wrong}
use Rattle.board.specs.Check.{places, place_at, record_passes, place_sound, checked}
use Rattle.board.specs.Load.{board_record, zero_byte_at, defaults_at, record_at, phy_at, used_before, record_fault, board_verdict, board_of, no_phys, loaded_by, loaded}
use Rattle.board.proofs.Loading.{loaded_at, used-before}
use Rattle.board.proofs.Soundness.{Sound, Passes, sound-check, no-fault-passes, passes-no-fault}

blank-blank : is_blank blank ≡ true
unfolding is_blank blank every
blank-blank = refl

module _ (file : List ℕ) (n : ℕ) (done : board_verdict file ≡ Done n) where
  pub fits : n ≤ places
  fits = (accepted board_record places (record_fault file) file n done).allowed

  -- each PHY is as its record says: hunting with 0 ones, link down, every register at default
  pub place-fresh : (k : ℕ) → k < n → place_at (board_of n (phy_at file)) k ≡ phy_at file k
  unfolding board_of
  place-fresh k l = loaded_at file (replicate places blank) n k l

  pub place-blank : (k : ℕ) → n ≤ k → k < places → place_at (board_of n (phy_at file)) k ≡ blank
  unfolding board_of
  place-blank k h l =
      let front = tabulate n (phy_at file) in
      let rest = drop n (replicate places blank) in
      let past : k ≡ length front + (k - n) = omega (arith, length-tabulate n (phy_at file)) in
      ap (λ (i : ℕ). get_or (front ++ rest) i nowhere) past
      ∙ get_or-append-add front rest (k - n) nowhere
      ∙ get_or-drop n (replicate places blank) (k - n) nowhere
      ∙ get_or-replicate places (n + (k - n)) blank nowhere (omega arith)

  unused-sound : (k : ℕ) → n ≤ k → k < places → place_sound (board_of n (phy_at file)) k ≡ true
  unfolding place_sound board_of
  unused-sound k h l = rw (le-leb n k h, place-blank k h l) blank-blank

  record-passes : (k : ℕ) → k < n → Passes (zero_byte_at file k) (used_before file k) (record_at file k)
  unfolding record_fault
  record-passes k l = no-fault-passes _ _ _ ((accepted board_record places (record_fault file) file n done).all_pass k l)

  words-right : (k : ℕ) → k < n → words_right (word (defaults_at file k) 0) (word (defaults_at file k) 1) (word (defaults_at file k) 15) ≡ true
  unfolding defaults_right
  words-right k l =
      let r = record_at file k in
      let words = words_right (word r.defaults 0) (word r.defaults 1) (word r.defaults 15) in
      let idle = both (unimplemented_zero r.own.implemented r.defaults r.masks) (masks_zero r.masks && words) (record-passes k l).defaults-right in
      (both (masks_zero r.masks) words idle.1).1

  used_sound : (k : ℕ) → k < n → place_sound (board_of n (phy_at file)) k ≡ true
  unfolding place_sound record_passes board_of phy_at defaults_right
  used_sound k l =
      let r = record_at file k in
      let passes = record-passes k l in
      let used = used-before file (replicate places blank) n k (omega arith) in
      let address : fields_wrong 0 r ≡ false = rw (neither (ltb 31 r.own.address) (not (eqb (zero_byte_at file k) 0)) passes.fields-right).0 in
      let fault = passes-no-fault 0 (used_before file k) r (record {
        fields-right = address;
        address-free = passes.address-free;
        set-right = passes.set-right;
        defaults-right = passes.defaults-right;
      }) in
      rw (lt-leb n k l, place-fresh k l, used, fault) (fresh-sound r.own r.defaults r.masks (words-right k l))

  load-places : Sound (board_of n (phy_at file))
  unfolding board_of
  load-places = record {
    at_most = fits;
    each = λ k l. go k l (leb n k) refl;
  }
    where
      go : (k : ℕ) → k < places → (b : Bool) → leb n k ≡ b → place_sound (board_of n (phy_at file)) k ≡ true
      go k l true e = unused-sound k (leb-true n k e) l
      go k l false e = used_sound k (leb-false n k e)

no-phys-sound : Sound no_phys
unfolding board_of place_sound tabulate
no-phys-sound = record {
  at_most = omega arith;
  each = λ k l. rw (le-leb 0 k (omega arith), get_or-replicate places k blank nowhere l) blank-blank;
}

-- a load, done or refused, hands a sound board back
pub load-sound : (file : List ℕ) → checked (loaded file).board ≡ Done (loaded file).board.count
unfolding loaded
load-sound file = go (board_verdict file) refl
  where
    go : (v : Verdict) → board_verdict file ≡ v → checked (loaded_by v file).board ≡ Done (loaded_by v file).board.count
    go (Done n) e = sound-check (board_of n (phy_at file)) (load-places file n e)
    go (Refused c k) e = sound-check no_phys no-phys-sound

-- a load that is done answers with the number of PHYs, each of which hunts with 0 ones, with its link down and its registers at default
pub record Fresh (p : Phy) : Type 0 where
  pub hunts : p.follower ≡ Hunting 0
  pub link-down : p.link ≡ false
  pub at_default : p.registers ≡ p.defaults
  pub nothing-captured : p.captured ≡ 0

pub load_fresh : (file : List ℕ) (n : ℕ) → (loaded file).verdict ≡ Done n → ((loaded file).board.count ≡ n) × ((k : ℕ) → k < n → Fresh (place_at (loaded file).board k))
unfolding loaded board_of phy_at
load_fresh file n e = go (board_verdict file) refl e
  where
    go : (v : Verdict) → board_verdict file ≡ v → (loaded_by v file).verdict ≡ Done n → ((loaded_by v file).board.count ≡ n) × ((k : ℕ) → k < n → Fresh (place_at (loaded_by v file).board k))
    go (Done m) d e =
        let same : m ≡ n = cc in
        (same, λ k l. rw (place-fresh file m d k (omega arith)) (record { hunts = refl; link-down = refl; at_default = refl; nothing-captured = refl }))
    go (Refused c k) d e = absurd (let z : ◌≡◌ {A = ℕ} 0 1 = cc in omega arith)
