-- Every method of a PHY keeps it sound: the clauses of registers and link, of the follower and of the captured word one by one.
use Prim.Native.Nat.{ℕ, ◌-◌, ◌/◌, ◌^◌, ◌<◌}
use mathlib.Core.Path.{◌≡◌, refl, sym, ap, subst, ◌∙◌}
use mathlib.Core.Logic.{inl, inr}
use mathlib.Core.Bool.{Bool, true, false, not, ◌&&◌, ◌||◌, cond, or-true, true≢false}
use native.Mathlib.Omega.{arith}
use native.Mathlib.Nat.{div-eq_of_lt, div-lt_iff_lt-mul, one-mul}
use native.Mathlib.Decide.{ℕ_discrete}
use lib.Dec.{eqb, leb}
use lib.Pow.{pow_pos}
use borrow.Author.Tests.{eq-eqb, eqb-true, eqb-false, le-leb, leb-true, not-true}
use Rattle.wire.specs.declared.Follower.{Follower}
use Rattle.wire.specs.declared.Follower.TheVariants.{Hunting, Inside}
use Rattle.wire.specs.declared.Header.{Header}
use Rattle.wire.specs.Follower.{header_seen}
use Rattle.phy.specs.declared.Phy.{Phy}
use Rattle.phy.specs.Fields.{default_of, mask_of, with_line}
use Rattle.phy.specs.Own.{implements, answers, stores}
use Rattle.phy.specs.Registers.{in_reset, write_ordinary, read_status, after_read, write_by, after_write}
use Rattle.phy.specs.Control.{write_control}
use Rattle.phy.specs.Events.{event}
use Rattle.phy.specs.Clock.{enough, after_header, after_frame, clock}
use Rattle.phy.specs.Typed.{Typed}
use Rattle.phy.specs.Record.{register_set_right, unimplemented_zero, masks_zero, status_clear, extended_clear, some_ability, control_derived, words_right, defaults_right}
use Rattle.phy.specs.Sound.{registers_stand, others_at_default, follower_sound, first_bit, in_own_read, captured_sound, phy_sound}
use Rattle.phy.proofs.Every.{both}
use Rattle.phy.proofs.Implemented.{implemented_below}
use Rattle.phy.proofs.Clauses.{Bank, Clauses, sound-clauses, clauses-sound}
use Rattle.phy.proofs.Clocks.{OwnRead}
use Rattle.phy.proofs.Lines.{clock-hunting, clock-inside, clock-header, clock-frame}
use Rattle.phy.proofs.Followers.{clock-follows}
use Rattle.phy.proofs.Frames.{Started, follow-started, CapturedOnly, own-here, clock-captured}
use Rattle.phy.proofs.Headers.{foreign-unanswered}
use Rattle.phy.proofs.Foreign.{Foreign, not_ours}
use Rattle.phy.proofs.Effects.{Effect, event-effect, after_read-effect, after_header-effect, after_write-effect, after_frame-effect}
use Rattle.phy.proofs.Keeping.{keeps-own, keeps-follower, keeps-captured, keeps_typed, clock-record, clock-typed}
use Rattle.phy.proofs.Banks.{event-bank, read-bank, ordinary-bank}
use Rattle.phy.proofs.ControlBanks.{control-bank}

-- a PHY whose record passes checks 5 and 6, and which is sound
pub record SoundPhy (p : Phy) : Type 0 where
  pub typed : Typed p
  pub set-right : register_set_right p.own.implemented p.defaults ≡ true
  pub defaults-right : defaults_right p.own.implemented p.defaults p.masks ≡ true
  pub sound : phy_sound p ≡ true

-- Registers and link
module _ (p : Phy) (s : SoundPhy p) where
  bank : Bank p
  bank = (sound-clauses p s.sound).bank

  -- what check 6 says of the masks and of the words of registers 0, 1 and 15
  right : (masks_zero p.masks ≡ true) × (words_right (default_of 0 p) (default_of 1 p) (default_of 15 p) ≡ true)
  unfolding defaults_right
  right =
      let words = words_right (default_of 0 p) (default_of 1 p) (default_of 15 p) in
      both (masks_zero p.masks) words (both (unimplemented_zero p.own.implemented p.defaults p.masks) (masks_zero p.masks && words) s.defaults-right).1

  -- "masks of (..) 15 zero"
  fixed-mask : mask_of 15 p ≡ 0
  fixed-mask =
      let zero : ℕ → Bool = λ r. eqb (mask_of r p) 0 in
      let after = (both (zero 0) (zero 1 && (zero 2 && (zero 3 && zero 15))) right.0).1 in
      let after1 = (both (zero 1) (zero 2 && (zero 3 && zero 15)) after).1 in
      let after2 = (both (zero 2) (zero 3 && zero 15) after1).1 in
      eqb-true (mask_of 15 p) 0 (both (zero 3) (zero 15) after2).1

  -- "default 1.5, 1.4, 1.2, 1.1 zero"
  status-clear : status_clear (default_of 1 p) ≡ true
  unfolding words_right
  status-clear =
      let derived = control_derived (default_of 0 p) (default_of 1 p) (default_of 15 p) in
      (both (status_clear (default_of 1 p)) (extended_clear (default_of 15 p) && (some_ability (default_of 1 p) (default_of 15 p) && derived)) right.1).0

  after_read_lem : (r : ℕ) → Bank (after_read r p)
  unfolding after_read
  after_read_lem r = go (eqb r 1)
    where
      go : (t : Bool) → Bank (cond t (read_status p) p)
      go true = read-bank p s.typed.words.registers bank status-clear
      go false = bank

  after-header : (header : Header) → Bank (after_header header p)
  unfolding after_header
  after-header header = go (answers header p.own)
    where
      go : (t : Bool) → Bank (cond t (after_read header.register p) p)
      go true = after_read_lem header.register
      go false = bank

  written : (r word : ℕ) → r < 32 → in_reset p ≡ false → Bank (write_by r word p)
  unfolding write_by in_reset
  written r word below out = go (eqb r 0) (eqb r 1) refl refl
    where
      go : (a b : Bool) → eqb r 0 ≡ a → eqb r 1 ≡ b → Bank (cond a (write_control word p) (cond b p (write_ordinary r word p)))
      go true b e0 e1 = control-bank word p s.typed.words.defaults s.typed.words.registers right.1 bank
      go false true e0 e1 = bank
      go false false e0 e1 = ordinary-bank p s.typed.words.registers bank r word (eqb-false r 0 e0) (eqb-false r 1 e1) below fixed-mask out

  after_write_lem : (r word : ℕ) → Bank (after_write r word p)
  unfolding after_write
  after_write_lem r word = go (implements r p.own && not (in_reset p)) refl
    where
      go : (t : Bool) → (implements r p.own && not (in_reset p)) ≡ t → Bank (cond t (write_by r word p) p)
      go true e =
          let asked = both (implements r p.own) (not (in_reset p)) e in
          written r word (implemented_below r p.own asked.0) (not-true (in_reset p) asked.1)
      go false e = bank

  after_frame_lem : (header : Header) (word : ℕ) → Bank (after_frame header word p)
  unfolding after_frame
  after_frame_lem header word = go (stores header p.own)
    where
      go : (t : Bool) → Bank (cond t (after_write header.register word p) p)
      go true = after_write_lem header.register word
      go false = bank

-- an effect that leaves registers and link sound leaves the PHY sound
module _ {f : Phy → Phy} (effect : Effect f) (p : Phy) (s : SoundPhy p) where
  kept_by : Bank (f p) → SoundPhy (f p)
  kept_by b =
      record {
        typed = keeps_typed effect p s.typed;
        set-right = ap (λ r. register_set_right r.own.implemented r.defaults) (effect.leaves p) ∙ s.set-right;
        defaults-right = ap (λ r. defaults_right r.own.implemented r.defaults r.masks) (effect.leaves p) ∙ s.defaults-right;
        sound = clauses-sound (f p)
            record {
              bank = b;
              follower-sound = ap follower_sound (keeps-follower effect p) ∙ now.follower-sound;
              captured-sound = rw (keeps-own effect p, keeps-follower effect p, keeps-captured effect p) now.captured-sound;
            };
      }
    where
      now : Clauses p
      now = sound-clauses p s.sound

pub event-sound : (code : ℕ) (p : Phy) → SoundPhy p → SoundPhy (event code p)
event-sound code p s = kept_by (event-effect code) p s (event-bank p s.typed.words.registers (bank p s) code)

pub after_read-sound : (r : ℕ) (p : Phy) → SoundPhy p → SoundPhy (after_read r p)
after_read-sound r p s = kept_by (after_read-effect r) p s (after_read_lem p s r)

pub after_header-sound : (header : Header) (p : Phy) → SoundPhy p → SoundPhy (after_header header p)
after_header-sound header p s = kept_by (after_header-effect header) p s (after-header p s header)

pub after_write-sound : (r word : ℕ) (p : Phy) → SoundPhy p → SoundPhy (after_write r word p)
after_write-sound r word p s = kept_by (after_write-effect r word) p s (after_write_lem p s r word)

pub after_frame-sound : (header : Header) (word : ℕ) (p : Phy) → SoundPhy p → SoundPhy (after_frame header word p)
after_frame-sound header word p s = kept_by (after_frame-effect header word) p s (after_frame_lem p s header word)

-- The follower: "hunting with 0 to 32 ones, or inside a frame with 1 to 31 bits, the first 0"
below_power : (bits k : ℕ) → bits / 2 ^ k ≡ 0 → bits < 2 ^ k
below_power bits k e = subst (λ (m : ℕ). bits < m) (one-mul (2 ^ k)) ((div-lt_iff_lt-mul (pow_pos k)).0 (omega (arith, e)))

sound-started : (f : Follower) → follower_sound f ≡ true → Started f
unfolding follower_sound
sound-started (Hunting ones) h = leb-true ones 32 h
sound-started (Inside seen bits) h =
    let least = both (leb 1 seen) (leb seen 31 && eqb (first_bit seen bits) 0) h in
    let most = both (leb seen 31) (eqb (first_bit seen bits) 0) least.1 in
    (leb-true 1 seen least.0, leb-true seen 31 most.0, below_power bits (seen - 1) (eqb-true (first_bit seen bits) 0 most.1))

started-sound : (f : Follower) → Started f → follower_sound f ≡ true
unfolding follower_sound
started-sound (Hunting ones) h = le-leb ones 32 h
started-sound (Inside seen bits) h = rw (le-leb 1 seen h.0, le-leb seen 31 h.1, eq-eqb (first_bit seen bits) 0 (div-eq_of_lt h.2))

-- The captured word: "only in an own read of an implemented register from its 14th bit on, else 0"
sound-captured : (p : Phy) → captured_sound p ≡ true → CapturedOnly p
unfolding in_own_read
sound-captured p h = go (in_own_read p.own p.follower) refl
  where
    reads : (f : Follower) → p.follower ≡ f → in_own_read p.own f ≡ true → OwnRead 14 p
    reads (Hunting ones) now e = absurd (let z : ◌≡◌ {A = ℕ} 0 1 = cc in omega arith)
    reads (Inside seen bits) now e =
        let least = both (leb 14 seen) (leb seen 31 && answers (header_seen seen bits) p.own) e in
        let most = both (leb seen 31) (answers (header_seen seen bits) p.own) least.1 in
        record { seen = seen; bits = bits; now = now; own = most.1; from = leb-true 14 seen least.0; upto = leb-true seen 31 most.0 }

    go : (t : Bool) → in_own_read p.own p.follower ≡ t → CapturedOnly p
    go true e = inr (reads p.follower refl e)
    go false e = inl (eqb-true p.captured 0 (rw e at h))

-- so in a frame that starts 00 a sound PHY has captured nothing
pub foreign-empty : (p : Phy) (seen bits : ℕ) → phy_sound p ≡ true → p.follower ≡ Inside seen bits → Foreign seen bits → p.captured ≡ 0
foreign-empty p seen bits sound now f = go (sound-captured p (sound-clauses p sound).captured-sound)
  where
    go : CapturedOnly p → p.captured ≡ 0
    go (inl none) = none
    go (inr read) =
        let own = own-here p seen bits now read in
        absurd (true≢false (sym own.1 ∙ foreign-unanswered (header_seen seen bits) p.own (not_ours seen bits own.0 f.zeros)))

captured-sound : (p : Phy) → CapturedOnly p → captured_sound p ≡ true
unfolding in_own_read
captured-sound p (inl none) = ap (λ (w : ℕ). in_own_read p.own p.follower || eqb w 0) none ∙ or-true (in_own_read p.own p.follower)
captured-sound p (inr read) = ap (λ (t : Bool). t || eqb p.captured 0) (ap (in_own_read p.own) read.now ∙ reads)
  where
    reads : in_own_read p.own (Inside read.seen read.bits) ≡ true
    reads = rw (le-leb 14 read.seen read.from, le-leb read.seen 31 read.upto, read.own)

-- registers and link do not go by follower and captured word
line-bank : (f : Follower) (w : ℕ) (p : Phy) → Bank p → Bank (with_line f w p)
unfolding registers_stand others_at_default
line-bank f w p b =
    record {
      registers-stand = b.registers-stand;
      status-stands = b.status-stands;
      control = b.control;
      reset-stands = b.reset-stands;
      complete-negotiates = b.complete-negotiates;
      held-link-up = b.held-link-up;
    }

-- a clock: at the 14th bit a header's effect, at the 32nd a frame's
module _ (level : Bool) (p : Phy) (s : SoundPhy p) where
  clock-bank : Bank (clock level p)
  clock-bank = go p.follower refl
    where
      at : (f g : Follower) (w : ℕ) (q : Phy) → p.follower ≡ f → clock level (with_line f p.captured p) ≡ with_line g w q → Bank q → Bank (clock level p)
      at f g w q now is b = subst Bank (sym (ap (λ h. clock level (with_line h p.captured p)) now ∙ is)) (line-bank g w q b)

      go : (f : Follower) → p.follower ≡ f → Bank (clock level p)
      go (Hunting ones) now = at (Hunting ones) _ _ p now (clock-hunting level ones p.captured p) (bank p s)
      go (Inside seen bits) now = by (ℕ_discrete seen 13) (ℕ_discrete seen 31)
        where
          here : (n : ℕ) → seen ≡ n → p.follower ≡ Inside n bits
          here n e = now ∙ ap (λ (k : ℕ). Inside k bits) e

          by : Dec (seen ≡ 13) → Dec (seen ≡ 31) → Bank (clock level p)
          by (yes e) d = at (Inside 13 bits) _ _ _ (here 13 e) (clock-header level bits p.captured p) (after-header p s _)
          by (no n13) (yes e) = at (Inside 31 bits) _ _ _ (here 31 e) (clock-frame level bits p.captured p) (after_frame_lem p s _ _)
          by (no n13) (no n31) = at (Inside seen bits) _ _ p now (clock-inside level seen bits p.captured p n13 n31) (bank p s)

  pub clock-sound : SoundPhy (clock level p)
  clock-sound =
      record {
        typed = clock-typed level p s.typed;
        set-right = ap (λ r. register_set_right r.own.implemented r.defaults) (clock-record level p) ∙ s.set-right;
        defaults-right = ap (λ r. defaults_right r.own.implemented r.defaults r.masks) (clock-record level p) ∙ s.defaults-right;
        sound = clauses-sound (clock level p)
            record {
              bank = clock-bank;
              follower-sound = ap follower_sound (clock-follows level p) ∙ started-sound _ (follow-started (enough p) level p.follower started);
              captured-sound = captured-sound (clock level p) (clock-captured level p started (sound-captured p now.captured-sound));
            };
      }
    where
      now : Clauses p
      now = sound-clauses p s.sound

      started : Started p.follower
      started = sound-started p.follower now.follower-sound
