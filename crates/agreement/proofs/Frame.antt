-- The two phases of a frame after its start: the header up to its effect, then turnaround and data up to the frame's end.
use Prim.Native.Nat.{ℕ, suc, ◌+◌, ◌%◌, ◌^◌, ◌≤◌, ◌<◌}
use mathlib.Core.Path.{◌≡◌, refl, ap, ◌∙◌}
use mathlib.Core.Bool.{Bool, true, false, cond}
use mathlib.Core.List.{List, [], ◌∷◌, map}
use native.Mathlib.Omega.{arith}
use native.Mathlib.Numerals.{add-one}
use lib.ListN.{length}
use Rattle.verdict.specs.Lists.{All, count}
use Rattle.verdict.proofs.Elements.{count_none}
use Rattle.wire.specs.declared.Drive.{Drive}
use Rattle.wire.specs.declared.Drive.TheVariants.{Released}
use Rattle.wire.specs.declared.Follower.TheVariants.{Hunting, Inside}
use Rattle.wire.specs.declared.Header.{Header}
use Rattle.wire.specs.Wire.{Party, as_bit}
use Rattle.wire.specs.Follower.{one_more, header_seen, answering}
use Rattle.wire.specs.Machines.{Core, quiet}
use Rattle.wire.proofs.Runs.{Goes}
use Rattle.wire.proofs.Voices.{says}
use Rattle.wire.proofs.Followers.{more-fits, header-stays, goes_on, shown}
use Rattle.agreement.specs.Follows.{Line, header_done, Follows}
use Rattle.agreement.proofs.Phase.{hears, Fits, guise, early, through}
use Rattle.agreement.proofs.Seen.{nobody-fits}

-- what the last clock of a frame with this header makes of a party, with the bits seen after it
abbrev pub frame_effect : {P : Type 0} → Core P → Line P → Header → ℕ → P → P
frame_effect core line h bits p = line.put (Hunting 0) 0 (core.after_frame h (bits % 2 ^ 16) p)

-- bits seen of a frame with this header
record Behind (h : Header) (seen bits : ℕ) : Type 0 where
  from : 14 ≤ seen
  to : seen ≤ 31
  fits : bits < 2 ^ seen
  header : header_seen seen bits ≡ h

behind-next : (h : Header) (level : Bool) (seen bits : ℕ) → Behind h seen bits → seen < 31 → Behind h (suc seen) (one_more bits level)
behind-next h level seen bits b before =
    record {
      from = omega (arith, b.from);
      to = before;
      fits = more-fits seen bits b.fits b.to level;
      header = header-stays seen bits b.fits b.to level seen b.from ∙ b.header;
    }

module _ {P : Type 0} {wire : Party P} {core : Core P} {line : Line P} {Good : P → Type 0} (laws : Follows wire core line Good) where
  -- a clock without effect
  moves : (level : Bool) (seen bits w : ℕ) (p : P) → seen < 31 → (seen ≡ 13 → ⊥) →
      wire.samples level (line.put (Inside seen bits) w p) ≡ line.put (Inside (suc seen) (one_more bits level)) w p
  moves level seen bits w p before ordinary =
      laws.sampling.inside level seen bits w p before ordinary
      ∙ ap (λ f. line.put f w p) (goes_on (line.enough p) level seen bits before ∙ ap (λ k. Inside k (one_more bits level)) (add-one seen))

  -- the header from the second bit on: the station sends, nobody answers yet
  pub header-phase : (ds : List Drive) (bits c c' : ℕ) (ps : List P) → length ds ≡ 12 → c' ≡ c + 11 →
      Goes wire ds c (map (line.put (Inside 2 bits) 0) ps) (hears false 0 2 ds) (suc c')
      (map (core.happens (suc c')) (map (header_done core line (shown bits (hears false 0 2 ds))) (quiet core c 11 ps)))
  header-phase [] bits c c' ps long clocks = absurd (omega arith)
  header-phase (d ∷ ds) bits c c' ps long clocks =
      let left : length ds ≡ 11 = omega arith in
      rw left at
      (through laws (λ p. false) 0 (λ c p. refl) false 13 (λ seen bits. (2 ≤ seen) × (seen ≤ 13)) (header_done core line)
      (λ seen bits p within. early laws seen bits 0 p (omega arith))
      (λ level seen bits p within before. moves level seen bits 0 p (omega arith) (omega arith))
      (λ level seen bits within before. (omega arith, omega arith))
      (λ level bits p within. laws.sampling.header level bits p)
      d ds 2 bits c c' ps (omega arith) (omega arith) (omega arith, omega arith) (count_none (λ p. false) ps (λ p. refl)) (nobody-fits (d ∷ ds)))

  -- who answers the header drives what it captured
  own-drives : (h : Header) (word seen bits : ℕ) (p : P) → Behind h seen bits → wire.drives (guise line (core.answers h) word seen bits p) ≡ says (core.answers h) (answering seen word) p
  own-drives h word seen bits p b =
      laws.driving.inside seen bits _ p
      ∙ ap (λ k. cond (core.answers k p) (answering seen (cond (core.answers h p) word 0)) Released) b.header
      ∙ own (core.answers h p)
    where
      own : (b : Bool) → cond b (answering seen (cond b word 0)) Released ≡ cond b (answering seen word) Released
      own true = refl
      own false = refl

  -- turnaround and data: at most one party answers
  pub frame-phase : (h : Header) (someone : Bool) (word : ℕ) (ds : List Drive) (bits c c' : ℕ) (ps : List P) → length ds ≡ 18 → c' ≡ c + 17 →
      bits < 2 ^ 14 → header_seen 14 bits ≡ h → count (core.answers h) ps ≡ as_bit someone → All (Fits someone) ds →
      Goes wire ds c (map (guise line (core.answers h) word 14 bits) ps) (hears someone word 14 ds) (suc c')
      (map (core.happens (suc c')) (map (frame_effect core line h (shown bits (hears someone word 14 ds))) (quiet core c 17 ps)))
  frame-phase h someone word [] bits c c' ps long clocks fits header voices alone = absurd (omega arith)
  frame-phase h someone word (d ∷ ds) bits c c' ps long clocks fits header voices alone =
      let left : length ds ≡ 17 = omega arith in
      rw left at
      (through laws (core.answers h) word (λ c. (laws.keeps-events c).answers h) someone 31 (Behind h) (frame_effect core line h)
      (own-drives h word)
      (λ level seen bits p b before. moves level seen bits _ p before (omega (arith, b.from)))
      (behind-next h)
      (λ level bits p b. laws.sampling.end level bits _ p ∙ ap (λ k. line.put (Hunting 0) 0 (core.after_frame k (one_more bits level % 2 ^ 16) p)) (header-stays 31 bits b.fits b.to level 31 b.from ∙ b.header))
      d ds 14 bits c c' ps (omega arith) (omega arith) (record { from = omega arith; to = omega arith; fits = fits; header = header }) voices alone)
