-- Inside a frame all parties have seen the same bits, so a phase of a frame is one induction over what the station drives.
use Prim.Native.Nat.{ℕ, suc, ◌+◌, ◌≤◌, ◌<◌}
use mathlib.Core.Path.{◌≡◌, refl, ap, ap₂, sym, ◌∙◌, subst}
use mathlib.Core.Bool.{Bool, true, false, cond}
use mathlib.Core.List.{List, [], ◌∷◌, map}
use native.Mathlib.Omega.{arith}
use lib.ListN.{length}
use borrow.Author.Tests.{lt-leb, ne_eqb}
use Rattle.verdict.specs.Lists.{All, count}
use Rattle.verdict.proofs.Elements.{map-then, map-past, count_kept}
use Rattle.wire.specs.declared.Drive.{Drive}
use Rattle.wire.specs.declared.Drive.TheVariants.{Released}
use Rattle.wire.specs.declared.Follower.TheVariants.{Inside}
use Rattle.wire.specs.Wire.{Party, level_of, drivers, as_bit, drives_of, events_after}
use Rattle.wire.specs.Follower.{one_more, header_seen, answering}
use Rattle.wire.specs.Machines.{Core, quiet}
use Rattle.wire.proofs.Runs.{Goes, goes-nil, goes-cons}
use Rattle.wire.proofs.Followers.{shown}
use Rattle.wire.proofs.Voices.{Alike, alike-cons, says, one-voice}
use Rattle.agreement.specs.Follows.{Line, Follows}

-- the level that the station's drive makes with so many bits seen, if someone answers a word
abbrev pub hear : Bool → ℕ → ℕ → Drive → Bool
hear someone word seen d = level_of (d ∷ cond someone (answering seen word) Released ∷ [])

abbrev pub hears : Bool → ℕ → ℕ → List Drive → List Bool
hears someone word seen [] = []
hears someone word seen (d ∷ ds) = hear someone word seen d ∷ hears someone word (suc seen) ds

-- whatever the one party says, it does not drive together with the station
abbrev pub Fits : Bool → Drive → Type 0
Fits someone d = (said : Drive) → drivers (d ∷ cond someone said Released ∷ []) ≤ 1

-- a party with so many bits seen, the speaker with the word
abbrev pub guise : {P : Type 0} → Line P → (P → Bool) → ℕ → ℕ → ℕ → P → P
guise line speaker word seen bits p = line.put (Inside seen bits) (cond (speaker p) word 0) p

module _ {P : Type 0} {wire : Party P} {core : Core P} {line : Line P} {Good : P → Type 0} (laws : Follows wire core line Good) where
  -- the events after a clock, told of what the clock makes of the parties
  pub events-of : (c : ℕ) {qs rs : List P} → qs ≡ rs → events_after wire c qs ≡ map (core.happens c) rs
  events-of c same = ap₂ (λ (h : P → P) (qs : List P). map h qs) (laws.same-events c) same

  -- up to its 14th bit a frame is the station's
  pub early : (seen bits w : ℕ) (p : P) → seen ≤ 14 → wire.drives (line.put (Inside seen bits) w p) ≡ Released
  unfolding answering
  early seen bits w p few =
      laws.driving.inside seen bits w p
      ∙ rw (ne_eqb seen 15 (omega arith), lt-leb 16 seen (omega arith)) (either (core.answers (header_seen seen bits) p))
    where
      either : (b : Bool) → cond b Released Released ≡ Released
      either true = refl
      either false = refl

  module _ (speaker : P → Bool) (word : ℕ) (kept : (c : ℕ) (p : P) → speaker (core.happens c p) ≡ speaker p) where
    abbrev in_frame : ℕ → ℕ → P → P
    in_frame = guise line speaker word

    -- events come before or after it
    pub guise-happens : (seen bits c : ℕ) (p : P) → core.happens c (guise line speaker word seen bits p) ≡ guise line speaker word seen bits (core.happens c p)
    guise-happens seen bits c p =
        (laws.keeps-events c).put (Inside seen bits) (cond (speaker p) word 0) p
        ∙ ap (λ b. line.put (Inside seen bits) (cond b word 0) (core.happens c p)) (sym (kept c p))

    -- A phase whose last clock, with `last` bits seen, has an effect; Seen is what is known of the bits seen
    module _ (someone : Bool) (last : ℕ) (Seen : ℕ → ℕ → Type 0) (effect : ℕ → P → P)
        (speaks : (seen bits : ℕ) (p : P) → Seen seen bits → wire.drives (in_frame seen bits p) ≡ says speaker (answering seen word) p)
        (moves : (level : Bool) (seen bits : ℕ) (p : P) → Seen seen bits → seen < last → wire.samples level (in_frame seen bits p) ≡ in_frame (suc seen) (one_more bits level) p)
        (next : (level : Bool) (seen bits : ℕ) → Seen seen bits → seen < last → Seen (suc seen) (one_more bits level))
        (acts : (level : Bool) (bits : ℕ) (p : P) → Seen last bits → wire.samples level (in_frame last bits p) ≡ effect (one_more bits level) p) where
      -- one clock of it: what is heard, and what it makes of the parties
      clock : (d : Drive) (seen bits c : ℕ) (ps : List P) (g : P → P) → Seen seen bits → count speaker ps ≡ as_bit someone → Fits someone d →
          ((p : P) → wire.samples (hear someone word seen d) (in_frame seen bits p) ≡ g p) →
          {ds : List Drive} {levels : List Bool} {c' : ℕ} {qs rs : List P} → map (core.happens (suc c)) (map g ps) ≡ qs → Goes wire ds (suc c) qs levels c' rs →
          Goes wire (d ∷ ds) c (map (in_frame seen bits) ps) (hear someone word seen d ∷ levels) c' rs
      clock d seen bits c ps g known voices fits samples same rest =
          let drive : map wire.drives (map (in_frame seen bits) ps) ≡ map (says speaker (answering seen word)) ps = map-then wire.drives (in_frame seen bits) (says speaker (answering seen word)) (λ p. speaks seen bits p known) ps in
          let said : Alike (drives_of wire d (map (in_frame seen bits) ps)) (d ∷ cond someone (answering seen word) Released ∷ []) = rw drive (alike-cons d _ _ (one-voice speaker (answering seen word) someone ps voices)) in
          goes-cons wire said.level (rw said.number (fits (answering seen word)))
          (events-of (suc c) (map-then (wire.samples (hear someone word seen d)) (in_frame seen bits) g samples ps) ∙ same)
          rest

      pub through : (d : Drive) (ds : List Drive) (seen bits c c' : ℕ) (ps : List P) → seen + length ds ≡ last → c' ≡ c + length ds →
          Seen seen bits → count speaker ps ≡ as_bit someone → All (Fits someone) (d ∷ ds) →
          Goes wire (d ∷ ds) c (map (in_frame seen bits) ps) (hears someone word seen (d ∷ ds)) (suc c')
          (map (core.happens (suc c')) (map (effect (shown bits (hears someone word seen (d ∷ ds)))) (quiet core c (length ds) ps)))
      unfolding quiet
      through d [] seen bits c c' ps place clocks known voices fits =
          let here : seen ≡ last = omega arith in
          let now : c' ≡ c = omega arith in
          let level = hear someone word seen d in
          rw now
          (clock d seen bits c ps (effect (one_more bits level)) known voices fits.0
          (λ p. ap (λ k. wire.samples level (in_frame k bits p)) here ∙ acts level bits p (subst (λ k. Seen k bits) here known))
          refl (goes-nil wire))
      through d (e ∷ ds) seen bits c c' ps place clocks known voices fits =
          let before : seen < last = omega arith in
          let level = hear someone word seen d in
          let more : ℕ = one_more bits level in
          clock d seen bits c ps (in_frame (suc seen) more) known voices fits.0 (λ p. moves level seen bits p known before)
          (map-past (in_frame (suc seen) more) (core.happens (suc c)) (guise-happens (suc seen) more (suc c)) ps)
          (through e ds (suc seen) more (suc c) c' (map (core.happens (suc c)) ps) (omega arith) (omega arith)
          (next level seen bits known before) (count_kept speaker (core.happens (suc c)) (kept (suc c)) ps ∙ voices) fits.1)
