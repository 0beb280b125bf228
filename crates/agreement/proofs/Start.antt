-- Preamble and start: each 1 brings every party nearer to enough ones, so that the 0 starts a frame for all of them.
use Prim.Native.Nat.{ℕ, zero, suc, ◌+◌, ◌≤◌, min}
use mathlib.Core.Path.{◌≡◌, refl, ap, ap₂, sym, ◌∙◌}
use mathlib.Core.Bool.{Bool, true, false, and-true}
use mathlib.Core.List.{List, [], ◌∷◌, ◌++◌, map}
use native.Mathlib.Omega.{arith}
use lib.ListN.{replicate}
use borrow.Author.Tests.{le-leb}
use Rattle.verdict.specs.Lists.{All}
use Rattle.verdict.proofs.Elements.{all_then, all_map, all-map-of, map_same, map-then, map-past, count_none}
use Rattle.frame.specs.Frame.{preamble}
use Rattle.wire.specs.declared.Drive.{Drive}
use Rattle.wire.specs.declared.Drive.TheVariants.{Released, Driven}
use Rattle.wire.specs.declared.Follower.{Follower}
use Rattle.wire.specs.declared.Follower.TheVariants.{Hunting, Inside}
use Rattle.wire.specs.Wire.{Party, level_of, drivers, drives_of}
use Rattle.wire.specs.Follower.{one_more, follow}
use Rattle.wire.specs.Machines.{Core, quiet}
use Rattle.wire.proofs.Runs.{Goes, goes-nil, goes-cons, goes-append, goes_to}
use Rattle.wire.proofs.Quiet.{quiet-map}
use Rattle.wire.proofs.Voices.{Alike, alike-cons, one-voice}
use Rattle.agreement.specs.Follows.{Line, Follows, Keeps, Waits, Ready}
use Rattle.agreement.proofs.Phase.{events-of, early}

at_most_one : (d : Drive) → drivers (d ∷ Released ∷ []) ≤ 1
at_most_one Released = omega arith
at_most_one (Driven l) = omega arith

module _ {P : Type 0} {wire : Party P} {core : Core P} {line : Line P} {Good : P → Type 0} (laws : Follows wire core line Good) where
  -- a clock in which nobody but the station may drive
  silent-clock : (d : Drive) (level : Bool) (g : P → P) (c : ℕ) (ps : List P) → All (λ p. wire.drives p ≡ Released) ps →
      level_of (d ∷ Released ∷ []) ≡ level → All (λ p. wire.samples level p ≡ g p) ps →
      Goes wire (d ∷ []) c ps (level ∷ []) (suc c) (map (core.happens (suc c)) (map g ps))
  silent-clock d level g c ps silent hears samples =
      let nobody = one-voice (λ p. false) Released false ps (count_none (λ p. false) ps (λ p. refl)) in
      let said : Alike (drives_of wire d ps) (d ∷ Released ∷ []) = rw (map_same wire.drives (λ p. Released) ps silent) (alike-cons d _ _ nobody) in
      goes-cons wire (said.level ∙ hears) (rw said.number (at_most_one d))
      (events-of laws (suc c) (map_same (wire.samples level) g ps samples))
      (goes-nil wire)

  -- such a clock where all parties have one follower and one captured word, before and after
  pub put-clock : (d : Drive) (level : Bool) (f g : Follower) (v w c : ℕ) (ps : List P) → ((p : P) → wire.drives (line.put f v p) ≡ Released) →
      level_of (d ∷ Released ∷ []) ≡ level → ((p : P) → wire.samples level (line.put f v p) ≡ line.put g w p) →
      Goes wire (d ∷ []) c (map (line.put f v) ps) (level ∷ []) (suc c) (map (line.put g w) (map (core.happens (suc c)) ps))
  put-clock d level f g v w c ps silent hears samples =
      let again : (p : P) → line.put g w (line.put f v p) ≡ line.put g w p = laws.fields.again g f v w in
      goes_to wire
      (silent-clock d level (line.put g w) c (map (line.put f v) ps)
      (all-map-of (λ p. wire.drives p ≡ Released) (line.put f v) ps silent)
      hears
      (all-map-of (λ p. wire.samples level p ≡ line.put g w p) (line.put f v) ps (λ p. samples p ∙ sym (again p))))
      (ap (map (core.happens (suc c))) (map-then (line.put g w) (line.put f v) (line.put g w) again ps)
      ∙ map-past (line.put g w) (core.happens (suc c)) ((laws.keeps-events (suc c)).put g w) ps)

  -- parties that differ in follower and captured word alone go on so
  quiet-alike : (f : Follower) (w c n : ℕ) (ps qs : List P) → map (line.put f w) ps ≡ map (line.put f w) qs →
      map (line.put f w) (quiet core c n ps) ≡ map (line.put f w) (quiet core c n qs)
  quiet-alike f w c n ps qs same =
      let past = quiet-map core (line.put f w) (λ c. (laws.keeps-events c).put f w) c n in
      sym (past ps) ∙ ap (quiet core c n) same ∙ past qs

  -- what effects and events leave: follower and captured word; so a party that waits, waiting, and one that is ready, ready
  module _ (effect : P → P) (keeps : Keeps wire core line Good effect) (p : P) where
    untouched : effect p ≡ line.put (line.follower p) (line.captured p) (effect p)
    untouched = ap effect (sym (laws.fields.same p)) ∙ keeps.put (line.follower p) (line.captured p) p

    pub follower-kept : line.follower (effect p) ≡ line.follower p
    follower-kept = ap line.follower untouched ∙ laws.fields.follower _ _ (effect p)

    pub captured-kept : line.captured (effect p) ≡ line.captured p
    captured-kept = ap line.captured untouched ∙ laws.fields.captured _ _ (effect p)

    pub waits_kept : Waits line Good p → Waits line Good (effect p)
    waits_kept w = record { good = keeps.good p w.good; ones = w.ones; hunts = follower-kept ∙ w.hunts; empty = captured-kept ∙ w.empty }

  -- so all of them wait after events, and a whole preamble is enough for all
  pub events-wait : (c : ℕ) (ps : List P) → All (Waits line Good) ps → All (Waits line Good) (map (core.happens c) ps)
  events-wait c ps = all_map (Waits line Good) (Waits line Good) (core.happens c) ps (waits_kept (core.happens c) (laws.keeps-events c))

  pub whole-preamble : (ps : List P) → All (Waits line Good) ps → All (Ready line Good preamble) ps
  whole-preamble ps =
      all_then (Waits line Good) (Ready line Good preamble) ps (λ p w. record { waits = w; enough = omega (arith, laws.few-enough p w.good) })

  ready-kept : (effect : P → P) → Keeps wire core line Good effect → (m : ℕ) (p : P) → Ready line Good m p → Ready line Good m (effect p)
  unfolding waits_kept
  ready-kept effect keeps m p r = record { waits = waits_kept effect keeps p r.waits; enough = rw (keeps.enough p r.waits.good) r.enough }

  module _ (m : ℕ) (p : P) (r : Ready line Good m p) where
    ready-is : p ≡ line.put (Hunting r.waits.ones) 0 p
    ready-is = sym (laws.fields.same p) ∙ ap₂ (λ f w. line.put f w p) r.waits.hunts r.waits.empty

    ready-silent : wire.drives p ≡ Released
    ready-silent = ap wire.drives ready-is ∙ laws.driving.hunting r.waits.ones 0 p

    ready-samples : (level : Bool) → wire.samples level p ≡ line.put (follow (line.enough p) level (line.follower p)) 0 p
    ready-samples level =
        ap (wire.samples level) ready-is
        ∙ laws.sampling.hunting level r.waits.ones p
        ∙ ap (λ f. line.put (follow (line.enough p) level f) 0 p) (sym r.waits.hunts)

  -- what a 1 makes of a party that hunts
  abbrev nearer : P → P
  nearer p = line.put (follow (line.enough p) true (line.follower p)) 0 p

  ready-nearer : (m : ℕ) (p : P) → Ready line Good (suc m) p → Ready line Good m (nearer p)
  unfolding follow
  ready-nearer m p r =
      record {
        waits = record {
          good = laws.fields.good _ _ p r.waits.good;
          ones = min (r.waits.ones + 1) 32;
          hunts = laws.fields.follower _ _ p ∙ ap (follow (line.enough p) true) r.waits.hunts;
          empty = laws.fields.captured _ _ p;
        };
        enough = rw (laws.fields.enough _ _ p) (omega (arith, r.enough, laws.few-enough p r.waits.good));
      }

  -- what a 0 makes of a party with enough ones
  ready-starts : (p : P) → Ready line Good 0 p → wire.samples false p ≡ line.put (Inside 1 0) 0 p
  unfolding follow
  ready-starts p r =
      let full : line.enough p ≤ r.waits.ones = omega (arith, r.enough) in
      ready-samples 0 p r false ∙ rw (r.waits.hunts, le-leb (line.enough p) r.waits.ones full)

  -- the preamble's ones, then the start: a 0 and a second bit
  pub starts : (second : Bool) (m c c' : ℕ) (ps : List P) → c' ≡ c + m → All (Ready line Good m) ps →
      Goes wire (replicate m (Driven true) ++ (Driven false ∷ Driven second ∷ [])) c ps (replicate m true ++ (false ∷ second ∷ [])) (suc (suc c'))
      (map (line.put (Inside 2 (one_more 0 second)) 0) (quiet core c (suc (suc m)) ps))
  unfolding quiet follow
  starts second zero c c' ps clocks ready =
      let now : c' ≡ c = omega arith in
      rw now
      (goes-append wire
      (goes_to wire
      (silent-clock (Driven false) false (line.put (Inside 1 0) 0) c ps
      (all_then (Ready line Good 0) (λ p. wire.drives p ≡ Released) ps (ready-silent 0) ready)
      refl
      (all_then (Ready line Good 0) (λ p. wire.samples false p ≡ line.put (Inside 1 0) 0 p) ps ready-starts ready))
      (map-past (line.put (Inside 1 0) 0) (core.happens (suc c)) ((laws.keeps-events (suc c)).put (Inside 1 0) 0) ps))
      (put-clock (Driven second) second (Inside 1 0) (Inside 2 (one_more 0 second)) 0 0 (suc c) (map (core.happens (suc c)) ps)
      (λ p. early laws 1 0 0 p (omega arith))
      (and-true second)
      (λ p. laws.sampling.inside second 1 0 0 p (omega arith) (omega arith))))
  starts second (suc m) c c' ps clocks ready =
      let start : Follower = Inside 2 (one_more 0 second) in
      goes-append wire
      (silent-clock (Driven true) true nearer c ps
      (all_then (Ready line Good (suc m)) (λ p. wire.drives p ≡ Released) ps (ready-silent (suc m)) ready)
      refl
      (all_then (Ready line Good (suc m)) (λ p. wire.samples true p ≡ nearer p) ps (λ p r. ready-samples (suc m) p r true) ready))
      (goes_to wire (starts second m (suc c) c' _ (omega arith) nearer-ready)
      (quiet-alike start 0 c (suc (suc (suc m))) (map nearer ps) ps (map-then (line.put start 0) nearer (line.put start 0) (λ p. laws.fields.again start _ 0 0 p) ps)))
    where
      nearer-ready : All (Ready line Good m) (map (core.happens (suc c)) (map nearer ps))
      nearer-ready =
          all_map (Ready line Good m) (Ready line Good m) (core.happens (suc c)) (map nearer ps) (ready-kept (core.happens (suc c)) (laws.keeps-events (suc c)) m)
          (all_map (Ready line Good (suc m)) (Ready line Good m) nearer ps (ready-nearer m) ready)
