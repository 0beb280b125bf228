-- A run over a ++ b is a run over a, then one over b from where a left off: so a run is told phase by phase. Clocks count only for what happens after them.
use Prim.Native.Nat.{ℕ, suc, ◌+◌, ◌≤◌, ◌<◌}
use mathlib.Core.Path.{◌≡◌, refl, ap, ap₂, sym, ◌∙◌, subst}
use mathlib.Core.Bool.{Bool}
use mathlib.Core.List.{List, [], ◌∷◌, ◌++◌, map, map-append, map-id}
use native.Mathlib.Omega.{arith}
use lib.ListN.{length, length-append}
use Rattle.verdict.specs.Lists.{All}
use Rattle.verdict.proofs.Elements.{all_of, all_append, map_same, map-then}
use Rattle.wire.specs.declared.Drive.{Drive}
use Rattle.wire.specs.Wire.{Party, level_of, drivers, drives_of, events_after, runs, driven, sampled}

module _ {P : Type 0} (party : Party P) where
  pub runs_append : (a b : List Drive) (c c' : ℕ) (ps : List P) → c' ≡ c + length a →
      runs party (a ++ b) c ps ≡ runs party b c' (runs party a c ps)
  unfolding runs
  runs_append [] b c c' ps e =
      let here : c ≡ c' = omega arith in
      ap (λ k. runs party b k ps) here
  runs_append (d ∷ a) b c c' ps e = runs_append a b (suc c) c' _ (omega arith)

  pub driven-append : (a b : List Drive) (c c' : ℕ) (ps : List P) → c' ≡ c + length a →
      driven party (a ++ b) c ps ≡ driven party a c ps ++ driven party b c' (runs party a c ps)
  unfolding runs driven
  driven-append [] b c c' ps e =
      let here : c ≡ c' = omega arith in
      ap (λ k. driven party b k ps) here
  driven-append (d ∷ a) b c c' ps e = ap (λ es. drives_of party d ps ∷ es) (driven-append a b (suc c) c' _ (omega arith))

  -- whatever the others do, a party of a run goes by its levels
  pub runs-sampled : (ds : List Drive) (c : ℕ) (ps : List P) → runs party ds c ps ≡ map (sampled party (map level_of (driven party ds c ps)) c) ps
  unfolding runs driven sampled
  runs-sampled [] c ps = sym (map-id ps)
  runs-sampled (d ∷ ds) c ps =
      let level = level_of (drives_of party d ps) in
      let next = events_after party (suc c) (map (party.samples level) ps) in
      let rest : P → P = sampled party (map level_of (driven party ds (suc c) next)) (suc c) in
      runs-sampled ds (suc c) next
      ∙ map-then rest (party.happens (suc c)) (λ p. rest (party.happens (suc c) p)) (λ p. refl) (map (party.samples level) ps)
      ∙ map-then (λ p. rest (party.happens (suc c) p)) (party.samples level) (λ p. rest (party.happens (suc c) (party.samples level p))) (λ p. refl) ps

  -- a run in which nobody drives against another: its levels, and the clock and the parties that it ends with
  pub record Goes (drives : List Drive) (c : ℕ) (ps : List P) (levels : List Bool) (c' : ℕ) (qs : List P) : Type 0 where
    pub after : runs party drives c ps ≡ qs
    pub levels-are : map level_of (driven party drives c ps) ≡ levels
    pub alone : All (λ ds. drivers ds ≤ 1) (driven party drives c ps)
    pub ends : c' ≡ c + length drives

  module _ {c : ℕ} {ps : List P} where
    pub goes-nil : Goes [] c ps [] c ps
    unfolding runs driven
    goes-nil = record { after = refl; levels-are = refl; alone = tt; ends = omega arith }

    -- one clock, then the rest
    pub goes-cons : {d : Drive} {level : Bool} {ds : List Drive} {levels : List Bool} {c' : ℕ} {qs rs : List P} →
        level_of (drives_of party d ps) ≡ level → drivers (drives_of party d ps) ≤ 1 → events_after party (suc c) (map (party.samples level) ps) ≡ qs →
        Goes ds (suc c) qs levels c' rs → Goes (d ∷ ds) c ps (level ∷ levels) c' rs
    unfolding runs driven
    goes-cons {d} {ds = ds} at alone next rest =
        let here : events_after party (suc c) (map (party.samples (level_of (drives_of party d ps))) ps) ≡ _ = ap (λ l. events_after party (suc c) (map (party.samples l) ps)) at ∙ next in
        record {
          after = ap (runs party ds (suc c)) here ∙ rest.after;
          levels-are = ap₂ (λ l ls. l ∷ ls) at (ap (λ qs. map level_of (driven party ds (suc c) qs)) here ∙ rest.levels-are);
          alone = (alone, subst (λ qs. All (λ es. drivers es ≤ 1) (driven party ds (suc c) qs)) (sym here) rest.alone);
          ends = omega (arith, rest.ends);
        }

    -- one phase, then the next
    pub goes-append : {a b : List Drive} {la lb : List Bool} {c' c'' : ℕ} {qs rs : List P} →
        Goes a c ps la c' qs → Goes b c' qs lb c'' rs → Goes (a ++ b) c ps (la ++ lb) c'' rs
    goes-append {a} {b} {c'} {qs} first then =
        let all : driven party (a ++ b) c ps ≡ driven party a c ps ++ driven party b c' qs = driven-append a b c c' ps first.ends ∙ ap (λ rs. driven party a c ps ++ driven party b c' rs) first.after in
        record {
          after = runs_append a b c c' ps first.ends ∙ ap (runs party b c') first.after ∙ then.after;
          levels-are = ap (map level_of) all ∙ map-append level_of (driven party a c ps) (driven party b c' qs) ∙ ap₂ (λ la lb. la ++ lb) first.levels-are then.levels-are;
          alone = subst (All (λ es. drivers es ≤ 1)) (sym all) (all_append (λ es. drivers es ≤ 1) (driven party a c ps) (driven party b c' qs) first.alone then.alone);
          ends = omega (arith, first.ends, then.ends, length-append a b);
        }

    -- the same run in other words
    pub goes-as : {a b : List Drive} {la lb : List Bool} {c' c'' : ℕ} {qs rs : List P} →
        Goes a c ps la c' qs → a ≡ b → la ≡ lb → c' ≡ c'' → qs ≡ rs → Goes b c ps lb c'' rs
    goes-as {a} run drives levels clock parties =
        record {
          after = ap (λ ds. runs party ds c ps) (sym drives) ∙ run.after ∙ parties;
          levels-are = ap (λ ds. map level_of (driven party ds c ps)) (sym drives) ∙ run.levels-are ∙ levels;
          alone = subst (λ ds. All (λ es. drivers es ≤ 1) (driven party ds c ps)) drives run.alone;
          ends = sym clock ∙ run.ends ∙ ap (λ ds. c + length ds) drives;
        }

    pub goes_to : {a : List Drive} {la : List Bool} {c' : ℕ} {qs rs : List P} → Goes a c ps la c' qs → qs ≡ rs → Goes a c ps la c' rs
    goes_to run parties = goes-as run refl refl refl parties

-- Two runs of the same parties, in which the same happens after n clocks of the one, c being gone, and of the other, c' being gone: all goes alike
module _ {P : Type 0} (first second : ℕ → P → P) where
  pub record HappensAlike (c c' n : ℕ) : Type 0 where
    pub same : (i j : ℕ) → c < i → i ≤ c + n → i + c' ≡ j + c → (p : P) → first i p ≡ second j p

  next-alike : {c c' n : ℕ} → HappensAlike c c' (suc n) → (ps : List P) → map (first (suc c)) ps ≡ map (second (suc c')) ps
  next-alike {c} {c'} alike ps =
      map_same (first (suc c)) (second (suc c')) ps (all_of _ ps (alike.same (suc c) (suc c') (omega arith) (omega arith) (omega arith)))

  rest-alike : {c c' n : ℕ} → HappensAlike c c' (suc n) → HappensAlike (suc c) (suc c') n
  rest-alike alike = record { same = λ i j past within shift. alike.same i j (omega arith) (omega arith) (omega arith) }

  module _ (drives : P → Drive) (samples : Bool → P → P) where
    abbrev with-happening : (ℕ → P → P) → Party P
    with-happening happens = record { drives = drives; samples = samples; happens = happens }

    pub runs-alike : (ds : List Drive) (c c' : ℕ) (ps : List P) → HappensAlike c c' (length ds) → runs (with-happening first) ds c ps ≡ runs (with-happening second) ds c' ps
    unfolding runs
    runs-alike [] c c' ps alike = refl
    runs-alike (d ∷ ds) c c' ps alike =
        ap (runs (with-happening first) ds (suc c)) (next-alike alike (map (samples (level_of (d ∷ map drives ps))) ps))
        ∙ runs-alike ds (suc c) (suc c') _ (rest-alike alike)

    pub driven-alike : (ds : List Drive) (c c' : ℕ) (ps : List P) → HappensAlike c c' (length ds) → driven (with-happening first) ds c ps ≡ driven (with-happening second) ds c' ps
    unfolding driven
    driven-alike [] c c' ps alike = refl
    driven-alike (d ∷ ds) c c' ps alike =
        ap (λ es. (d ∷ map drives ps) ∷ es)
        (ap (driven (with-happening first) ds (suc c)) (next-alike alike (map (samples (level_of (d ∷ map drives ps))) ps))
        ∙ driven-alike ds (suc c) (suc c') _ (rest-alike alike))
