-- Both machines go over all places at once: a clock, the events after it, a header and a frame's end each change every party by one function. So a machine changes every party by one function, which has what all of these have.
use Prim.Native.Nat.{ℕ, zero, suc, ◌+◌, ◌-◌}
use mathlib.Core.Path.{◌≡◌, refl, sym, ap, subst, ◌∙◌}
use mathlib.Core.Bool.{Bool, true, false, cond}
use mathlib.Core.List.{List, [], ◌∷◌, map}
use lib.ListN.{length, length-map}
use Rattle.verdict.specs.Lists.{All}
use Rattle.verdict.proofs.Elements.{all_map, map-then, map-stays}
use Rattle.frame.specs.declared.list.Transaction.{Transaction}
use Rattle.frame.specs.List.{is_read}
use Rattle.wire.specs.declared.Drive.{Drive}
use Rattle.wire.specs.declared.Header.{Header}
use Rattle.wire.specs.Wire.{Party, runs}
use Rattle.wire.specs.Machines.{Core, header_for, before_reads, before_writes, clocks_with, quiet, acting, left_by_read, left_by_write, plain_after, plain_parties}

module _ {P : Type 0} (Q : (P → P) → Type 0) where
  -- doing nothing has the property, and so has one change after another
  pub record Closed : Type 0 where
    pub nothing : Q (λ p. p)
    pub after : (f g : P → P) → Q f → Q g → Q (λ p. g (f p))

  -- parties that become others by one change of each
  pub record Each (before after : List P) : Type 0 where
    pub on-each : P → P
    pub is : Q on-each
    pub maps : after ≡ map on-each before

-- one property from another
pub each-as : {P : Type 0} {Q R : (P → P) → Type 0} {ps qs : List P} → ((f : P → P) → Q f → R f) → Each Q ps qs → Each R ps qs
each-as turn each = record { on-each = each.on-each; is = turn each.on-each each.is; maps = each.maps }

-- as many as they were
pub each-length : {P : Type 0} {Q : (P → P) → Type 0} {ps qs : List P} → Each Q ps qs → length qs ≡ length ps
each-length {ps = ps} each = ap length each.maps ∙ length-map ps each.on-each

-- what relates every party to itself, and to what two changes make of it, is such a property
pub closed-by : {P : Type 0} (R : P → P → Type 0) → ((p : P) → R p p) → ((p q r : P) → R p q → R q r → R p r) → Closed (λ (f : P → P). (p : P) → R p (f p))
closed-by R same then = record { nothing = same; after = λ f g rf rg p. then p (f p) (g (f p)) (rf p) (rg (f p)) }

-- what each change leaves as it was stands at every place
module _ {P X : Type 0} (of : P → X) where
  abbrev pub Leaves : (P → P) → Type 0
  Leaves f = (p : P) → of (f p) ≡ of p

  pub leaves-closed : Closed Leaves
  leaves-closed = closed-by (λ p q. of q ≡ of p) (λ p. refl) (λ p q r first then. then ∙ first)

  pub each-leaves : {ps qs : List P} → Each Leaves ps qs → map of qs ≡ map of ps
  each-leaves {ps} each = ap (map of) each.maps ∙ map-then of each.on-each of each.is ps

-- what each change keeps true is true at every place
module _ {P : Type 0} (R : P → Type 0) where
  abbrev pub Keeps : (P → P) → Type 0
  Keeps f = (p : P) → R p → R (f p)

  pub keeps-closed : Closed Keeps
  keeps-closed = closed-by (λ p q. R p → R q) (λ p r. r) (λ p q r first then h. then (first h))

  pub each_keeps : {ps qs : List P} → Each Keeps ps qs → All R ps → All R qs
  each_keeps {ps} each all = subst (All R) (sym each.maps) (all_map R R each.on-each ps each.is all)

module _ {P : Type 0} {Q : (P → P) → Type 0} (closed : Closed Q) where
  pub each_none : (ps : List P) → Each Q ps ps
  each_none ps = record { on-each = λ p. p; is = closed.nothing; maps = sym (map-stays (λ p. p) (λ p. refl) ps) }

  -- one change, then others
  pub each_next : {f : P → P} {ps qs : List P} → Q f → Each Q (map f ps) qs → Each Q ps qs
  each_next {f} {ps} qf rest =
      record {
        on-each = λ p. rest.on-each (f p);
        is = closed.after f rest.on-each qf rest.is;
        maps = rest.maps ∙ map-then rest.on-each f (λ p. rest.on-each (f p)) (λ p. refl) ps;
      }

  -- some changes, then others
  pub each-then : {ps qs rs : List P} → Each Q ps qs → Each Q qs rs → Each Q ps rs
  each-then {rs = rs} first rest = each_next first.is (subst (λ qs. Each Q qs rs) first.maps rest)

  -- a run, by its clocks and its events
  module _ (party : Party P) (clocks : (level : Bool) → Q (party.samples level)) (events : (c : ℕ) → Q (party.happens c)) where
    pub runs-each : (ds : List Drive) (c : ℕ) (ps : List P) → Each Q ps (runs party ds c ps)
    unfolding runs
    runs-each [] c ps = each_none ps
    runs-each (d ∷ ds) c ps = each_next (clocks _) (each_next (events (suc c)) (runs-each ds (suc c) _))

  -- the plain machine, by its events and by what headers and the ends of frames do
  module _ (core : Core P) (events : (c : ℕ) → Q (core.happens c)) (headers : (header : Header) → Q (core.after_header header)) (frames : (header : Header) (word : ℕ) → Q (core.after_frame header word)) where
    quiet_each : (n c : ℕ) (ps : List P) → Each Q ps (quiet core c n ps)
    unfolding quiet
    quiet_each zero c ps = each_none ps
    quiet_each (suc n) c ps = each_next (events (suc c)) (quiet_each n (suc c) _)

    acting-each : {effect : P → P} → Q effect → (c a b : ℕ) (ps : List P) → Each Q ps (acting core effect c a b ps)
    acting-each q c a b ps = each-then (quiet_each a c ps) (each_next q (quiet_each b (c + a) _))

    after-each : (m : ℕ) (t : Transaction) (c : ℕ) (ps : List P) → Each Q ps (plain_after core m t c ps)
    after-each m t c ps = go (is_read t)
      where
        go : (b : Bool) → Each Q ps (cond b (left_by_read core m t c ps) (left_by_write core m t c ps))
        go true = acting-each (headers (header_for t)) c (before_reads m) (clocks_with m - before_reads m) ps
        go false = acting-each (frames (header_for t) t.«data») c (before_writes m) (clocks_with m - before_writes m) ps

    pub plain-each : (m n : ℕ) (ts : List Transaction) (c : ℕ) (ps : List P) → Each Q ps (plain_parties core m n ts c ps)
    unfolding plain_parties
    plain-each m n [] c ps = each_none ps
    plain-each m n (t ∷ ts) c ps = each-then (after-each m t c ps) (plain-each n n ts (c + clocks_with m) _)
