-- A frame that starts 00 is none of ours. Document 02, E2: "after a start of 00 the follower passes over the other 30 bits, driving and storing nothing, and only then hunts, with 0 ones": whoever listens, and whatever those 30 bits say.
use Prim.Native.Nat.{ℕ, suc, ◌+◌, ◌-◌, ◌/◌, ◌^◌, ◌≤◌, ◌<◌}
use mathlib.Core.Path.{◌≡◌, refl, ap, ap₂, subst, sym, ◌∙◌}
use mathlib.Core.Bool.{Bool, true, false, cond}
use mathlib.Core.List.{List, [], ◌∷◌, map, map-id}
use native.Mathlib.Omega.{arith}
use native.Mathlib.Nat.{div-eq_of_lt}
use native.Mathlib.Numerals.{add-one}
use native.Mathlib.Decide.{ℕ_discrete}
use lib.Dec.{leb}
use lib.ListN.{length}
use lib.Pow.{shr-shr}
use borrow.Author.Tests.{leb-true, leb-false}
use Rattle.verdict.specs.Lists.{All}
use Rattle.verdict.proofs.Elements.{all-map-of, map-then, map-past}
use Rattle.wire.specs.declared.Drive.{Drive}
use Rattle.wire.specs.declared.Drive.TheVariants.{Released}
use Rattle.wire.specs.declared.Follower.{Follower}
use Rattle.wire.specs.declared.Follower.TheVariants.{Hunting, Inside}
use Rattle.wire.specs.Follower.{one_more, follow, header_of, header_seen}
use Rattle.wire.specs.Wire.{level_of, runs, driven, sampled}
use Rattle.wire.specs.Machines.{quiet}
use Rattle.wire.proofs.Followers.{more-fits, goes_on, shown, shown-fits}
use Rattle.wire.proofs.Quiet.{quiet-clock}
use Rattle.wire.proofs.Runs.{runs-sampled}
use Rattle.phy.specs.declared.Phy.{Phy}
use Rattle.phy.specs.Fields.{with_line}
use Rattle.phy.specs.Clock.{enough, word, drives, clock, phy_party, phy_core}
use Rattle.phy.proofs.Clocks.{drives-early, drives-other}
use Rattle.phy.proofs.Headers.{foreign-unanswered, foreign-unstored, after_header-silent, after_frame-silent}
use Rattle.phy.proofs.Lines.{clock-inside, clock-header, clock-frame}
use Rattle.phy.proofs.Effects.{Effect}

-- such a frame as far as it is heard: of 2 to 31 bits the first two are 0
pub record Foreign (seen bits : ℕ) : Type 0 where
  pub from : 2 ≤ seen
  pub upto : seen ≤ 31
  pub zeros : bits < 2 ^ (seen - 2)

pub start-00 : Foreign 2 0
start-00 = record { from = omega arith; upto = omega arith; zeros = omega arith }

-- with one bit more the first two are still 0
more-zeros : (level : Bool) (seen bits : ℕ) → Foreign seen bits → one_more bits level < 2 ^ (suc seen - 2)
more-zeros level seen bits f =
    let place : suc (seen - 2) ≡ suc seen - 2 = omega (arith, f.from) in
    subst (λ (k : ℕ). one_more bits level < 2 ^ k) place (more-fits (seen - 2) bits f.zeros (omega (arith, f.upto)) level)

pub foreign-on : (level : Bool) (seen bits : ℕ) → Foreign seen bits → seen < 31 → Foreign (suc seen) (one_more bits level)
foreign-on level seen bits f before = record { from = omega (arith, f.from); upto = omega arith; zeros = more-zeros level seen bits f }

foreign-later : (levels : List Bool) (seen bits : ℕ) → Foreign seen bits → seen + length levels ≤ 31 → Foreign (seen + length levels) (shown bits levels)
foreign-later levels seen bits f most =
    let place : seen - 2 + length levels ≡ seen + length levels - 2 = omega (arith, f.from) in
    record {
      from = omega (arith, f.from);
      upto = most;
      zeros = subst (λ (k : ℕ). shown bits levels < 2 ^ k) place (shown-fits levels (seen - 2) bits f.zeros (omega arith));
    }

-- so its header does not start as ours do
pub not_ours : (seen bits : ℕ) → 14 ≤ seen → bits < 2 ^ (seen - 2) → (header_seen seen bits).start ≡ 1 → ⊥
unfolding header_of
not_ours seen bits from zeros ours =
    let place : seen - 14 + 12 ≡ seen - 2 = omega arith in
    let none : bits / 2 ^ (seen - 14) / 2 ^ 12 ≡ 0 = shr-shr bits (seen - 14) 12 ∙ ap (λ (k : ℕ). bits / 2 ^ k) place ∙ div-eq_of_lt zeros in
    omega (arith, none, ours)

-- nobody drives in it
pub foreign-released : (phy : Phy) (seen bits : ℕ) → phy.follower ≡ Inside seen bits → Foreign seen bits → drives phy ≡ Released
foreign-released phy seen bits now f = go (leb 14 seen) refl
  where
    go : (b : Bool) → leb 14 seen ≡ b → drives phy ≡ Released
    go false few = drives-early _ _ _ seen bits now (omega (arith, leb-false 14 seen few))
    go true headed = drives-other _ _ _ seen bits now (foreign-unanswered _ phy.own (not_ours seen bits (leb-true 14 seen headed) f.zeros))

-- a bit of it is one bit more and nothing else, also its 14th
module _ (level : Bool) (seen bits w : ℕ) (phy : Phy) (f : Foreign seen bits) where
  abbrev more : ℕ
  more = one_more bits level

  pub foreign-clock : seen < 31 → clock level (with_line (Inside seen bits) w phy) ≡ with_line (Inside (suc seen) more) w phy
  foreign-clock before = go (ℕ_discrete seen 13)
    where
      go : Dec (seen ≡ 13) → clock level (with_line (Inside seen bits) w phy) ≡ with_line (Inside (suc seen) more) w phy
      go (no n13) =
          clock-inside level seen bits w phy n13 (λ n31. omega arith)
          ∙ ap (λ g. with_line g w phy) (goes_on (enough phy) level seen bits before ∙ ap (λ (k : ℕ). Inside k more) (add-one seen))
      go (yes e) =
          let zeros : more < 2 ^ (14 - 2) = rw e at (more-zeros level seen bits f) in
          let silent = foreign-unanswered (header_seen 14 more) phy.own (not_ours 14 more (omega arith) zeros) in
          ap (λ (k : ℕ). clock level (with_line (Inside k bits) w phy)) e
          ∙ clock-header level bits w phy
          ∙ ap₂ (λ (v : ℕ) (p : Phy). with_line (Inside 14 more) v p) (ap (λ b. cond b (word (header_seen 14 more) phy) w) silent) (after_header-silent (header_seen 14 more) phy silent)
          ∙ ap (λ (k : ℕ). with_line (Inside (suc k) more) w phy) (sym e)

  -- and after its 32nd the PHY hunts as after any frame, with nothing stored
  pub foreign-last : seen ≡ 31 → clock level (with_line (Inside seen bits) w phy) ≡ with_line (Hunting 0) 0 phy
  foreign-last e =
      let zeros : more < 2 ^ (32 - 2) = rw e at (more-zeros level seen bits f) in
      ap (λ (k : ℕ). clock level (with_line (Inside k bits) w phy)) e
      ∙ clock-frame level bits w phy
      ∙ ap (with_line (Hunting 0) 0) (after_frame-silent _ phy _ (foreign-unstored (header_seen 32 more) phy.own (not_ours 32 more (omega arith) zeros)))

-- Any PHYs, and any events between the clocks
module _ (happens : ℕ → Phy → Phy) (events : (c : ℕ) → Effect (happens c)) where
  -- PHYs with one follower and nothing captured; and what they are after some levels
  abbrev pub following : Follower → List Phy → List Phy
  following f phys = map (with_line f 0) phys

  abbrev pub hearing : List Bool → ℕ → List Phy → List Phy
  hearing levels c phys = map (sampled (phy_party happens) levels c) phys

  -- a clock that moves the follower alone, and its events
  pub one-clock : (f g : Follower) (level : Bool) (c : ℕ) (phys : List Phy) → ((p : Phy) → clock level (with_line f 0 p) ≡ with_line g 0 p) →
      map (happens c) (map (clock level) (following f phys)) ≡ following g (map (happens c) phys)
  one-clock f g level c phys moves =
      ap (map (happens c)) (map-then (clock level) (with_line f 0) (with_line g 0) moves phys)
      ∙ map-past (with_line g 0) (happens c) ((events c).blind g 0) phys

  one-level : (f g : Follower) (level : Bool) (levels : List Bool) (c : ℕ) (phys : List Phy) → ((p : Phy) → clock level (with_line f 0 p) ≡ with_line g 0 p) →
      hearing (level ∷ levels) c (following f phys) ≡ hearing levels (suc c) (following g (map (happens (suc c)) phys))
  unfolding sampled
  one-level f g level levels c phys moves =
      let rest : Phy → Phy = sampled (phy_party happens) levels (suc c) in
      sym (map-then (λ p. rest (happens (suc c) p)) (clock level) _ (λ p. refl) (following f phys))
      ∙ sym (map-then rest (happens (suc c)) _ (λ p. refl) (map (clock level) (following f phys)))
      ∙ ap (map rest) (one-clock f g level (suc c) phys moves)

  -- up to its last bit a foreign frame is followed, and nothing but the events acts
  inside-foreign : (levels : List Bool) (seen bits c : ℕ) (phys : List Phy) → Foreign seen bits → seen + length levels ≤ 31 →
      hearing levels c (following (Inside seen bits) phys) ≡ following (Inside (seen + length levels) (shown bits levels)) (quiet (phy_core happens) c (length levels) phys)
  unfolding sampled quiet
  inside-foreign [] seen bits c phys f most =
      let none : seen ≡ seen + 0 = omega arith in
      map-id (following (Inside seen bits) phys) ∙ ap (λ (k : ℕ). following (Inside k bits) phys) none
  inside-foreign (level ∷ levels) seen bits c phys f most =
      let all : suc seen + length levels ≡ seen + suc (length levels) = omega arith in
      one-level (Inside seen bits) (Inside (suc seen) (one_more bits level)) level levels c phys (λ p. foreign-clock level seen bits 0 p f (omega arith))
      ∙ inside-foreign levels (suc seen) (one_more bits level) (suc c) (map (happens (suc c)) phys) (foreign-on level seen bits f (omega arith)) (omega arith)
      ∙ ap (λ (k : ℕ). following (Inside k (shown (one_more bits level) levels)) (quiet (phy_core happens) (suc c) (length levels) (map (happens (suc c)) phys))) all

  -- and with its last bit all hunt
  passed_over : (levels : List Bool) (seen bits c : ℕ) (phys : List Phy) → Foreign seen bits → seen + length levels ≡ 32 →
      hearing levels c (following (Inside seen bits) phys) ≡ following (Hunting 0) (quiet (phy_core happens) c (length levels) phys)
  unfolding sampled quiet
  passed_over [] seen bits c phys f all = absurd (omega (arith, f.upto))
  passed_over (level ∷ []) seen bits c phys f all =
      one-level (Inside seen bits) (Hunting 0) level [] c phys (λ p. foreign-last level seen bits 0 p f (omega arith))
      ∙ map-id (following (Hunting 0) (map (happens (suc c)) phys))
  passed_over (level ∷ next ∷ levels) seen bits c phys f all =
      one-level (Inside seen bits) (Inside (suc seen) (one_more bits level)) level (next ∷ levels) c phys (λ p. foreign-clock level seen bits 0 p f (omega arith))
      ∙ passed_over (next ∷ levels) (suc seen) (one_more bits level) (suc c) (map (happens (suc c)) phys) (foreign-on level seen bits f (omega arith)) (omega arith)

  -- the second 0 of the start
  second-zero : (levels : List Bool) (c : ℕ) (phys : List Phy) →
      hearing (false ∷ levels) c (following (Inside 1 0) phys) ≡ hearing levels (suc c) (following (Inside 2 0) (map (happens (suc c)) phys))
  unfolding follow
  second-zero levels c phys =
      one-level (Inside 1 0) (Inside 2 0) false levels c phys (λ p. clock-inside false 1 0 0 p (λ n13. omega arith) (λ n31. omega arith))

  -- PHYs that have heard the first 0 of a frame, and then 0 and any 30 levels, are what the events alone make of them, and hunt with 0 ones
  pub foreign-frame : (levels : List Bool) (c : ℕ) (phys : List Phy) → length levels ≡ 30 →
      hearing (false ∷ levels) c (following (Inside 1 0) phys) ≡ following (Hunting 0) (quiet (phy_core happens) c 31 phys)
  foreign-frame levels c phys long =
      second-zero levels c phys
      ∙ passed_over levels 2 0 (suc c) (map (happens (suc c)) phys) start-00 (omega arith)
      ∙ ap (λ (n : ℕ). following (Hunting 0) (quiet (phy_core happens) (suc c) n (map (happens (suc c)) phys))) long
      ∙ ap (following (Hunting 0)) (quiet-clock (phy_core happens) c 30 phys)

  -- before each of those levels they are inside that frame, so none has started another one in it, however few ones are enough for it
  pub foreign-inside : (levels : List Bool) (c : ℕ) (phys : List Phy) → length levels < 30 →
      hearing (false ∷ levels) c (following (Inside 1 0) phys) ≡ following (Inside (2 + length levels) (shown 0 levels)) (quiet (phy_core happens) c (suc (length levels)) phys)
  foreign-inside levels c phys short =
      second-zero levels c phys
      ∙ inside-foreign levels 2 0 (suc c) (map (happens (suc c)) phys) start-00 (omega arith)
      ∙ ap (following (Inside (2 + length levels) (shown 0 levels))) (quiet-clock (phy_core happens) c (length levels) phys)

  -- and none drives
  pub foreign-silent : (levels : List Bool) (c : ℕ) (phys : List Phy) → length levels < 30 →
      All (λ p. drives p ≡ Released) (hearing (false ∷ levels) c (following (Inside 1 0) phys))
  foreign-silent levels c phys short =
      let put : Phy → Phy = with_line (Inside (2 + length levels) (shown 0 levels)) 0 in
      subst (All (λ p. drives p ≡ Released)) (sym (foreign-inside levels c phys short))
      (all-map-of (λ p. drives p ≡ Released) put (quiet (phy_core happens) c (suc (length levels)) phys)
      (λ p. foreign-released (put p) (2 + length levels) (shown 0 levels) refl (foreign-later levels 2 0 start-00 (omega arith))))

  -- so no station, and no other PHY, can make them do anything by such a frame
  pub foreign-run : (ds : List Drive) (levels : List Bool) (c : ℕ) (phys : List Phy) → length levels ≡ 30 →
      map level_of (driven (phy_party happens) ds c (following (Inside 1 0) phys)) ≡ false ∷ levels →
      runs (phy_party happens) ds c (following (Inside 1 0) phys) ≡ following (Hunting 0) (quiet (phy_core happens) c 31 phys)
  foreign-run ds levels c phys long heard =
      runs-sampled (phy_party happens) ds c (following (Inside 1 0) phys)
      ∙ ap (λ ls. hearing ls c (following (Inside 1 0) phys)) heard
      ∙ foreign-frame levels c phys long
