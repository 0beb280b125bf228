-- A frame that starts 00, on PHYs that hunt and then on a board: the preamble's ones are enough for all, and from the second 0 on a phase in which nobody answers goes to the frame's end.
use Prim.Native.Nat.{ℕ, zero, suc, ◌+◌, ◌≤◌}
use mathlib.Core.Path.{◌≡◌, refl, ap, sym, subst, ◌∙◌}
use mathlib.Core.Bool.{Bool, true, false}
use mathlib.Core.List.{List, [], ◌∷◌, ◌++◌, map}
use native.Mathlib.Omega.{arith}
use lib.ListN.{length, replicate, length-map}
use Rattle.verdict.specs.Lists.{All}
use Rattle.verdict.proofs.Elements.{all_map, all-map-of, all_append, map-past, count_none}
use Rattle.frame.specs.Frame.{preamble}
use Rattle.wire.specs.declared.Drive.{Drive}
use Rattle.wire.specs.declared.Drive.TheVariants.{Released, Driven}
use Rattle.wire.specs.declared.Follower.TheVariants.{Hunting, Inside}
use Rattle.wire.specs.Wire.{level_of, drivers, station_drive, driven}
use Rattle.wire.specs.Follower.{one_more}
use Rattle.wire.specs.Machines.{quiet}
use Rattle.wire.proofs.Runs.{driven-append, Goes, goes-append, goes-as}
use Rattle.wire.proofs.Quiet.{quiet-append}
use Rattle.phy.specs.declared.Phy.{Phy}
use Rattle.phy.specs.Fields.{with_line}
use Rattle.phy.specs.Clock.{drives, clock, phy_party, phy_core}
use Rattle.phy.specs.Typed.{Steady}
use Rattle.phy.proofs.Effects.{Effect}
use Rattle.phy.proofs.Foreign.{Foreign, foreign-on, start-00, foreign-released, foreign-clock, foreign-last, one-clock}
use Rattle.board.specs.declared.Board.{Board}
use Rattle.between.specs.Outcome.{phys_of}
use Rattle.between.specs.Events.{happens, at_start}
use Rattle.wire_machine.specs.Run.{party_with, station_drives}
use Rattle.between.proofs.HappensEffect.{happens-effect}
use Rattle.agreement.specs.Follows.{Follows, Ready}
use Rattle.agreement.specs.Phys.{phy_line}
use Rattle.agreement.specs.Foreign.{ForeignAsked, StationAlone, level_alone, PassedOver}
use Rattle.agreement.proofs.Phase.{hears, through}
use Rattle.agreement.proofs.Start.{starts, events-wait, whole-preamble}
use Rattle.agreement.proofs.Seen.{nobody-fits}
use Rattle.agreement.proofs.Phys.{phy-follows}
use Rattle.agreement.proofs.Boards.{waiting}

-- PHYs with any events
module _ (happenings : ℕ → Phy → Phy) (events : (c : ℕ) → Effect (happenings c)) where
  laws : Follows (phy_party happenings) (phy_core happenings) phy_line Steady
  laws = phy-follows happenings events

  -- one clock more, with its events, for PHYs that all hunt with 0 ones
  one_more_lem : (c n c' : ℕ) (ps : List Phy) → c' ≡ c + n →
      map (happenings (suc c')) (map (with_line (Hunting 0) 0) (quiet (phy_core happenings) c n ps)) ≡ map (with_line (Hunting 0) 0) (quiet (phy_core happenings) c (n + 1) ps)
  unfolding quiet
  one_more_lem c n c' ps clock =
      map-past (with_line (Hunting 0) 0) (happenings (suc c')) ((events (suc c')).blind (Hunting 0) 0) (quiet (phy_core happenings) c n ps)
      ∙ ap (map (with_line (Hunting 0) 0)) (sym (quiet-append (phy_core happenings) n 1 c c' ps clock))

  -- the 30 bits behind the start
  passes : (ds : List Drive) (c c' : ℕ) (ps : List Phy) → length ds ≡ 30 → c' ≡ c + 30 →
      Goes (phy_party happenings) ds c (map (with_line (Inside 2 0) 0) ps) (hears false 0 2 ds) c' (map (with_line (Hunting 0) 0) (quiet (phy_core happenings) c 30 ps))
  passes [] c c' ps long clocks = absurd (omega arith)
  passes (d ∷ ds) c c' ps long clocks =
      let left : length ds ≡ 29 = omega arith in
      let end : suc (c + 29) ≡ c' = omega arith in
      goes-as (phy_party happenings)
      (through laws (λ p. false) 0 (λ c p. refl) false 31 Foreign (λ bits. with_line (Hunting 0) 0)
      (λ seen bits p f. foreign-released (with_line (Inside seen bits) 0 p) seen bits refl f)
      (λ level seen bits p f before. foreign-clock level seen bits 0 p f before)
      foreign-on
      (λ level bits p f. foreign-last level 31 bits 0 p f refl)
      d ds 2 0 c (c + 29) ps (omega arith) (omega arith) start-00 (count_none (λ p. false) ps (λ p. refl)) (nobody-fits (d ∷ ds)))
      refl refl end
      (ap (λ n. map (happenings (suc (c + 29))) (map (with_line (Hunting 0) 0) (quiet (phy_core happenings) c n ps))) left ∙ one_more_lem c 29 (c + 29) ps refl)

  -- after m ones that are enough for all
  pub foreign-sent : (m c c' : ℕ) (ds : List Drive) (ps : List Phy) → length ds ≡ 30 → c' ≡ c + (m + 32) → All (Ready phy_line Steady m) ps →
      Goes (phy_party happenings) ((replicate m (Driven true) ++ (Driven false ∷ Driven false ∷ [])) ++ ds) c ps
      ((replicate m true ++ (false ∷ false ∷ [])) ++ hears false 0 2 ds) c'
      (map (with_line (Hunting 0) 0) (quiet (phy_core happenings) c (m + 32) ps))
  foreign-sent m c c' ds ps long clocks ready =
      let all : suc (suc m) + 30 ≡ m + 32 = omega arith in
      goes-as (phy_party happenings)
      (goes-append (phy_party happenings) (starts laws false m c (c + m) ps refl ready)
      (passes ds (suc (suc (c + m))) c' (quiet (phy_core happenings) c (suc (suc m)) ps) long (omega arith)))
      refl refl refl
      (ap (map (with_line (Hunting 0) 0)) (sym (quiet-append (phy_core happenings) (suc (suc m)) 30 c (suc (suc (c + m))) ps (omega arith)) ∙ ap (λ n. quiet (phy_core happenings) c n ps) all))

  -- where the station drives, and nobody against it, no PHY does
  beside : (level : Bool) (ds : List Drive) → drivers (Driven level ∷ ds) ≤ 1 → All (λ d. d ≡ Released) ds
  beside level [] few = tt
  beside level (Released ∷ ds) few = (refl, beside level ds few)
  beside level (Driven other ∷ ds) few = absurd (omega arith)

  driving-alone : (levels : List Bool) (c : ℕ) (ps : List Phy) →
      All (λ ds. drivers ds ≤ 1) (driven (phy_party happenings) (map Driven levels) c ps) → All StationAlone (driven (phy_party happenings) (map Driven levels) c ps)
  unfolding driven
  driving-alone [] c ps few = tt
  driving-alone (level ∷ levels) c ps few = (beside level (map drives ps) few.0, driving-alone levels (suc c) _ few.1)

  -- and in the frame none does, whatever the station does
  released : (seen bits : ℕ) (ps : List Phy) → Foreign seen bits → All (λ e. e ≡ Released) (map drives (map (with_line (Inside seen bits) 0) ps))
  released seen bits ps f =
      all_map (λ p. drives p ≡ Released) (λ e. e ≡ Released) drives (map (with_line (Inside seen bits) 0) ps) (λ p e. e)
      (all-map-of (λ p. drives p ≡ Released) (with_line (Inside seen bits) 0) ps (λ p. foreign-released (with_line (Inside seen bits) 0 p) seen bits refl f))

  passes-alone : (ds : List Drive) (seen bits c : ℕ) (ps : List Phy) → Foreign seen bits → seen + length ds ≤ 32 →
      All StationAlone (driven (phy_party happenings) ds c (map (with_line (Inside seen bits) 0) ps))
  unfolding driven
  passes-alone [] seen bits c ps f most = tt
  passes-alone (d ∷ []) seen bits c ps f most = (released seen bits ps f, tt)
  passes-alone (d ∷ e ∷ ds) seen bits c ps f most =
      let level = level_of (d ∷ map drives (map (with_line (Inside seen bits) 0) ps)) in (
        released seen bits ps f,
        subst (λ qs. All StationAlone (driven (phy_party happenings) (e ∷ ds) (suc c) qs)) (sym (one-clock happenings events (Inside seen bits) (Inside (suc seen) (one_more bits level)) level (suc c) ps (λ p. foreign-clock level seen bits 0 p f (omega arith))))
            (passes-alone (e ∷ ds) (suc seen) (one_more bits level) (suc c) (map (happenings (suc c)) ps) (foreign-on level seen bits f (omega arith)) (omega arith)),
      )

  -- so in no clock of the preamble and the frame does a PHY drive
  pub foreign-alone : (m c : ℕ) (ds : List Drive) (ps : List Phy) → length ds ≡ 30 → All (Ready phy_line Steady m) ps →
      All StationAlone (driven (phy_party happenings) ((replicate m (Driven true) ++ (Driven false ∷ Driven false ∷ [])) ++ ds) c ps)
  foreign-alone m c ds ps long ready =
      let start = replicate m (Driven true) ++ (Driven false ∷ Driven false ∷ []) in
      let started = starts laws false m c (c + m) ps refl ready in
      subst (All StationAlone) (sym (driven-append (phy_party happenings) start ds c (suc (suc (c + m))) ps started.ends))
      (all_append StationAlone (driven (phy_party happenings) start c ps) _
      (subst (λ ds. All (λ es. drivers es ≤ 1) (driven (phy_party happenings) ds c ps) → All StationAlone (driven (phy_party happenings) ds c ps)) (sym (driving m)) (driving-alone (replicate m true ++ (false ∷ false ∷ [])) c ps) started.alone)
      (subst (λ qs. All StationAlone (driven (phy_party happenings) ds (suc (suc (c + m))) qs)) (sym started.after)
      (passes-alone ds 2 0 (suc (suc (c + m))) (quiet (phy_core happenings) c (suc (suc m)) ps) start-00 (omega arith))))
    where
      driving : (m : ℕ) → replicate m (Driven true) ++ (Driven false ∷ Driven false ∷ []) ≡ map Driven (replicate m true ++ (false ∷ false ∷ []))
      driving zero = refl
      driving (suc m) = ap (λ ds. Driven true ∷ ds) (driving m)

-- while nobody answers the wire is the station's
hears-alone : (n : ℕ) (ds : List Drive) → hears false 0 n ds ≡ map level_alone ds
hears-alone n [] = refl
hears-alone n (Released ∷ ds) = ap (λ ls. true ∷ ls) (hears-alone (suc n) ds)
hears-alone n (Driven level ∷ ds) = ap (λ ls. level_alone (Driven level) ∷ ls) (hears-alone (suc n) ds)

-- and on a board
pub foreign-passed-over : (board : Board) (others events : List ℕ) → ForeignAsked board others → PassedOver board others events
foreign-passed-over board others events asked =
    let sent = foreign-sent (happens events) (happens-effect events) preamble 0 64 (station_drives others) (at_start board events) thirty refl ready in
    record {
      phys = sent.after;
      silent = foreign-alone (happens events) (happens-effect events) preamble 0 (station_drives others) (at_start board events) thirty ready;
      levels = sent.levels-are ∙ ap (λ ls. (replicate preamble true ++ (false ∷ false ∷ [])) ++ ls) (hears-alone 2 (station_drives others));
    }
  where
    follows : Follows (party_with events) (phy_core (happens events)) phy_line Steady
    follows = phy-follows (happens events) (happens-effect events)

    thirty : length (station_drives others) ≡ 30
    thirty = length-map others station_drive ∙ asked.long

    ready : All (Ready phy_line Steady preamble) (at_start board events)
    ready =
        whole-preamble follows (at_start board events)
        (events-wait follows 0 (phys_of board) (waiting board asked.phys asked.sound asked.typed asked.hunt))
