-- A whole transaction on the wire: preamble and start, header, turnaround and data, idle, one after the other.
use Prim.Native.Nat.{ℕ, suc, ◌+◌, ◌%◌, ◌^◌, ◌<◌}
use mathlib.Core.Path.{◌≡◌, refl, ap, ap₂, sym, ◌∙◌}
use mathlib.Core.Bool.{Bool, true, false, cond}
use mathlib.Core.List.{List, [], ◌∷◌, ◌++◌, map}
use native.Mathlib.Omega.{arith}
use lib.ListN.{length, replicate}
use Rattle.verdict.specs.Lists.{All, count}
use Rattle.verdict.proofs.Elements.{all_then, map_same, map-then, map-past, count_kept}
use Rattle.frame.specs.declared.list.Transaction.{Transaction}
use Rattle.wire.specs.declared.Drive.{Drive}
use Rattle.wire.specs.declared.Drive.TheVariants.{Released, Driven}
use Rattle.wire.specs.declared.Follower.TheVariants.{Hunting, Inside}
use Rattle.wire.specs.Wire.{Party, as_bit}
use Rattle.wire.specs.Follower.{follow, header_seen}
use Rattle.wire.specs.Machines.{Core, header_for, quiet, before_reads, before_writes}
use Rattle.wire.proofs.Runs.{Goes, goes-append, goes_to}
use Rattle.wire.proofs.Quiet.{quiet-clock, quiet-append, quiet_all, quiet-count}
use Rattle.wire.proofs.Followers.{shown}
use Rattle.agreement.specs.Follows.{Line, header_done, Follows, Ready, OneAnswers}
use Rattle.agreement.specs.Agrees.{rest}
use Rattle.agreement.proofs.Phase.{hears, Fits, guise, guise-happens}
use Rattle.agreement.proofs.Start.{starts, put-clock}
use Rattle.agreement.proofs.Reading.{Captures, Reading, reading}
use Rattle.agreement.proofs.Frame.{header-phase, frame_effect, frame-phase}

module _ {P : Type 0} (core : Core P) (m : ℕ) (t : Transaction) (c : ℕ) (ps : List P) where
  -- the parties at the header's last clock, before and after its effect, and at the frame's last clock, after its effect of a word
  abbrev pub at_header : List P
  at_header = quiet core c (before_reads m) ps

  unfoldable pub headed : List P
  headed = map (core.after_header (header_for t)) at_header

  unfoldable pub framed : ℕ → List P
  framed word = map (core.after_frame (header_for t) word) (quiet core (c + before_reads m) 18 headed)

module _ {P : Type 0} {wire : Party P} {core : Core P} {line : Line P} {Good : P → Type 0} (laws : Follows wire core line Good)
    (m : ℕ) (t : Transaction) (c : ℕ) (ps : List P) (ready : All (Ready line Good m) ps) (one : OneAnswers core ps) where
  -- whether a party answers the header; the clocks gone before the header's last clock, and before the frame's
  abbrev asked : P → Bool
  asked = core.answers (header_for t)

  abbrev read_clock : ℕ
  read_clock = c + before_reads m

  abbrev end_clock : ℕ
  end_clock = c + before_writes m

  abbrev before_header : List P
  before_header = at_header core m t c ps

  abbrev after_header : List P
  after_header = headed core m t c ps

  -- what the parties make of the header
  pub reads : Reading core t before_header
  reads =
      reading core t before_header
      (rw (quiet-count core asked (λ c. (laws.keeps-events c).answers (header_for t)) c (before_reads m) ps) (one (header_for t)))
      (all_then Good (λ p. core.word (header_for t) p < 2 ^ 16) before_header (laws.word_fits (header_for t))
      (quiet_all core Good (λ c. (laws.keeps-events c).good) c (before_reads m) ps (all_then (Ready line Good m) Good ps (λ p r. r.waits.good) ready)))

  -- what the station sends: the header's bits from the third on, then turnaround and data
  module _ (header frame : List Drive) (bits : ℕ) (header-long : length header ≡ 12) (frame-long : length frame ≡ 18)
      (seen : shown 1 (hears false 0 2 header) ≡ bits) (fits : bits < 2 ^ 14) (says : header_seen 14 bits ≡ header_for t)
      (alone : All (Fits reads.someone) frame) where
    abbrev in_frame : P → P
    in_frame = guise line asked reads.word 14 bits

    -- the levels of turnaround and data
    abbrev pub answered : List Bool
    answered = hears reads.someone reads.word 14 frame

    -- who answers captures the word that is read
    captured : map (header_done core line bits) before_header ≡ map in_frame after_header
    unfolding headed
    captured =
        map_same (header_done core line bits) (λ p. in_frame (core.after_header (header_for t) p)) before_header
        (all_then (Captures core t reads.word) _ before_header capture reads.captures)
        ∙ sym (map-then in_frame (core.after_header (header_for t)) _ (λ p. refl) before_header)
      where
        capture : (p : P) → Captures core t reads.word p → header_done core line bits p ≡ in_frame (core.after_header (header_for t) p)
        capture p word =
            ap (λ h. line.put (Inside 14 bits) (cond (core.answers h p) (core.word h p) 0) (core.after_header h p)) says
            ∙ ap (λ w. line.put (Inside 14 bits) w (core.after_header (header_for t) p)) (word ∙ ap (λ b. cond b reads.word 0) (sym ((laws.keeps-header (header_for t)).answers (header_for t) p)))

    header-run : Goes wire header (suc (suc (c + m))) (map (line.put (Inside 2 1) 0) (quiet core c (suc (suc m)) ps)) (hears false 0 2 header)
        (suc read_clock) (map in_frame (map (core.happens (suc read_clock)) after_header))
    header-run =
        let all : suc (suc m) + 11 ≡ before_reads m = omega arith in
        let before : quiet core (suc (suc (c + m))) 11 (quiet core c (suc (suc m)) ps) ≡ at_header core m t c ps = sym (quiet-append core (suc (suc m)) 11 c (suc (suc (c + m))) ps (omega arith)) ∙ ap (λ k. quiet core c k ps) all in
        goes_to wire (header-phase laws header 1 (suc (suc (c + m))) read_clock (quiet core c (suc (suc m)) ps) header-long (omega arith))
        (ap (map (core.happens (suc read_clock))) (ap₂ (λ w qs. map (header_done core line w) qs) seen before ∙ captured)
        ∙ map-past in_frame (core.happens (suc read_clock)) (guise-happens laws asked reads.word (λ c. (laws.keeps-events c).answers (header_for t)) 14 bits (suc read_clock)) after_header)

    voices : count asked (map (core.happens (suc read_clock)) after_header) ≡ as_bit reads.someone
    unfolding headed
    voices =
        count_kept asked (core.happens (suc read_clock)) ((laws.keeps-events (suc read_clock)).answers (header_for t)) after_header
        ∙ count_kept asked (core.after_header (header_for t)) ((laws.keeps-header (header_for t)).answers (header_for t)) before_header
        ∙ reads.voices

    abbrev after : List P
    after = framed core m t c ps (shown bits answered % 2 ^ 16)

    frame-run : Goes wire frame (suc read_clock) (map in_frame (map (core.happens (suc read_clock)) after_header)) answered
        (suc end_clock) (map (line.put (Hunting 0) 0) (map (core.happens (suc end_clock)) after))
    unfolding framed
    frame-run =
        let effect : P → P = frame_effect core line (header_for t) (shown bits answered) in
        goes_to wire (frame-phase laws (header_for t) reads.someone reads.word frame bits (suc read_clock) end_clock (map (core.happens (suc read_clock)) after_header) frame-long (omega arith) fits says voices alone)
        (ap (map (core.happens (suc end_clock)))
        (ap (map effect) (quiet-clock core read_clock 17 after_header)
        ∙ sym (map-then (line.put (Hunting 0) 0) (core.after_frame (header_for t) (shown bits answered % 2 ^ 16)) effect (λ p. refl) (quiet core read_clock 18 after_header)))
        ∙ map-past (line.put (Hunting 0) 0) (core.happens (suc end_clock)) ((laws.keeps-events (suc end_clock)).put (Hunting 0) 0) after)

    idle-run : Goes wire (Released ∷ []) (suc end_clock) (map (line.put (Hunting 0) 0) (map (core.happens (suc end_clock)) after)) (true ∷ [])
        (suc (suc end_clock)) (map (rest line) (quiet core end_clock 2 after))
    unfolding follow quiet
    idle-run =
        put-clock laws Released true (Hunting 0) (Hunting 1) 0 0 (suc end_clock) (map (core.happens (suc end_clock)) after)
        (laws.driving.hunting 0 0) refl (laws.sampling.hunting true 0)

    pub sends : Goes wire ((replicate m (Driven true) ++ (Driven false ∷ Driven true ∷ [])) ++ (header ++ (frame ++ (Released ∷ [])))) c ps
        ((replicate m true ++ (false ∷ true ∷ [])) ++ (hears false 0 2 header ++ (answered ++ (true ∷ []))))
        (suc (suc end_clock)) (map (rest line) (quiet core end_clock 2 (framed core m t c ps (shown bits answered % 2 ^ 16))))
    sends =
        goes-append wire (starts laws true m c (c + m) ps refl ready)
        (goes-append wire header-run (goes-append wire frame-run idle-run))
