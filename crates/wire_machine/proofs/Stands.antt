-- What stands after each clock of a run, and after each event: the specified PHYs are the board's with their lines put back.
use Prim.Native.Nat.{ℕ, zero, suc, ◌+◌, ◌-◌, ◌≤◌, ◌<◌}
use mathlib.Core.Path.{◌≡◌, refl, sym, ap, ap₂, subst, ◌∙◌}
use mathlib.Core.Bool.{Bool, true, false}
use mathlib.Core.List.{List, [], ◌∷◌, ◌++◌, map}
use native.Mathlib.Omega.{arith}
use lib.ListN.{length, get_or, set, take, drop, length-map, get_or-map}
use lib.Seq.{get_or-take, take-set-lt, drop-set-lt, map-set_same}
use Rattle.verdict.specs.File.{records}
use Rattle.verdict.specs.Output.{tabulate, join}
use Rattle.verdict.proofs.Lists.{tabulate-of}
use Rattle.verdict.proofs.Outputs.{pieced}
use Rattle.verdict.proofs.Elements.{map-then}
use Rattle.wire.specs.declared.Follower.TheVariants.{Hunting}
use Rattle.wire.specs.Wire.{level_of, runs}
use Rattle.phy.specs.declared.own.Own.{Own}
use Rattle.phy.specs.declared.Phy.{Phy}
use Rattle.phy.specs.Sound.{nowhere}
use Rattle.phy.specs.Events.{event}
use Rattle.phy.specs.Clock.{clock}
use Rattle.phy.proofs.Effects.{event-effect}
use Rattle.phy.proofs.Keeping.{keeps-own}
use Rattle.board.specs.declared.Board.{Board}
use Rattle.board.specs.Record.{addresses_of}
use Rattle.board.specs.Events.{event_record, event_clock, event_address, event_code}
use Rattle.between.specs.Outcome.{phys_of, with_phys, owns_of}
use Rattle.between.specs.Events.{happens_from, happens, at_start}
use Rattle.between.specs.Happened.{is_due, place_of, event_on}
use Rattle.between.proofs.HappensEffect.{happens-from-effect}
use Rattle.between.proofs.Happenings.{Rising, Reached, reached-start, reached-next, reached-later, due-now, due-later, to_come, all-to-come, one-to-come, none-to-come}
use Rattle.between.proofs.EventPlaces.{OneTakes, owns-length, event-there}
use Rattle.wire_machine.specs.declared.line.Line.{Line}
use Rattle.wire_machine.specs.Log.{clock_record}
use Rattle.wire_machine.specs.Lines.{line_of, no_line, onto, line_acts, line_follows, joined_board}
use Rattle.between.proofs.Filling.{within}
use Rattle.wire_machine.proofs.Turns.{rejoined}
use Rattle.wire_machine.proofs.Quiet.{bare, put_back, quiet_line, quiet-bare}
use Rattle.wire_machine.proofs.EventLine.{event-line}
use Rattle.wire_machine.proofs.Lockstep.{phys_after, drives_in, owns-stay, happens-own, phys-next}

map-set : {A B : Type 0} (f : A → B) (xs : List A) (i : ℕ) (v : A) → map f (set xs i v) ≡ set (map f xs) i (f v)
map-set f [] i v = refl
map-set f (x ∷ xs) zero v = refl
map-set f (x ∷ xs) (suc i) v = ap (λ ys. f x ∷ ys) (map-set f xs i v)

-- A board and its lines show PHYs: the board's PHYs are the same but for their lines, and the lines are theirs. The rest of the board is as at the start
pub record Shows (start now : Board) (lines : List Line) (phys : List Phy) : Type 0 where
  pub counted : now.count ≡ start.count
  pub beyond : drop start.count now.phys ≡ drop start.count start.phys
  pub bares : map bare (take start.count now.phys) ≡ map bare phys
  pub lines_are : lines ≡ map line_of phys

module _ {start now : Board} {lines : List Line} {phys : List Phy} (shows : Shows start now lines phys) where
  -- one PHY more is another, as its line shows
  module _ (i : ℕ) (there : i < start.count) (phy after : Phy) (line : Line) (line-is : line ≡ line_of after) where
    lines-set : set lines i line ≡ map line_of (set phys i after)
    lines-set = ap₂ (λ ls l. set ls i l) shows.lines_are line-is ∙ sym (map-set line_of phys i after)

    -- it acted: the whole PHY is put in its place
    pub acted : phy ≡ after → Shows start (record { count = now.count; phys = set now.phys i phy }) (set lines i line) (set phys i after)
    acted same =
        record {
          counted = shows.counted;
          beyond = drop-set-lt start.count now.phys i phy there ∙ shows.beyond;
          bares =
              ap (map bare) (take-set-lt start.count now.phys i phy there)
              ∙ map-set bare (take start.count now.phys) i phy
              ∙ ap₂ (λ ps p. set ps i (bare p)) shows.bares same
              ∙ sym (map-set bare phys i after);
          lines_are = lines-set;
        }

    -- it followed: nothing else of it changed
    pub followed : bare after ≡ bare (get_or phys i nowhere) → Shows start now (set lines i line) (set phys i after)
    followed same =
        record {
          counted = shows.counted;
          beyond = shows.beyond;
          bares = shows.bares ∙ sym (map-set_same bare phys i after nowhere same);
          lines_are = lines-set;
        }

  -- a PHY of the board is the same but for its line
  pub bare-at : (i : ℕ) → i < start.count → bare (get_or now.phys i nowhere) ≡ bare (get_or phys i nowhere)
  bare-at i there =
      sym (get_or-map bare (take start.count now.phys) i nowhere ∙ ap bare (get_or-take start.count now.phys i nowhere there))
      ∙ ap (λ xs. get_or xs i (bare nowhere)) shows.bares
      ∙ get_or-map bare phys i nowhere

  module _ (long : length phys ≡ start.count) where
    -- the line at a place, and its PHY put together
    module _ (i : ℕ) (there : i < start.count) where
      pub line_at : get_or lines i no_line ≡ line_of (get_or phys i nowhere)
      line_at =
          let here : i < length (map line_of phys) = omega (arith, length-map phys line_of) in
          ap (λ xs. get_or xs i no_line) shows.lines_are
          ∙ within (map line_of phys) i no_line (line_of nowhere) here
          ∙ get_or-map line_of phys i nowhere

      pub joined_at : onto (get_or lines i no_line) (get_or now.phys i nowhere) ≡ get_or phys i nowhere
      joined_at = rw line_at (put_back (get_or phys i nowhere) (get_or now.phys i nowhere) (bare-at i there))

    -- A turn over the lines in a clock, by whether the PHY may act
    module _ (i : ℕ) (there : i < start.count) (level : Bool) (line : Line) where
      pub turn-acts : (phy : Phy) → phy ≡ clock level (onto (get_or lines i no_line) (get_or now.phys i nowhere)) → line ≡ line_of phy → Shows start (record { count = now.count; phys = set now.phys i phy }) (set lines i line) (set phys i (clock level (get_or phys i nowhere)))
      turn-acts phy is line-is =
          let same : phy ≡ clock level (get_or phys i nowhere) = is ∙ ap (clock level) (joined_at i there) in
          acted i there phy (clock level (get_or phys i nowhere)) line (line-is ∙ ap line_of same) same

      pub turn-follows : line_acts (get_or lines i no_line) ≡ false → line ≡ line_follows level (get_or lines i no_line) → Shows start now (set lines i line) (set phys i (clock level (get_or phys i nowhere)))
      turn-follows quiet is =
          let p = get_or phys i nowhere in
          let quiet-phy : line_acts (line_of p) ≡ false = sym (ap line_acts (line_at i there)) ∙ quiet in
          followed i there p (clock level p) line (is ∙ ap (line_follows level) (line_at i there) ∙ quiet_line level p quiet-phy) (quiet-bare level p quiet-phy)

    -- the board with its lines put back has the PHYs
    pub joined : joined_board lines now ≡ with_phys start phys
    unfolding joined_board
    joined =
        let all = sym (tabulate-of now.count (rejoined lines now) phys nowhere (long ∙ sym shows.counted) (λ i l. sym (joined_at i (omega (arith, shows.counted))))) in
        λ j. record {
          count = shows.counted j;
          phys = (ap₂ (λ ps n. ps ++ drop n now.phys) all shows.counted ∙ ap (λ qs. phys ++ qs) shows.beyond) j;
        }

-- An event at a place acts on the board's PHY without its line, and leaves the line
pub event-shown : {start now : Board} {lines : List Line} {phys : List Phy} → Shows start now lines phys → (code i : ℕ) → i < start.count → (phy : Phy) → phy ≡ event code (get_or now.phys i nowhere)
    → Shows start (record { count = now.count; phys = set now.phys i phy }) lines (set phys i (event code (get_or phys i nowhere)))
event-shown {start} {now} {lines} {phys} shows code i there phy is =
    let p = get_or phys i nowhere in
    let q = get_or now.phys i nowhere in
    let blind = (event-effect code).blind (Hunting 0) 0 in
    let same : bare phy ≡ bare (event code p) = ap bare is ∙ sym (blind q) ∙ ap (event code) (bare-at shows i there) ∙ blind p in
    record {
      counted = shows.counted;
      beyond = drop-set-lt start.count now.phys i phy there ∙ shows.beyond;
      bares =
          ap (map bare) (take-set-lt start.count now.phys i phy there)
          ∙ map-set bare (take start.count now.phys) i phy
          ∙ ap₂ (λ ps p. set ps i p) shows.bares same
          ∙ sym (map-set bare phys i (event code p));
      lines_are = shows.lines_are ∙ sym (map-set_same line_of phys i (event code p) nowhere (event-line code p));
    }

-- A run of a board
module _ (events steps log₀ : List ℕ) (board : Board) where
  -- the PHYs after k clocks and their events
  abbrev pub phys : ℕ → List Phy
  phys k = phys_after events steps (at_start board events) k

  -- the record of clock k + 1
  abbrev pub piece : ℕ → List ℕ
  piece k = clock_record (addresses_of (phys_of board)) (drives_in events steps (at_start board events) k)

  -- after c clocks and the events before index `next`: the board and its lines show PHYs whom some events of the clock may still await
  pub record Stands (log : List ℕ) (now : Board) (next : ℕ) (lines : List Line) (c : ℕ) : Type 0 where
    pub gone : c ≤ length steps
    pub logged : log ≡ pieced 5 piece log₀ c
    pub reached : Reached events c next
    pub waiting : List Phy
    pub shows : Shows board now lines waiting
    pub to-come : to_come events c next waiting ≡ phys c

  -- before the first clock
  pub begins : (lines : List Line) → lines ≡ map line_of (phys_of board) → Stands log₀ board 0 lines 0
  unfolding runs tabulate join
  begins lines are =
      record {
        gone = omega arith;
        logged = refl;
        reached = reached-start events;
        waiting = phys_of board;
        shows = record { counted = refl; beyond = refl; bares = refl; lines_are = are };
        to-come = sym (all-to-come events 0 0 (omega arith) (λ i h. absurd (omega arith)) (phys_of board));
      }

  module _ {log : List ℕ} {now : Board} {next : ℕ} {lines : List Line} {c : ℕ} (full : length (phys_of board) ≡ board.count) (rising : Rising events) (stands : Stands log now next lines c) where
    -- nobody changes who a frame is for
    pub owns-are : owns_of stands.waiting ≡ owns_of (phys_of board)
    owns-are =
        let own : Phy → Own = λ phy. phy.own in
        sym (map-then own (happens_from events next (records event_record events - next) c) own (λ phy. keeps-own (happens-from-effect events next _ c) phy) stands.waiting)
        ∙ ap owns_of stands.to-come
        ∙ owns-stay events steps (at_start board events) c
        ∙ map-then own (happens events 0) own (happens-own events 0) (phys_of board)

    pub waiting-full : length stands.waiting ≡ board.count
    waiting-full = owns-length stands.waiting (phys_of board) owns-are ∙ full

    -- an event of the clock happens, at the place of its address
    pub event-next : OneTakes (owns_of (phys_of board)) → is_due events next c ≡ true → (i : ℕ) → i ≡ place_of (owns_of (phys_of board)) (event_address events next) → i < board.count → (phy : Phy) → phy ≡ event (event_code events next) (get_or now.phys i nowhere)
        → Stands log (record { count = now.count; phys = set now.phys i phy }) (next + 1) lines c
    event-next one due i place there phy is =
        let asked = due-now events next c due in
        let here : event_clock events next ≡ c = omega (arith, asked.1, stands.reached.later next (omega arith) asked.0) in
        let same : i ≡ place_of (owns_of stands.waiting) (event_address events next) = place ∙ ap (λ owns. place_of owns (event_address events next)) (sym owns-are) in
        let made = event-there stands.waiting (subst OneTakes (sym owns-are) one) events next (omega (arith, waiting-full)) in
        let made_at : map (event_on events next) stands.waiting ≡ set stands.waiting i (event (event_code events next) (get_or stands.waiting i nowhere)) = made ∙ ap (λ j. set stands.waiting j (event (event_code events next) (get_or stands.waiting j nowhere))) (sym same) in
        record {
          gone = stands.gone;
          logged = stands.logged;
          reached = reached-next stands.reached asked.0 asked.1;
          waiting = set stands.waiting i (event (event_code events next) (get_or stands.waiting i nowhere));
          shows = event-shown stands.shows (event_code events next) i there phy is;
          to-come = ap (to_come events c (next + 1)) (sym made_at) ∙ one-to-come events c next asked.0 here stands.waiting ∙ stands.to-come;
        }

    -- where none is due the PHYs are those after the clock and its events
    module _ (due : is_due events next c ≡ false) where
      none-waits : stands.waiting ≡ phys c
      none-waits = sym (none-to-come events rising c next (due-later events next c due) stands.waiting) ∙ stands.to-come

      pub shown : Shows board now lines (phys c)
      shown = subst (Shows board now lines) none-waits stands.shows

      pub length-is : length (phys c) ≡ board.count
      length-is = ap length (sym none-waits) ∙ waiting-full

      -- one clock more: the record is put, and all have sampled the level
      pub clock-next : c < length steps → (log' : List ℕ) (level : Bool) → log' ≡ pieced 5 piece log₀ (suc c) → level ≡ level_of (drives_in events steps (at_start board events) c) → (now' : Board) (lines' : List Line) → Shows board now' lines' (map (clock level) (phys c)) → Stands log' now' next lines' (suc c)
      clock-next more log' level put heard now' lines' sampled =
          record {
            gone = omega arith;
            logged = put;
            reached = reached-later (suc c) rising stands.reached (omega arith) (due-later events next c due);
            waiting = map (clock level) (phys c);
            shows = sampled;
            to-come =
                sym (all-to-come events (suc c) next stands.reached.within (λ i h. omega (arith, stands.reached.earlier i h)) (map (clock level) (phys c)))
                ∙ ap (λ l. map (happens events (suc c)) (map (clock l) (phys c))) heard
                ∙ sym (phys-next events steps (at_start board events) c more);
          }
