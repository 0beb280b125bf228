-- Event by event and clock by clock: the specified PHYs are the board's with their lines put back as they stand, and the log has its records. A clock moves the common follower, or goes line by line.
use Rattle.std.proofs.Common.{ℕ, ◌+◌, ◌*◌, ◌-◌, ◌≤◌, ◌<◌, ◌≡◌, refl, sym, ap, subst, ◌∙◌, true, false, List, map, length, get_or, set, take, rules, arith}
use native.Mathlib.Numerals.{add-one}
use borrow.Rule.Slice.PartMut.{put_mid}
use lib.ListN.{length-map}
use lib.Seq.{length-take-le}
use Rattle.std.specs.Prelude.{Some, unwrap_or}
use Rattle.verdict.specs.File.{byte_at}
use Rattle.wire.specs.declared.Drive.{Drive}
use Rattle.wire.specs.Wire.{station_drive}
use Rattle.phy.specs.Sound.{nowhere}
use Rattle.phy.specs.Events.{event}
use Rattle.phy.specs.Clock.{clock}
use Rattle.board.specs.declared.Board.{Board}
use Rattle.board.specs.Events.{event_address}
use Rattle.between.specs.Outcome.{phys_of, owns_of}
use Rattle.between.specs.Happened.{is_due, place_of, found_at}
use Rattle.between.proofs.Places.{take-map, replaced, replace-next, length-replaced}
use Rattle.between.proofs.Happenings.{due-now}
use Rattle.wire_machine.specs.declared.line.Line.{Line}
use Rattle.wire_machine.specs.declared.hear.Heard.{Heard}
use Rattle.wire_machine.specs.declared.common.Common.{Common}
use Rattle.wire_machine.specs.Lines.{line_of, place_in, no_line, onto, line_acts, line_follows, heard_station, heard_from, record_of}
use Rattle.wire_machine.specs.Common.{stands, standing}
use Rattle.wire_machine.proofs.Lines.{found-within}
use Rattle.wire_machine.proofs.Turns.{replaced-all}
use Rattle.wire_machine.proofs.Accepts.{Goes, goes}
use Rattle.wire_machine.proofs.Stands.{Shows, turn-acts, turn-follows, phys, Stands, begins, shown, waiting-full, length-is, event-next, clock-next}
use Rattle.wire_machine.proofs.Begins.{lines-small, level-is, put_is, ends}
use Rattle.wire_machine.proofs.Alike.{event-place, standing_apart, all-follow, mixed, mixed-at, mixed-set, all-passed, as-many}
use Rattle.wire_machine.proofs.clocks.clock_by_clock.Goals as goal
use Rattle.wire_machine.proofs.clocks.clock_by_clock.Goals.{After-lines_of-places, in-Some, in_default, then-acts, else-acts}

-- A run that is not refused, after some clocks and events
module _ {board : Board} {steps events log₀ : List ℕ} (run : Goes board steps events log₀) {log : List ℕ} {now : Board} {next c : ℕ} (common : Common) (lines : List Line) (stands-so : Stands events steps log₀ board log now next (standing common lines) c) where
  -- an event is due: it stands at a place of the board
  module _ (due : is_due events next c ≡ true) where
    place-is : place_in lines (event_address events next) ≡ place_of (owns_of (phys_of board)) (event_address events next)
    place-is = event-place events steps log₀ board run.full run.rising common lines stands-so (event_address events next)

    on-board : place_in lines (event_address events next) < board.count
    on-board = omega (arith, place-is, run.named next (due-now events next c due).0)

  -- none is due
  module _ (none : is_due events next c ≡ false) where
    -- the board and its lines show the specified PHYs
    shows : Shows board now (standing common lines) (phys events steps log₀ board c)
    shows = shown events steps log₀ board run.full run.rising stands-so none

    long : length (phys events steps log₀ board c) ≡ board.count
    long = length-is events steps log₀ board run.full run.rising stands-so none

    -- what is heard is put down, and all have sampled the level
    clocked : c < length steps → (heard : Heard) (drive : Drive) → drive ≡ station_drive (byte_at steps c) → heard ≡ heard_from (heard_station drive) (standing common lines) → (part : List ℕ) → part ≡ record_of heard → (now' : Board) (lines' : List Line) → Shows board now' lines' (map (clock heard.level) (phys events steps log₀ board c))
        → Stands events steps log₀ board (put_mid (c * 5) (c * 5 + 5 - c * 5) log part) now' next lines' (c + 1)
    clocked more heard drive step all part put now' lines' sampled =
        rw add-one
        (clock-next events steps log₀ board run.full run.rising stands-so none more _ heard.level (put_is run stands-so none drive heard step all part put) (level-is run stands-so none drive heard step all) now' lines' sampled)

-- the run is not refused, so it goes on
going : (c : After-lines_of-places) → Goes c.args.board.now c.args.steps.now c.args.events.now c.args.log.now
going c =
    let places : length c.lines_of-places.result ≡ 32 = search rules in
    goes _ _ _ _ _ (sym (length-map c.args.board.now.phys line_of) ∙ ap length (sym c.lines_of-places.ensures) ∙ places) c.requires

-- there are 32 places, and the board uses no more
fits : (c : After-lines_of-places) → c.args.board.now.count ≤ length c.lines_of-places.result
fits c =
    let places : length c.lines_of-places.result ≡ 32 = search rules in
    omega (arith, (going c).sound.at_most)

pub slice_bounds-places-end : goal.slice_bounds-places-end
slice_bounds-places-end c = fits (goal.at.slice_bounds-places-end c).After-lines_of-places

pub slice_bounds-lines-end : goal.slice_bounds-lines-end
slice_bounds-lines-end c = sym (length-take-le c.args.board.now.count c.lines_of-places.result (fits (goal.at.slice_bounds-lines-end c).After-lines_of-places))

pub loop-lines-init : goal.loop-lines-init
loop-lines-init c =
    let board = c.args.board.now in
    rw (standing_apart (take board.count c.lines_of-places.result))
    (begins _ _ _ _ (take board.count c.lines_of-places.result) (ap (take board.count) c.lines_of-places.ensures ∙ take-map line_of board.count board.phys))

pub loop-lines-preserved-then-is_due : goal.loop-lines-preserved-then-is_due
loop-lines-preserved-then-is_due c =
    let run = going (goal.at.loop-lines-preserved-then-is_due c).After-lines_of-places in
    let loop = c.loop-lines in
    let due = sym c.if-is_due.ensures in
    let place = place_in loop.lines (event_address c.args.events.now loop.next) in
    let there : place < c.args.board.now.count = on-board run loop.common loop.lines loop.invariant due in
    let many = as-many loop.common loop.lines loop.invariant.shows in
    let is : c.place_in.result ≡ found_at place loop.lines = c.place_in.ensures ∙ ap (λ a. found_at (place_in loop.lines a) loop.lines) c.address_of.ensures in
    let found : c.place_in.result ≡ Some place = found-within place loop.lines c.place_in.result is (omega (arith, waiting-full _ _ _ _ run.full run.rising loop.invariant)) in
    elim c.match-place_in.branch [
      | in-Some w ↦
          let i = w.in-Some.i in
          let at : i ≡ place = ap (λ o. unwrap_or o 0) (sym w.in-Some.is ∙ found) in
          let acted = w.event.ensures ∙ ap (λ code. event code (get_or loop.board.phys i nowhere)) w.code_of.ensures in
          rw w.board-is (event-next _ _ _ _ run.full run.rising loop.invariant run.one due i (at ∙ place-is run loop.common loop.lines loop.invariant due) (omega arith) _ acted)
      | in_default w ↦ absurd (w.in_default.not-Some place found)
    ]

pub join_all-requires : goal.join_all-requires
join_all-requires c =
    let run = going (goal.at.join_all-requires c).After-lines_of-places in
    let loop = c.loop-lines in
    let none = sym c.if-is_due.ensures in
    (as-many loop.common loop.lines (shows run loop.common loop.lines loop.invariant none) ∙ long run loop.common loop.lines loop.invariant none ∙ sym loop.invariant.shows.counted, omega (arith, loop.invariant.shows.counted, run.sound.at_most))

pub returns-then-steps-c : goal.returns-then-steps-c
returns-then-steps-c c =
    let run = going (goal.at.returns-then-steps-c c).After-lines_of-places in
    let all : c.loop-lines.c ≡ length c.args.steps.now = omega (arith, c.loop-lines.invariant.gone) in
    ends run c.loop-lines.invariant (sym c.if-is_due.ensures) c.join_all.new.board all c.join_all.ensures

pub hear-heard-requires : goal.hear-heard-requires
hear-heard-requires c = lines-small (going (goal.at.hear-heard-requires c).After-lines_of-places) c.loop-lines.invariant (sym c.if-is_due.ensures)

pub loop-lines-preserved-then-moves_alike : goal.loop-lines-preserved-then-moves_alike
loop-lines-preserved-then-moves_alike c =
    let run = going (goal.at.loop-lines-preserved-then-moves_alike c).After-lines_of-places in
    let loop = c.loop-lines in
    let none = sym c.if-is_due.ensures in
    let level = c.hear-heard.result.level in
    let moved = all-follow level loop.common (sym c.if-moves_alike.ensures) loop.lines (shows run loop.common loop.lines loop.invariant none) in
    rw c.follows-common.ensures (clocked run loop.common loop.lines loop.invariant none c.if-steps-c.false c.hear-heard.result _ c.station_drive.ensures c.hear-heard.ensures _ c.put.ensures _ _ moved)

pub loop-i-preserved : goal.loop-i-preserved
loop-i-preserved c =
    let at = c.loop-lines in
    let loop = c.loop-i in
    let i = loop.i in
    let level = c.hear-heard.result.level in
    let place : i < length loop.lines = omega (arith, c.loop-i-test.true, loop.auto.lines) in
    λ b phys count-is long so.
    let so_far = loop.invariant b phys (count-is ∙ c.if-acts.auto.lines) (long ∙ c.if-acts.auto.lines) so in
    let there : i < b.count = omega arith in
    let qs = replaced (clock level) i phys in
    let same : length qs ≡ b.count = length-replaced (clock level) i phys ∙ long ∙ sym count-is in
    let next : set qs i (clock level (get_or qs i nowhere)) ≡ replaced (clock level) (i + 1) phys = replace-next (clock level) i phys qs nowhere _ (omega arith) refl refl in
    let here = c.stands-stands.ensures ∙ sym (mixed-at (stands at.common) i loop.lines no_line place) in
    elim c.if-acts.branch [
      | then-acts w ↦ rw (w.board-is, w.lines-is, ← next, ← mixed-set (stands at.common) i loop.lines w.from.result) (turn-acts so_far same i there level w.from.result w.clock-phy.result (w.clock-phy.ensures ∙ ap (clock level) (w.onto.ensures ∙ ap (λ l. onto l (get_or loop.board.phys i nowhere)) here)) w.from.ensures)
      | else-acts w ↦ rw (w.board-is, w.lines-is, ← next, ← mixed-set (stands at.common) i loop.lines w.follows.result) (turn-follows so_far same i there level w.follows.result (ap line_acts (sym here) ∙ sym w.if-acts.ensures) (w.follows.ensures ∙ ap (line_follows level) here))
    ]

pub loop-lines-preserved : goal.loop-lines-preserved
loop-lines-preserved c =
    let run = going (goal.at.loop-lines-preserved c).After-lines_of-places in
    let loop = c.loop-lines in
    let none = sym c.if-is_due.ensures in
    let turn = c.loop-i in
    let b = c.args.board.now in
    let level = c.hear-heard.result.level in
    let specified = phys c.args.events.now c.args.steps.now c.args.log.now b loop.c in
    let at-start = shows run loop.common loop.lines loop.invariant none in
    let many : length specified ≡ b.count = long run loop.common loop.lines loop.invariant none in
    let lines-many : length loop.lines ≡ length specified = as-many loop.common loop.lines at-start in
    let places-all : turn.i ≡ length turn.lines = omega arith in
    let passed = turn.invariant b specified (omega arith) (omega arith) at-start in
    let all-there = subst (Shows b turn.board (mixed (stands loop.common) turn.i turn.lines)) (replaced-all (clock level) turn.i specified (omega arith)) passed in
    rw c.of-common.ensures (clocked run loop.common loop.lines loop.invariant none c.if-steps-c.false c.hear-heard.result _ c.station_drive.ensures c.hear-heard.ensures _ c.put.ensures _ _ (all-passed loop.common turn.lines turn.i places-all all-there))
