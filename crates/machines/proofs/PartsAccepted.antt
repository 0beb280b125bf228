-- Where a run of steps a ++ b is not refused, neither are its two parts: their steps and their event records are the whole's, and the first part keeps the board sound and its addresses.
use Prim.Native.Nat.{ℕ, zero, suc, ◌+◌, ◌-◌, ◌*◌, ◌≤◌, ◌<◌, min}
use mathlib.Core.Path.{◌≡◌, refl, sym, ap, ap₂, ◌∙◌}
use mathlib.Core.Bool.{Bool, true, false, not, ◌&&◌, ◌||◌, cond}
use mathlib.Core.List.{List, [], ◌++◌}
use native.Mathlib.Omega.{arith}
use native.Mathlib.Nat.{div-add-mod'}
use lib.Dec.{eqb, leb, ltb}
use lib.ListN.{length, get_or, take, length-append, get_or-append}
use lib.Seq.{get_or-append-add}
use borrow.Author.Tests.{le-ltb, lt-ltb, le-leb, lt-leb, ltb-false}
use Rattle.verdict.specs.Refusal.{Done, wrong_step, ◌when◌}
use Rattle.verdict.specs.File.{byte_at, records, byte_fault}
use Rattle.verdict.specs.Output.{tabulate, join}
use Rattle.verdict.proofs.Lists.{tabulate-ext, tabulate-cons, length-pieces, get_or-pieces}
use Rattle.verdict.proofs.Checks.{Accepted, accepted, accepts, done-by, passed-bytes, bytes-done}
use Rattle.frame.specs.Frame.{log_record}
use Rattle.phy.specs.declared.Phy.{Phy}
use Rattle.phy.specs.Sound.{nowhere}
use Rattle.phy.proofs.Every.{any-ext, neither}
use Rattle.board.specs.declared.Board.{Board}
use Rattle.board.specs.Record.{has_address}
use Rattle.board.specs.Check.{places, checked}
use Rattle.board.specs.Typed.{TypedBoard}
use Rattle.board.specs.Events.{event_record, most_events, event_clock, event_address, event_code, on_board, event_wrong, clock_before, clock_wrong, event_fault, events_verdict}
use Rattle.board.specs.Outcome.{Told}
use Rattle.between.specs.Outcome.{with_phys}
use Rattle.between.specs.Parts.{event_bytes, picked, events_up_to, events_past}
use Rattle.wire_machine.specs.Run.{steps_verdict, running, board_after_run, Ran}
use Rattle.frame.specs.Steps.{most_steps, largest_step}
use Rattle.verdict.proofs.Outputs.{room-done}
use Rattle.between.proofs.Places.{at-replaced}
use Rattle.between.proofs.Happenings.{no-event-fault, accepted-rising, Splits, splits-at}
use Rattle.machines.proofs.SoundBoards.{run_sound}
use Rattle.machines.proofs.RunParts.{run-keeps-owns, board-left, same-board, same_log}

-- m records of a file, from index k on, with n taken off their clocks
module _ (n : ℕ) (events : List ℕ) where
  abbrev record_at : ℕ → List ℕ
  record_at k = event_bytes (event_clock events k - n) (event_address events k) (event_code events k)

  abbrev stretch : ℕ → ℕ → List ℕ
  stretch k m = join (tabulate m (λ i. record_at (k + i)))

-- Records picked in one stretch of the file: none before it, none after it
module _ (test : ℕ → Bool) (n : ℕ) (events : List ℕ) where
  abbrev Each : Bool → ℕ → ℕ → Type 0
  Each answer k left = (i : ℕ) → k ≤ i → i < k + left → test (event_clock events i) ≡ answer

  none-picked : (x k m left : ℕ) → left ≡ x + m → Each false k x → picked test n events k left ≡ picked test n events (k + x) m
  unfolding picked
  none-picked zero k m left all none =
      let here : k ≡ k + 0 = omega arith in
      let same : left ≡ m = omega arith in
      ap₂ (picked test n events) here same
  none-picked (suc x) k m zero all none = absurd (omega arith)
  none-picked (suc x) k m (suc left) all none =
      let there : suc k + x ≡ k + suc x = omega arith in
      rw (none k (omega arith) (omega arith))
      (none-picked x (suc k) m left (omega arith) (λ i h l. none i (omega arith) (omega arith)) ∙ ap (λ j. picked test n events j m) there)

  all-picked : (m k x left : ℕ) → left ≡ m + x → Each true k m → Each false (k + m) x → picked test n events k left ≡ stretch n events k m
  unfolding picked join tabulate
  all-picked zero k x left all each none = none-picked x k 0 left (omega arith) (λ i h l. none i (omega arith) (omega arith))
  all-picked (suc m) k x zero all each none = absurd (omega arith)
  all-picked (suc m) k x (suc left) all each none =
      let here : k ≡ k + 0 = omega arith in
      let rest = all-picked m (suc k) x left (omega arith) (λ i h l. each i (omega arith) (omega arith)) (λ i h l. none i (omega arith) (omega arith)) in
      ap₂ (λ b file. cond b (record_at n events k) [] ++ file) (each k (omega arith) (omega arith)) rest
      ∙ ap₂ (λ j pieces. record_at n events j ++ join pieces) here
      (tabulate-ext m (λ i. record_at n events (suc k + i)) (λ i. record_at n events (k + suc i)) (λ i l. let there : suc k + i ≡ k + suc i = omega arith in ap (record_at n events) there))
      ∙ ap join (sym (tabulate-cons m (λ i. record_at n events (k + i))))

  stretch-picked : (k m x : ℕ) → records event_record events ≡ k + m + x → Each false 0 k → Each true k m → Each false (k + m) x → picked test n events 0 (records event_record events) ≡ stretch n events k m
  stretch-picked k m x all before within past =
      let here : 0 + k ≡ k = omega arith in
      none-picked k 0 (m + x) _ (omega arith) before
      ∙ ap (λ j. picked test n events j (m + x)) here
      ∙ all-picked m k x (m + x) refl within past

-- the fields of such a stretch
module _ (n : ℕ) (events : List ℕ) (k m : ℕ) where
  abbrev file : List ℕ
  file = stretch n events k m

  stretch-length : length file ≡ m * event_record
  stretch-length = length-pieces event_record m (λ i. record_at n events (k + i)) (λ i. refl)

  module _ (i : ℕ) (within : i < m) where
    field : (j : ℕ) → j < event_record → byte_at file (i * event_record + j) ≡ get_or (record_at n events (k + i)) j 0
    field j l = get_or-pieces event_record m (λ i. record_at n events (k + i)) (λ i. refl) 0 i j within l

    clock-is : event_clock file i ≡ event_clock events (k + i) - n
    clock-is =
        let place : i * event_record ≡ i * event_record + 0 = omega arith in
        ap₂ (λ high low. high * 256 + low) (ap (byte_at file) place ∙ field 0 (omega arith)) (field 1 (omega arith))
        ∙ div-add-mod' (event_clock events (k + i) - n) 256

    address_is : event_address file i ≡ event_address events (k + i)
    address_is = field 2 (omega arith)

    code_is : event_code file i ≡ event_code events (k + i)
    code_is = field 3 (omega arith)

-- An accepted event file
module _ (board : Board) (events : List ℕ) (whole total : ℕ) (done : events_verdict board events whole ≡ Done total) where
  passed : Accepted event_record most_events (event_fault board events whole) events total
  passed = accepted event_record most_events (event_fault board events whole) events total done

  -- each record passes 8 and 9
  good : (i : ℕ) → i < total → (event_wrong board events i ≡ false) × (clock_wrong events whole i ≡ false)
  unfolding event_fault
  good i h = no-event-fault (event_wrong board events i) (clock_wrong events whole i) (passed.all_pass i h)

  not-past-whole : (i : ℕ) → i < total → event_clock events i ≤ whole
  not-past-whole i h = ltb-false whole (event_clock events i) (neither (ltb (event_clock events i) (clock_before events i)) _ (good i h).1).1

  -- a stretch of it is accepted on a board with the same addresses, if no clock is left past the last
  module _ (n k m : ℕ) (part : k + m ≤ total) (other : Board) (same-addresses : (address : ℕ) → on_board other address ≡ on_board board address)
      (last : ℕ) (not-past : (i : ℕ) → i < m → event_clock events (k + i) ≤ last + n) where
    event-right : (i : ℕ) → i < m → event_wrong other (stretch n events k m) i ≡ false
    event-right i h =
        ap₂ (λ code address. not (leb 1 code && leb code 7) || not (on_board other address)) (code_is n events k m i h) (address_is n events k m i h)
        ∙ ap (λ b. not (leb 1 (event_code events (k + i)) && leb (event_code events (k + i)) 7) || not b) (same-addresses (event_address events (k + i)))
        ∙ (good (k + i) (omega arith)).0

    rises : (i : ℕ) → i < m → clock_before (stretch n events k m) i ≤ event_clock (stretch n events k m) i
    rises zero h = omega arith
    rises (suc i) h =
        let rising = accepted-rising board events whole total done (k + i) (k + suc i) (omega arith) (omega (arith, passed.count)) in
        rw (clock-is n events k m i (omega arith), clock-is n events k m (suc i) h) (omega arith)

    clock-right : (i : ℕ) → i < m → clock_wrong (stretch n events k m) last i ≡ false
    clock-right i h =
        let clock = event_clock (stretch n events k m) i in
        let bounded : clock ≤ last = omega (arith, clock-is n events k m i h, not-past i h) in
        rw (le-ltb clock (clock_before (stretch n events k m) i) (rises i h), le-ltb last clock bounded)

    stretch-accepted : events_verdict other (stretch n events k m) last ≡ Done m
    unfolding event_fault
    stretch-accepted =
        let long = stretch-length n events k m in
        accepts event_record most_events (event_fault other (stretch n events k m) last) (stretch n events k m) m
        record {
          whole = omega arith;
          count = omega arith;
          allowed = omega (arith, passed.allowed);
          all_pass = λ i h. rw (event-right i h, clock-right i h);
        }

-- a rising file that splits at a clock
module _ (events : List ℕ) (n : ℕ) (split : Splits events n) where
  abbrev k : ℕ
  k = split.index

  up-to-stretch : events_up_to n events ≡ stretch 0 events 0 k
  up-to-stretch =
      stretch-picked (λ clock. leb clock n) 0 events 0 k (records event_record events - k) (omega (arith, split.within))
      (λ i h l. absurd (omega arith))
      (λ i h l. le-leb (event_clock events i) n (omega (arith, split.earlier i (omega arith))))
      (λ i h l. lt-leb (event_clock events i) n (omega (arith, split.later i (omega arith) (omega (arith, split.within)))))

  past-stretch : events_past n events ≡ stretch n events k (records event_record events - k)
  past-stretch =
      stretch-picked (λ clock. ltb n clock) n events k (records event_record events - k) 0 (omega (arith, split.within))
      (λ i h l. le-ltb n (event_clock events i) (omega (arith, split.earlier i (omega arith))))
      (λ i h l. lt-ltb n (event_clock events i) (omega (arith, split.later i h (omega (arith, split.within)))))
      (λ i h l. absurd (omega arith))

-- a run keeps which addresses are on a board
run-on-board : (board : Board) → TypedBoard board → (steps events : List ℕ) (address : ℕ) → on_board (board_after_run board steps events) address ≡ on_board board address
unfolding has_address
run-on-board board typed steps events address =
    let each = run-keeps-owns board steps events in
    any-ext (min board.count places) _ _ (λ i h.
    ap (λ own. eqb own.address address)
    (ap (λ phys. (get_or (with_phys board phys).phys i nowhere).own) each.maps
    ∙ ap (λ (phy : Phy). phy.own) (at-replaced each.on-each board.count i board.phys nowhere (omega arith) (omega (arith, typed.long)))
    ∙ each.is (get_or board.phys i nowhere)))

-- the steps of each part pass if all do
module _ (a b : List ℕ) (each : (i : ℕ) → i < length (a ++ b) → byte_fault largest_step wrong_step (a ++ b) i ≡ 0) where
  first-steps : (i : ℕ) → i < length a → byte_fault largest_step wrong_step a i ≡ 0
  first-steps i h =
      ap (λ step. wrong_step when ltb 3 step) (sym (get_or-append a b 0 i h))
      ∙ each i (omega (arith, length-append a b))

  second-steps : (i : ℕ) → i < length b → byte_fault largest_step wrong_step b i ≡ 0
  second-steps i h =
      ap (λ step. wrong_step when ltb 3 step) (sym (get_or-append-add a b i 0))
      ∙ each (length a + i) (omega (arith, length-append a b))

-- The two parts of a run
module _ (board : Board) (a b events : List ℕ) where
  abbrev early : List ℕ
  early = events_up_to (length a) events

  abbrev late : List ℕ
  late = events_past (length a) events

  abbrev between : Board
  between = board_after_run board a early

  -- the events of each part are accepted if all are
  module _ (total : ℕ) (done : events_verdict board events (length a + length b) ≡ Done total) where
    apart : Splits events (length a)
    apart = splits-at events (accepted-rising board events (length a + length b) total done) (length a)

    counts : records event_record events ≡ total
    counts = sym (passed board events (length a + length b) total done).count

    first-events : events_verdict board early (length a) ≡ Done apart.index
    first-events =
        ap (λ file. events_verdict board file (length a)) (up-to-stretch events (length a) apart)
        ∙ stretch-accepted board events (length a + length b) total done 0 0 apart.index (omega (arith, counts, apart.within)) board (λ address. refl)
        (length a) (λ i h. omega (arith, apart.earlier (0 + i) (omega arith)))

    second-events : TypedBoard board → events_verdict between late (length b) ≡ Done (records event_record events - apart.index)
    second-events typed =
        ap (λ file. events_verdict between file (length b)) (past-stretch events (length a) apart)
        ∙ stretch-accepted board events (length a + length b) total done (length a) apart.index (records event_record events - apart.index) (omega (arith, counts, apart.within)) between (run-on-board board typed a early)
        (length b) (λ i h. omega (arith, not-past-whole board events (length a + length b) total done (apart.index + i) (omega (arith, counts))))

  -- that both parts are accepted, where there is room for their logs
  pub record PartsPass : Type 0 where
    pub first : (out : List ℕ) → length a * log_record ≤ length out → running board a early out ≡ Done (length a * log_record)
    pub second : (out : List ℕ) → length b * log_record ≤ length out → running between b late out ≡ Done (length b * log_record)

  -- where the whole run is not refused neither is a part
  pub parts-accepted : TypedBoard board → (out : List ℕ) {m : ℕ} → running board (a ++ b) events out ≡ Done m → PartsPass
  parts-accepted typed out done =
      let on-board = done-by (checked board) _ done in
      let on-steps = done-by (steps_verdict (a ++ b)) _ on-board.rest in
      let on-events = done-by (events_verdict board events on-steps.count) _ on-steps.rest in
      let pass = passed-bytes most_steps largest_step wrong_step (a ++ b) on-steps.count on-steps.passes in
      let long = length-append a b in
      let all-events = ap (events_verdict board events) (sym (pass.count ∙ long)) ∙ on-events.passes in
      let still-sound = run_sound (record { typed = typed; passes = on-board.passes }) early a in
      record {
        first = λ out₁ room.
            rw (on-board.passes, bytes-done most_steps largest_step wrong_step a (omega (arith, pass.few)) (first-steps a b pass.each), first-events on-events.count all-events, room-done out₁ (length a * log_record) room);
        second = λ out₂ room.
            rw (still-sound.passes, bytes-done most_steps largest_step wrong_step b (omega (arith, pass.few)) (second-steps a b pass.each), second-events on-events.count all-events typed, room-done out₂ (length b * log_record) room);
      }

  -- By what `run` promises: where the whole succeeds and there is room for their logs, both parts succeed; so a run may be stopped anywhere and gone on with
  module _ (typed : TypedBoard board) {out out₁ out₂ : List ℕ} {whole first second : Told} {log log₁ log₂ : List ℕ} {n : ℕ}
      (runs-whole : Ran board (a ++ b) events out whole log) (done : whole.verdict ≡ Done n)
      (runs-first : Ran board a early out₁ first log₁) (room₁ : length a * log_record ≤ length out₁)
      (runs-second : Ran first.board b late out₂ second log₂) (room₂ : length b * log_record ≤ length out₂) where
    passing : PartsPass
    passing = parts-accepted typed out (sym runs-whole.writes.verdict ∙ done)

    pub first_done : first.verdict ≡ Done (length a * log_record)
    first_done = runs-first.writes.verdict ∙ passing.first out₁ room₁

    pub second-done : second.verdict ≡ Done (length b * log_record)
    second-done =
        runs-second.writes.verdict
        ∙ ap (λ from. running from b late out₂) (board-left board a early runs-first first_done)
        ∙ passing.second out₂ room₂

    pub stops-and-goes-on : (whole.board ≡ second.board) × (take (length (a ++ b) * log_record) log ≡ take (length a * log_record) log₁ ++ take (length b * log_record) log₂)
    stops-and-goes-on = (
      same-board board a b events runs-whole done runs-first first_done runs-second second-done,
      same_log board a b events runs-whole done runs-first first_done runs-second second-done,
    )
