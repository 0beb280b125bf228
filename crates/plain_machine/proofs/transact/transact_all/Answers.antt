-- Event by event and transaction by transaction: the output begins with the answers so far, and the events that are left make of the PHYs what the plain machine says.
use Prim.Native.Nat.{ℕ, ◌+◌, ◌*◌, ◌-◌, ◌≤◌, ◌<◌}
use mathlib.Core.Path.{◌≡◌, refl, sym, ap, ap₂, subst, ◌∙◌}
use mathlib.Core.Bool.{true, false}
use mathlib.Core.List.{List, [], ◌∷◌, map}
use native.Mathlib.Omega.{arith}
use borrow.Author.Rules.{rules}
use native.Mathlib.Decide.{ℕ_discrete}
use lib.ListN.{length, length-map, get_or, set, take}
use borrow.Rule.Slice.PartMut.{put_mid}
use Rattle.std.specs.Prelude.{Some, None}
use Rattle.verdict.specs.Refusal.{Judged, Good, Bad, judged}
use Rattle.verdict.specs.File.{records}
use Rattle.verdict.specs.Output.{join, written}
use Rattle.verdict.proofs.Outputs.{pieced, length-pieced, piece-next, pieced-all}
use Rattle.frame.specs.declared.list.Transaction.{Transaction}
use Rattle.frame.specs.List.{list_record, transaction_at, parsed}
use Rattle.frame.specs.Answers.{answer_bytes}
use Rattle.frame.proofs.Lists.{good-is-own, put-fills}
use Rattle.phy.specs.declared.Phy.{Phy}
use Rattle.phy.specs.Sound.{nowhere}
use Rattle.phy.specs.Events.{event}
use Rattle.phy.specs.Own.{takes}
use Rattle.board.specs.declared.Board.{Board}
use Rattle.board.specs.Events.{event_record, event_address}
use Rattle.between.specs.Outcome.{phys_of, with_phys, owns_of}
use Rattle.between.specs.Happened.{is_due, place_of, taker_of, found_at}
use Rattle.between.proofs.Places.{take-map}
use Rattle.between.proofs.Finding.{found-map, found-some, found-none}
use Rattle.between.proofs.Happenings.{due-now}
use Rattle.between.proofs.EventPlaces.{OneTakes, one-takes}
use Rattle.plain_machine.specs.Transact.{lead_of, after_act, answer_of}
use Rattle.plain_machine.proofs.Acting.{few-before, taker, answered-there, acted-there, answered-nowhere, acted-nowhere}
use Rattle.plain_machine.proofs.Accepts.{Goes, goes}
use Rattle.plain_machine.proofs.Stands.{lead, clock, piece, Stands, begins, waiting-full, stands_at, set_at, event-next, ends, answer-next, act-next, planned-answers}
use Rattle.plain_machine.proofs.transact.transact_all.Goals as goal
use Rattle.plain_machine.proofs.transact.transact_all.Goals.{After-owns_of-places, At-loop-parsed, After-is_due, After-place_of, After-taker_of, in-Some, in_default, in-Some-taker_of, in_default-taker_of}

never : {A : Type 0} {c : ℕ} {t : Transaction} → Bad c ≡ Good t → A
never e = absurd (let z : ◌≡◌ {A = ℕ} 0 1 = cc in omega arith)

-- a good record is one of the list's
good-within : {board : Board} {list events out : List ℕ} → Goes board list events out → {k : ℕ} → k ≤ records list_record list → {t : Transaction} → parsed list k ≡ Good t → k < records list_record list
good-within {list = list} run {k} gone good =
    elim (ℕ_discrete k (records list_record list)) [ yes end ↦ never (sym run.past ∙ ap (parsed list) (sym end) ∙ good) | no other ↦ omega arith ]

-- and where a record is bad the list has ended
bad-ends : {board : Board} {list events out : List ℕ} → Goes board list events out → {k : ℕ} → k ≤ records list_record list → {c : ℕ} → parsed list k ≡ Bad c → k ≡ records list_record list
bad-ends {list = list} run {k} gone bad =
    elim (ℕ_discrete k (records list_record list)) [ yes end ↦ end | no other ↦ never (sym bad ∙ run.good k (omega arith)) ]

-- a record's lead is short
short-lead : (parse : Judged Transaction) {l : ℕ} → l ≡ lead_of parse → l ≤ 63
short-lead (Good t) is = omega (arith, few-before t)
short-lead (Bad c) is = omega arith

-- the list is not refused
known : (c : After-owns_of-places) → Goes c.args.board.now c.args.list.now c.args.events.now c.args.answers.now
known c =
    let places : length c.owns_of-places.result ≡ 32 = search rules in
    goes _ _ _ _ _ (sym (length-map c.args.board.now.phys (λ (phy : Phy). phy.own)) ∙ ap length (sym c.owns_of-places.ensures) ∙ places) c.requires

-- who frames are for
owns-are : (c : After-owns_of-places) → take c.args.board.now.count c.owns_of-places.result ≡ owns_of (phys_of c.args.board.now)
owns-are c = ap (take c.args.board.now.count) c.owns_of-places.ensures ∙ take-map (λ (phy : Phy). phy.own) c.args.board.now.count c.args.board.now.phys

owns-full : (c : After-owns_of-places) → length (owns_of (phys_of c.args.board.now)) ≡ c.args.board.now.count
owns-full c = length-map (phys_of c.args.board.now) (λ (phy : Phy). phy.own) ∙ (known c).full

module _ (c : At-loop-parsed) where
  abbrev list : List ℕ
  list = c.args.list.now

  abbrev events : List ℕ
  events = c.args.events.now

  abbrev out : List ℕ
  out = c.args.answers.now

  abbrev board : Board
  board = c.args.board.now

  abbrev start : After-owns_of-places
  start = (goal.at.At-loop-parsed c).After-owns_of-places

  run : Goes board list events out
  run = known start

  -- the output keeps its length, and has room
  room : (length c.loop-parsed.answers ≡ length out) × (records list_record list * 6 ≤ length out) × (records list_record list ≤ 64) × (c.loop-parsed.k ≤ records list_record list)
  room = (
    ap length c.loop-parsed.invariant.put ∙ length-pieced 6 (piece list events out board) (λ j. refl) out c.loop-parsed.k (omega (arith, c.loop-parsed.invariant.gone, run.room)),
    run.room,
    run.few,
    c.loop-parsed.invariant.gone,
  )

-- whether an event is due
module _ (c : After-is_due) where
  abbrev at : At-loop-parsed
  at = (goal.at.After-is_due c).At-loop-parsed

  lead_is : c.lead_of.result ≡ lead (list at) (events at) (out at) (board at) c.loop-parsed.k
  lead_is = c.lead_of.ensures ∙ ap lead_of c.parsed_at-parsed.ensures

  asks : c.is_due.result ≡ is_due (events at) c.loop-parsed.next (clock (list at) (events at) (out at) (board at) c.loop-parsed.k)
  asks = c.is_due.ensures ∙ ap (λ l. is_due (events at) c.loop-parsed.next (c.loop-parsed.k * 65 + l)) lead_is

-- an event is due: it stands at a place of the board
module _ (c : After-place_of) where
  abbrev turn : After-is_due
  turn = (goal.at.After-place_of c).After-is_due

  abbrev head : At-loop-parsed
  head = (goal.at.After-place_of c).At-loop-parsed

  abbrev place : ℕ
  place = place_of (owns_of (phys_of (board head))) (event_address (events head) c.loop-parsed.next)

  is-due : is_due (events head) c.loop-parsed.next (clock (list head) (events head) (out head) (board head) c.loop-parsed.k) ≡ true
  is-due = sym (asks turn) ∙ c.if-is_due.true

  more-events : (c.loop-parsed.next < records event_record (events head)) × (records event_record (events head) ≤ 256)
  more-events = ((due-now (events head) c.loop-parsed.next _ is-due).0, (run head).few-events)

  place_is : c.place_of.result ≡ found_at place (owns_of (phys_of (board head)))
  place_is = c.place_of.ensures ∙ ap₂ (λ owns address. found_at (place_of owns address) owns) (owns-are (start head)) c.address_of.ensures

  on-board : place < (board head).count
  on-board = (run head).named c.loop-parsed.next more-events.0

-- no event is due before a transaction acts: it acts at the place of the PHY that takes its address, if there is one
module _ (c : After-taker_of) where
  abbrev asked : After-is_due
  asked = (goal.at.After-taker_of c).After-is_due

  abbrev here : At-loop-parsed
  here = (goal.at.After-taker_of c).At-loop-parsed

  abbrev t : Transaction
  t = c.in-Ok.transaction

  none-due : is_due (events here) here.loop-parsed.next (clock (list here) (events here) (out here) (board here) here.loop-parsed.k) ≡ false
  none-due = sym (asks asked) ∙ c.if-is_due.false

  good : parsed (list here) here.loop-parsed.k ≡ Good t
  good = sym c.parsed_at-parsed.ensures ∙ ap judged c.in-Ok.is

  more : here.loop-parsed.k < records list_record (list here)
  more = good-within (run here) here.loop-parsed.invariant.gone good

  t-is : t ≡ transaction_at (list here) here.loop-parsed.k
  t-is = good-is-own (list here) here.loop-parsed.k t good

  own-good : parsed (list here) here.loop-parsed.k ≡ Good (transaction_at (list here) here.loop-parsed.k)
  own-good = (run here).good here.loop-parsed.k more

  abbrev waiting : List Phy
  waiting = here.loop-parsed.invariant.waiting

  alone : (i j : ℕ) → i < length waiting → j < length waiting → takes t.address (get_or waiting i nowhere).own ≡ true → takes t.address (get_or waiting j nowhere).own ≡ true → i ≡ j
  alone = one-takes waiting (subst OneTakes (sym here.loop-parsed.invariant.owns) (run here).one) t.address

  full : length waiting ≡ (board here).count
  full = waiting-full _ _ _ _ (run here).full (run here).rising here.loop-parsed.invariant

  taker-is : c.taker_of.result ≡ found_at (taker t waiting alone) waiting
  taker-is =
      c.taker_of.ensures
      ∙ ap (λ owns. found_at (taker_of owns t.address) owns) (owns-are (start here) ∙ sym here.loop-parsed.invariant.owns)
      ∙ found-map (takes t.address) (λ (phy : Phy). phy.own) waiting

  -- the answer's record is put behind those before it
  puts : (bytes : List ℕ) → bytes ≡ answer_bytes (answer_of t waiting) → put_mid (here.loop-parsed.k * 6) (here.loop-parsed.k * 6 + 6 - here.loop-parsed.k * 6) here.loop-parsed.answers bytes ≡ pieced 6 (piece (list here) (events here) (out here) (board here)) (out here) (here.loop-parsed.k + 1)
  puts bytes is =
      let answered = ap (λ t. answer_bytes (answer_of t waiting)) t-is ∙ ap answer_bytes (answer-next _ _ _ _ (run here).full (run here).rising here.loop-parsed.invariant none-due more own-good) in
      ap₂ (put_mid (here.loop-parsed.k * 6) (here.loop-parsed.k * 6 + 6 - here.loop-parsed.k * 6)) here.loop-parsed.invariant.put (is ∙ answered)
      ∙ piece-next 6 (piece (list here) (events here) (out here) (board here)) (λ j. refl) (out here) here.loop-parsed.k

  -- and the PHYs stand as the transaction leaves them
  acts : (bytes : List ℕ) → bytes ≡ answer_bytes (answer_of t waiting) → (after : Board) → after ≡ with_phys (board here) (map (after_act t) waiting) → Stands (list here) (events here) (out here) (board here) (put_mid (here.loop-parsed.k * 6) (here.loop-parsed.k * 6 + 6 - here.loop-parsed.k * 6) here.loop-parsed.answers bytes) after here.loop-parsed.next (here.loop-parsed.k + 1)
  acts bytes answer after left =
      act-next _ _ _ _ (run here).full (run here).rising here.loop-parsed.invariant none-due more own-good _ (puts bytes answer) after (left ∙ ap (λ t. with_phys (board here) (map (after_act t) waiting)) t-is)

-- it acts at the place that is found: the PHY there answers, and is changed
module _ (c : After-taker_of) (i : ℕ) (found : c.taker_of.result ≡ Some i) where
  abbrev top : At-loop-parsed
  top = here c

  at_taker : (i ≡ taker (t c) (waiting c) (alone c)) × (taker (t c) (waiting c) (alone c) < length (waiting c))
  at_taker = found-some (waiting c) _ (sym (taker-is c) ∙ found)

  there : i < (board top).count
  there = omega (arith, at_taker, full c)

  phy-is : get_or top.loop-parsed.board.phys i nowhere ≡ get_or (waiting c) i nowhere
  phy-is = stands_at _ _ _ _ (run top).full (run top).rising top.loop-parsed.invariant i there

  answered : answer_of (t c) (get_or top.loop-parsed.board.phys i nowhere ∷ []) ≡ answer_of (t c) (waiting c)
  answered = rw (phy-is, at_taker.0) (sym (answered-there (t c) (waiting c) (alone c) at_taker.1))

  acted : record { count = top.loop-parsed.board.count; phys = set top.loop-parsed.board.phys i (after_act (t c) (get_or top.loop-parsed.board.phys i nowhere)) } ≡ with_phys (board top) (map (after_act (t c)) (waiting c))
  acted =
      set_at _ _ _ _ (run top).full (run top).rising top.loop-parsed.invariant i there _
      ∙ ap (with_phys (board top)) (rw (phy-is, at_taker.0) (sym (acted-there (t c) (waiting c) (alone c) at_taker.1)))

-- or nowhere: nobody answers, and no PHY is changed
module _ (c : After-taker_of) (missing : c.taker_of.result ≡ None) where
  past : length (waiting c) ≤ taker (t c) (waiting c) (alone c)
  past = found-none (waiting c) _ (sym (taker-is c) ∙ missing)

  silent : answer_of (t c) [] ≡ answer_of (t c) (waiting c)
  silent = sym (answered-nowhere (t c) (waiting c) (alone c) past)

  untouched : (here c).loop-parsed.board ≡ with_phys (board (here c)) (map (after_act (t c)) (waiting c))
  untouched = (here c).loop-parsed.invariant.board-is ∙ ap (with_phys (board (here c))) (sym (acted-nowhere (t c) (waiting c) (alone c) past))

pub slice_bounds-places-end : goal.slice_bounds-places-end
slice_bounds-places-end c =
    let places = ap length c.owns_of-places.ensures ∙ length-map c.args.board.now.phys (λ (phy : Phy). phy.own) in
    omega (arith, places, (known c).sound.at_most, c.well_formed)

pub slice_bounds-owns-end : goal.slice_bounds-owns-end
slice_bounds-owns-end c =
    let start = (goal.at.slice_bounds-owns-end c).After-owns_of-places in
    sym (ap length (owns-are start) ∙ owns-full start)

pub loop-parsed-init : goal.loop-parsed-init
loop-parsed-init c = begins _ _ _ _ (known (goal.at.loop-parsed-init c).After-owns_of-places).rising

pub overflow_mul-clock : goal.overflow_mul-clock
overflow_mul-clock c = omega (arith, room (goal.at.overflow_mul-clock c).At-loop-parsed)

pub overflow_add-clock : goal.overflow_add-clock
overflow_add-clock c = omega (arith, room (goal.at.overflow_add-clock c).At-loop-parsed, short-lead (judged c.parsed_at-parsed.result) c.lead_of.ensures)

pub loop-parsed-preserved-then-is_due : goal.loop-parsed-preserved-then-is_due
loop-parsed-preserved-then-is_due c =
    let turn = (goal.at.loop-parsed-preserved-then-is_due c).After-place_of in
    let now = head turn in
    elim c.match-place_of.branch [
      | in-Some w ↦
          let i = w.in-Some.i in
          let found = found-some _ _ (sym (place_is turn) ∙ w.in-Some.is) in
          let acted = w.event.ensures ∙ ap (λ code. event code (get_or c.loop-parsed.board.phys i nowhere)) w.code_of.ensures in
          rw w.board-is
          (event-next _ _ _ _ (run now).full (run now).rising c.loop-parsed.invariant (run now).one (is-due turn) i found.0 (omega (arith, found, on-board turn)) _ acted)
      | in_default w ↦ absurd (omega (arith, found-none _ _ (sym (place_is turn) ∙ w.in_default.is), on-board turn, owns-full (start now)))
    ]

pub returns-in_default-parsed : goal.returns-in_default-parsed
returns-in_default-parsed c =
    let asked = (goal.at.returns-in_default-parsed c).After-is_due in
    let now = at asked in
    let bad = sym c.parsed_at-parsed.ensures ∙ ap judged c.in_default-parsed.is in
    let end = bad-ends (run now) c.loop-parsed.invariant.gone bad in
    let none = sym (asks asked) ∙ c.if-is_due.false in
    record {
      board = ends _ _ _ _ (run now).full (run now).rising c.loop-parsed.invariant none end (ap lead_of bad);
      answered =
          c.loop-parsed.invariant.put
          ∙ ap (pieced 6 (piece (list now) (events now) (out now) (board now)) (out now)) end
          ∙ pieced-all 6 (piece (list now) (events now) (out now) (board now)) (λ j. refl) (out now) (records list_record (list now))
          ∙ ap (λ xss. written (join xss) (out now)) (planned-answers (list now) (events now) (out now) (board now));
    }

pub slice_bounds-put-end : goal.slice_bounds-put-end
slice_bounds-put-end c =
    let turn = (goal.at.slice_bounds-put-end c).After-taker_of in
    omega (arith, room (here turn), more turn)

pub loop-parsed-smaller : goal.loop-parsed-smaller
loop-parsed-smaller c = omega (arith, more (goal.at.loop-parsed-smaller c).After-taker_of)

-- the answer, and the PHYs after it, by whether one takes the address
pub loop-parsed-preserved : goal.loop-parsed-preserved
loop-parsed-preserved c =
    let turn = (goal.at.loop-parsed-preserved c).After-taker_of in
    let now = here turn in
    let fits : c.put.new.part ≡ answer_bytes c.match-taker_of.answer = c.put.ensures ∙ put-fills _ _ (omega (arith, room now, more turn)) in
    elim c.match-taker_of.branch [
      | in-Some-taker_of w ↦
          let i = w.in-Some-taker_of.i in
          let found = w.in-Some-taker_of.is in
          let answer = w.answer-is ∙ w.answer_of-answer.ensures ∙ answered turn i found in
          let left = w.board-is ∙ ap (λ phy. record { count = now.loop-parsed.board.count; phys = set now.loop-parsed.board.phys i phy }) w.after_act.ensures ∙ acted turn i found in
          acts turn _ (fits ∙ ap answer_bytes answer) _ left
      | in_default-taker_of w ↦
          let missing = w.in_default-taker_of.is in
          acts turn _ (fits ∙ ap answer_bytes (w.answer-is ∙ w.unanswered-answer.ensures ∙ silent turn missing)) _ (w.board-is ∙ untouched turn missing)
    ]
