-- The records are asked in order, and the first at fault refuses.
use Prim.Native.Nat.{ℕ, ◌+◌, ◌*◌, min, ◌<◌}
use mathlib.Core.Bool.{Bool, false}
use mathlib.Core.List.{List}
use mathlib.Core.Path.{◌≡◌, refl, ap, sym, ◌∙◌}
use native.Mathlib.Omega.{arith}
use native.Mathlib.Nat.{sub-zero}
use Rattle.std.specs.Prelude.{Err}
use native.Mathlib.Numerals.{add-one}
use lib.Dec.{eqb}
use lib.ListN.{length, get_or, take}
use borrow.Author.Rules.{rules}
use Rattle.verdict.specs.Refusal.{Refused, Good, judged, judged_by, refusal_of}
use Rattle.verdict.specs.File.{byte_at, file_verdict}
use Rattle.verdict.proofs.Checks.{count-refused, count-done, next, stop, finish}
use Rattle.verdict.proofs.Faults.{some_number}
use Rattle.phy.specs.Record.{any}
use Rattle.board.specs.declared.Board.{Board}
use Rattle.board.specs.Record.{addresses_of}
use Rattle.board.specs.Events.{event_clock, event_address, event_fault_as, event_fault, on_board, events_verdict}
use Rattle.board.proofs.Records.{refusal-judged, good-own, among-first}
use Rattle.board.proofs.events.check_events.Invariants.{fault_by}
use Rattle.board.proofs.events.check_events.Goals as goal

-- what the checks find where the table says which addresses are on the board is what they find on the board
on-board : (board : Board) (events : List ℕ) (last : ℕ) (addresses : List ℕ) (there : List Bool) → length board.phys ≡ 32 → ((i : ℕ) → byte_at events i < 256)
    → addresses ≡ addresses_of board.phys
    → (let among = take (min board.count 32) addresses in (a : ℕ) → a < 256 → get_or there a false ≡ any (length among) (λ i. eqb (get_or among i 0) a))
    → events_verdict board events last ≡ file_verdict 4 256 (fault_by there events last) events
unfolding event_fault
on-board board events last addresses there places bytes all table =
    let told : (k : ℕ) → get_or there (event_address events k) false ≡ on_board board (event_address events k) = λ k.
    table (event_address events k) (bytes (k * 4 + 2))
    ∙ rw all (among-first board.phys (min board.count 32) (event_address events k) (omega arith)) in
    λ i. file_verdict 4 256 (λ k. event_fault_as (sym (told k) i) events last k) events

pub returns-in_err-count : goal.returns-in_err-count
returns-in_err-count c =
    let handed_on : c.from_residual.result ≡ Err c.in_err-count.field-0.0 = search rules in
    rw handed_on (count-refused _ _ _ _ (omega arith) c.in_err-count.ensures)

pub loop-k-init : goal.loop-k-init
loop-k-init c = (refl, rw sub-zero (count-done _ _ _ _ (omega arith) c.in_ok-count.ensures))

pub returns-in_default : goal.returns-in_default
returns-in_default c =
    let events = c.args.events.now in
    let there = c.table_of-there.result in
    let k = c.loop-k.k in
    let fault = fault_by there events c.args.last in
    let whole = on-board c.args.board events c.args.last _ there (search rules) (λ i. omega (arith, c.type_inv.events i)) c.addresses_of-addresses.ensures (rw c.min.ensures at c.table_of-there.ensures) in
    let found = ap judged (sym c.unwrap_err.ensures) ∙ (rw c.address_of-address.ensures at c.judge_event-event.ensures) in
    let number = ap refusal_of found ∙ refusal-judged (fault k) (event_clock events k) in
    rw c.at.ensures
    (ap (λ f. Refused f k) number ∙ sym (whole ∙ c.loop-k.invariant.1 ∙ stop fault _ _ k (search rules) (λ none. some_number c.unwrap_err.result (number ∙ none))))

pub loop-k-preserved : goal.loop-k-preserved
loop-k-preserved c =
    let events = c.args.events.now in
    let k = c.loop-k.k in
    let fault = fault_by c.table_of-there.result events c.args.last in
    let found : judged_by (fault k) (event_clock events k) ≡ Good c.in-Ok.clock =
    sym (rw c.address_of-address.ensures at c.judge_event-event.ensures) ∙ ap judged c.in-Ok.is in
    let passes = sym (refusal-judged (fault k) (event_clock events k)) ∙ ap refusal_of found in
    (rw add-one (good-own (fault k) _ _ found), c.loop-k.invariant.1 ∙ next fault _ _ k (search rules) passes)

pub returns : goal.returns
returns c =
    let whole = on-board c.args.board c.args.events.now c.args.last _ c.table_of-there.result (search rules) (λ i. omega (arith, c.type_inv.events i)) c.addresses_of-addresses.ensures (rw c.min.ensures at c.table_of-there.ensures) in
    sym (whole ∙ c.loop-k.invariant.1 ∙ finish _ _ _ _ c.loop-k-test.false)
