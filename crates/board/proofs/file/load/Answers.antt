-- The records are asked in order; each that passes fills the next place, and the first at fault refuses.
use Prim.Native.Nat.{ℕ, ◌*◌, ◌<◌}
use mathlib.Core.Bool.{Bool, true}
use mathlib.Core.List.{List}
use mathlib.Core.Path.{◌≡◌, ap, ap₂, sym, ◌∙◌}
use native.Mathlib.Omega.{arith}
use native.Mathlib.Nat.{sub-zero}
use lib.ListN.{set, replicate}
use Rattle.verdict.specs.Refusal.{Verdict, Done, number_of, finding}
use Rattle.verdict.specs.Output.{tabulate}
use Rattle.verdict.proofs.Checks.{count-refused, counted, count-done, next, stop, finish}
use Rattle.verdict.proofs.Outputs.{fill}
use Rattle.verdict.proofs.Faults.{some_number}
use Rattle.phy.specs.Fields.{PhyRecord}
use Rattle.phy.specs.Sound.{blank}
use Rattle.board.specs.Load.{address_at, phy_at, record_fault, board_verdict, board_of, refused_load, loaded_by, loaded}
use Rattle.board.proofs.Taken.{taken_none, taken_next}
use Rattle.board.proofs.Loading.{found-fault, found-phy}
use borrow.Author.Rules.{rules}
use Rattle.board.proofs.file.load.Goals as goal

pub returns-in-Err : goal.returns-in-Err
unfolding loaded
returns-in-Err c =
    let file = c.args.file.now in
    c.refused.ensures ∙ ap (λ (v : Verdict). loaded_by v file) (count-refused (record_fault file) 134 32 file (omega arith) c.in-Err.ensures)

pub loop-k-init : goal.loop-k-init
unfolding tabulate
loop-k-init c =
    (rw c.blank-blank.ensures, taken_none _, rw sub-zero (count-done _ _ _ _ (omega arith) c.in-Ok.ensures), counted (omega arith) c.in-Ok.ensures)

pub returns-in_default : goal.returns-in_default
unfolding loaded
returns-in_default c =
    let file = c.args.file.now in
    let loop = c.loop-k in
    let k = loop.k in
    let fault = record_fault file in
    let byte : address_at file k < 256 = omega (arith, c.type_inv.file (k * 134)) in
    let number : number_of c.unwrap_err.result ≡ fault k =
    ap finding (sym c.unwrap_err.ensures) ∙ c.check-checked.ensures ∙ found-fault file k _ c.at-record.ensures loop.taken loop.invariant.1 byte in
    let refuses = loop.invariant.2 ∙ stop fault _ _ k (search rules) (λ none. some_number c.unwrap_err.result (number ∙ none)) in
    (rw c.at.ensures at c.refused-in_default.ensures)
    ∙ ap (λ f. refused_load f k) number
    ∙ sym (ap (λ (v : Verdict). loaded_by v file) refuses)

pub loop-k-preserved : goal.loop-k-preserved
loop-k-preserved c =
    let file = c.args.file.now in
    let loop = c.loop-k in
    let k = loop.k in
    let fault = record_fault file in
    let within : k < 32 = omega (arith, c.loop-k-test.true, loop.invariant.3.allowed) in
    let byte : address_at file k < 256 = omega (arith, c.type_inv.file (k * 134)) in
    let address = ap (λ (r : PhyRecord). r.own.address) c.at-record.ensures in
    let passes : fault k ≡ 0 =
    sym (found-fault file k _ c.at-record.ensures loop.taken loop.invariant.1 byte) ∙ sym c.check-checked.ensures ∙ ap finding c.in-Ok-checked.is in
    let phy = c.fresh.ensures ∙ found-phy file k _ c.at-record.ensures in (
      fill (phy_at file) (replicate 32 blank) loop.phys k _ within loop.invariant.0 phy,
      ap₂ (λ (table : List Bool) (a : ℕ). set table a true) loop.invariant.1 address ∙ taken_next (address_at file) k byte,
      loop.invariant.2 ∙ next fault _ _ k (search rules) passes,
      loop.invariant.3,
    )

pub returns : goal.returns
unfolding loaded board_of
returns c =
    let file = c.args.file.now in
    let turn = c.loop-k in
    let all : turn.k ≡ c.in-Ok.count = omega arith in
    let done : board_verdict file ≡ Done c.in-Ok.count = turn.invariant.2 ∙ finish _ _ _ _ c.loop-k-test.false in
    rw (done, rw all at turn.invariant.0)
