-- The capture's checks come first. Each record takes 64 clocks; where that does not show that all fit, a pass counts them, and only then one writes them.
use Prim.Native.Nat.{◌*◌, ◌≤◌, ◌<◌}
use mathlib.Core.Path.{refl, ap, sym, ◌∙◌}
use native.Mathlib.Omega.{arith}
use mathlib.Core.List.{[], ◌∷◌}
use lib.ListN.{length, length-append}
use borrow.Author.Rules.{rules}
use borrow.Author.Tests.{lt-ltb, le-ltb}
use Rattle.std.proofs.Common.{inl}
use Rattle.verdict.specs.Refusal.{Done}
use Rattle.verdict.specs.Output.{join, written}
use Rattle.verdict.proofs.Outputs.{refuses, succeeds}
use Rattle.frame.specs.Answers.{answer_record}
use Rattle.listener.specs.Listening.{records_in}
use Rattle.listener.specs.Parts.{frames_in}
use Rattle.listener.proofs.Frames.{frames-gone, clocks-gone}
use Rattle.listener.proofs.Heard.{counted, more, all, bytes_of, record-put}
use Rattle.listener.proofs.listen.Goals as goal
use Rattle.listener.proofs.listen.Goals.{else-room-levels-via-then-room-levels+else-room-count, else-room-levels-via-else-room-levels}

pub count-requires-clause-fits : goal.count-requires-clause-fits
count-requires-clause-fits c =
    let same = ap (λ l. length (frames_in l.levels.now)) c.filter_map.ensures.source in
    inl (omega (arith, frames-gone c.args.levels.now, same))

pub returns-then-room-count : goal.returns-then-room-count
returns-then-room-count c =
    let many = counted _ c.filter_map.result _ c.count.ensures.ran c.filter_map.ensures.source c.filter_map.ensures.closure (λ frame given q call. search rules) in
    rw c.at.ensures
    (refuses _ _ (rw (sym c.in_ok-check_bytes_for.ensures, lt-ltb (length c.args.answers.now) (length (records_in c.args.levels.now) * answer_record) (omega (arith, c.if-room-count.true, many)))) refl)

pub loop-answer-init : goal.loop-answer-init
unfolding join
loop-answer-init c =
    let room : length (records_in c.args.levels.now) * answer_record ≤ length c.args.answers.now =
    elim c.else-room-levels.branch [
      | else-room-levels-via-then-room-levels+else-room-count w ↦
          let many = counted _ w.filter_map.result _ w.count.ensures.ran w.filter_map.ensures.source w.filter_map.ensures.closure (λ frame given q call. search rules) in
          omega (arith, w.if-room-count.false, many)
      | else-room-levels-via-else-room-levels w ↦ omega (arith, w.if-room-levels.false, clocks-gone c.args.levels.now)
    ] in
    (room, refl, refl)

-- a record more was counted
more-of : (c : goal.In-Some) → length c.loop-answer.yielded < length (records_in c.args.levels.now)
more-of c =
    let records = c.filter_map-answer-items.ensures in
    more _ c.loop-answer.yielded _ c.next.new.self _ c.loop-answer.yielded_by c.next.ensures.steps c.into_iter-answer-iterator.ensures.into_iter_gives records.source records.closure (λ frame given q call. search rules) c.in-Some.answer c.in-Some.is

pub overflow_add-end : goal.overflow_add-end
overflow_add-end c = omega (arith, c.loop-answer.invariant, more-of c)

pub slice_bounds-put-end : goal.slice_bounds-put-end
slice_bounds-put-end c = omega (arith, c.loop-answer.invariant, more-of c)

pub loop-answer-preserved : goal.loop-answer-preserved
loop-answer-preserved c =
    let records = c.filter_map-answer-items.ensures in
    let one = more _ c.loop-answer.yielded _ c.next.new.self _ c.loop-answer.yielded_by c.next.ensures.steps c.into_iter-answer-iterator.ensures.into_iter_gives records.source records.closure (λ frame given q call. search rules) c.in-Some.answer c.in-Some.is in
    let now = c.loop-answer.invariant in (
      now.0,
      omega (arith, now.1, length-append c.loop-answer.yielded (c.in-Some.answer ∷ [])),
      record-put c.loop-answer.yielded c.in-Some.answer c.args.answers.now c.loop-answer.answers _ c.loop-answer.done now.1 now.2 (omega (arith, now, one, c.loop-answer.auto.answers)) c.put.ensures,
    )

pub returns : goal.returns
returns c =
    let records = c.filter_map-answer-items.ensures in
    let whole = all _ c.loop-answer.yielded _ c.next.new.self _ c.loop-answer.yielded_by c.next.ensures.steps c.into_iter-answer-iterator.ensures.into_iter_gives records.source records.closure (λ frame given q call. search rules) c.in-None.is in
    let now = c.loop-answer.invariant in
    succeeds (rw (sym c.in_ok-check_bytes_for.ensures, le-ltb (length c.args.answers.now) (length (records_in c.args.levels.now) * answer_record) now.0) (ap Done (sym (now.1 ∙ ap (λ records. length records * answer_record) whole))))
    (now.2 ∙ ap (λ records. written (bytes_of records) c.args.answers.now) whole)
