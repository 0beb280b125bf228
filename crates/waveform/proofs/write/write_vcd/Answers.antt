-- The log's checks come first. The longest text shows that it fits, or else its size, and only then it is written.
use Prim.Native.Nat.{ℕ, ◌≤◌}
use mathlib.Core.Path.{◌≡◌, refl, ap, sym, ◌∙◌}
use mathlib.Core.List.{List}
use native.Mathlib.Omega.{arith}
use lib.ListN.{length}
use borrow.Author.Rules.{rules}
use borrow.Author.Tests.{lt-ltb, le-ltb}
use Rattle.std.specs.Prelude.{Err}
use Rattle.verdict.specs.Refusal.{Done, said}
use Rattle.verdict.proofs.Outputs.{refuses, succeeds}
use Rattle.waveform.specs.Waveform.{waveform, Written, time_bytes}
use Rattle.waveform.specs.declared.write.Output.{Output}
use Rattle.waveform.specs.Passes.{Accepted, Puts, put}
use Rattle.waveform.proofs.Puts.{put_first}
use Rattle.waveform.proofs.Writing.{log-refused, log-counted}
use Rattle.waveform.proofs.Longest.{never-longer}
use Rattle.waveform.proofs.write.write_vcd.Goals as goal
use Rattle.waveform.proofs.write.write_vcd.Goals.{else-room-lt-LONGEST-via-then-room-lt-LONGEST+else-room-text_size, else-room-lt-LONGEST-via-else-room-lt-LONGEST}

-- the text as it was put
put_whole : (log : List ℕ) (out out' : Output) (text' : List ℕ) → Accepted log → out.at ≡ 0 → length (waveform log) ≤ length out.text.now → Puts out (waveform log) out' → text' ≡ out'.text.now →
    Written log out.text.now (Done out'.at) text'
put_whole log out out' text' good start fits puts same =
    let enough = le-ltb (length out.text.now) (length (waveform log)) fits in
    let size : out'.at ≡ length (waveform log) = omega (arith, puts.behind, start) in
    succeeds (rw (good, enough) (ap Done (sym size)))
    (same ∙ puts.output ∙ ap (λ at. put at (waveform log) out.text.now) start ∙ put_first (waveform log) out.text.now)

pub returns-in_err-count_records : goal.returns-in_err-count_records
returns-in_err-count_records c =
    let handed_on : c.from_residual.result ≡ Err c.in_err-count_records.field-0.0 = search rules in
    refuses (waveform c.args.log.now) c.args.text.now (rw (log-refused c.args.log.now c.in_err-count_records.ensures)) (ap said handed_on)

pub text_size-requires : goal.text_size-requires
text_size-requires c = log-counted c.args.log.now c.in_ok-count_records.ensures

pub returns-then-room-text_size : goal.returns-then-room-text_size
returns-then-room-text_size c =
    let log = c.args.log.now in
    let good = log-counted log c.in_ok-count_records.ensures in
    let short = lt-ltb (length c.args.text.now) (length (waveform log)) (omega (arith, c.if-room-text_size.true, c.text_size.ensures)) in
    rw c.at.ensures (refuses (waveform log) c.args.text.now (rw (good, short)) refl)

pub put_all-requires-clause-accepted : goal.put_all-requires-clause-accepted
put_all-requires-clause-accepted c = log-counted c.args.log.now c.in_ok-count_records.ensures

pub put_all-requires-clause-has_room : goal.put_all-requires-clause-has_room
unfolding time_bytes
put_all-requires-clause-has_room c =
    let short = never-longer c.args.log.now (log-counted c.args.log.now c.in_ok-count_records.ensures) in
    elim c.else-room-lt-LONGEST.branch [
      | else-room-lt-LONGEST-via-then-room-lt-LONGEST+else-room-text_size w ↦ omega (arith, w.if-room-text_size.false, w.text_size.ensures)
      | else-room-lt-LONGEST-via-else-room-lt-LONGEST w ↦ omega (arith, w.if-room-lt-LONGEST.false, short)
    ]

pub returns : goal.returns
unfolding time_bytes
returns c =
    let good = log-counted c.args.log.now c.in_ok-count_records.ensures in
    let short = never-longer c.args.log.now good in
    let fits : length (waveform c.args.log.now) ≤ length c.args.text.now =
    elim c.else-room-lt-LONGEST.branch [
      | else-room-lt-LONGEST-via-then-room-lt-LONGEST+else-room-text_size w ↦ omega (arith, w.if-room-text_size.false, w.text_size.ensures)
      | else-room-lt-LONGEST-via-else-room-lt-LONGEST w ↦ omega (arith, w.if-room-lt-LONGEST.false, short)
    ] in
    put_whole c.args.log.now _ _ _ good refl fits c.put_all.ensures (search rules)
