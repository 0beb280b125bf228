-- The header, then clock by clock, up to the closing time or to what the writer never writes.
use Prim.Native.Nat.{ℕ, ◌+◌, ◌≤◌}
use mathlib.Core.Path.{◌≡◌, refl, subst, ap, sym, ◌∙◌}
use mathlib.Core.Bool.{false≢true}
use native.Mathlib.Omega.{arith}
use lib.ListN.{length-set}
use lib.Seq.{take-set-le}
use borrow.Author.Rules.{rules}
use Rattle.std.specs.Prelude.{Err}
use Rattle.std.proofs.lemmas.Bool.Decides.{Decides-eqb}
use Rattle.std.proofs.lemmas.Slice.Eq.{slice_eq-Decides}
use Rattle.verdict.specs.Refusal.{Done}
use Rattle.frame.specs.Steps.{most_steps}
use Rattle.waveform.specs.Text.{time_line}
use Rattle.waveform.specs.Passes.{seen_by, GoneOver}
use Rattle.waveform.proofs.Starts.{asked}
use Rattle.waveform.proofs.GoingOver.{no_header, goes_first, closes, ends, ends-there, goes_on}
use Rattle.waveform.proofs.Reading.{next-closing, closing-alone}
use Rattle.waveform.proofs.read.read_clocks.Goals as goal

-- where every place is taken, the clock that comes next is number 4,161
behind-last : {i : ℕ} → most_steps ≤ i → i ≤ most_steps → i + 1 ≡ 4161
behind-last here within = omega (arith, here, within)

pub returns-in_default : goal.returns-in_default
returns-in_default c =
    rw c.at.ensures (no_header c.args.text.now c.args.flags.now (asked _ _ _ _ c.header.ensures c.in_default.ensures.cases))

pub loop-i-init : goal.loop-i-init
loop-i-init c =
    let here = c.in-Some.ensures.cases in (
      rw (c.from-old.ensures, here.1, c.header.ensures) (goes_first c.args.text.now c.args.flags.now (asked _ _ _ _ c.header.ensures here.0)),
      refl,
    )

pub returns-in_err-shown : goal.returns-in_err-shown
returns-in_err-shown c =
    let refused : c.from_residual.result ≡ Err c.in_err-shown.field-0.0 = search rules in
    let next = c.in_err-shown.ensures in
    rw (refused, next.1) (ends c.args.text.now c.loop-i.invariant.0 next.0 _)

pub returns-in_default-2 : goal.returns-in_default-2
returns-in_default-2 c =
    closes c.args.text.now c.loop-i.invariant.0 (rw c.in_default-2.is at c.in_ok-shown.ensures) _ (take-set-le c.loop-i.i c.loop-i.flags c.loop-i.i _ (omega arith))

pub loop-i-preserved : goal.loop-i-preserved
loop-i-preserved c =
    let next = rw c.in-Some-2.is at c.in_ok-shown.ensures in (
      goes_on c.args.text.now c.loop-i.invariant.0 (omega (arith, c.loop-i-test.true, c.loop-i.invariant.1, c.told-flags)) (omega (arith, c.loop-i-test.true)) (seen_by c.in-Some-2.shown) next _ (search rules),
      length-set c.loop-i.flags c.loop-i.i _ ∙ c.loop-i.invariant.1,
    )

pub returns-then-eq : goal.returns-then-eq
returns-then-eq c =
    let last = behind-last c.loop-i-test.false c.loop-i.auto.i-end in
    let all : c.loop-i.i ≡ 4160 = omega (arith, last) in
    let closing : c.loop-i.rest.now ≡ time_line 4161 = (slice_eq-Decides Decides-eqb _ _ _ c.eq.ensures).0 c.if-eq.true ∙ c.time_line.ensures in
    subst (λ n. GoneOver c.args.text.now (Done n) c.loop-i.flags) all
    (closes c.args.text.now c.loop-i.invariant.0 (rw last (next-closing c.loop-i.rest.now 4161 c.loop-i.old closing)) c.loop-i.flags refl)

pub returns-else-eq : goal.returns-else-eq
returns-else-eq c =
    let last = behind-last c.loop-i-test.false c.loop-i.auto.i-end in
    rw c.at-else-eq.ensures
    (ends-there c.args.text.now c.loop-i.invariant.0 (omega (arith, last))
    (λ next.
    let closing = closing-alone c.loop-i.rest.now _ c.loop-i.old next ∙ ap time_line last ∙ sym c.time_line.ensures in
    false≢true (sym c.if-eq.false ∙ (slice_eq-Decides Decides-eqb _ _ _ c.eq.ensures).1 closing))
    c.loop-i.flags)
