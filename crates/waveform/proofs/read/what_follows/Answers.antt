-- The time line, the end of the text and the lines behind it are asked for in turn.
use mathlib.Core.Path.{◌≡◌, sym, ◌∙◌}
use native.Mathlib.Omega.{arith}
use Prim.Native.Nat.{ℕ, ◌+◌, ◌≤◌, ◌<◌}
use mathlib.Core.Bool.{true, false}
use mathlib.Core.List.{List}
use lib.ListN.{length, drop}
use lib.Dec.{eqb, ltb}
use borrow.Author.Tests.{ne_eqb, lt-ltb, le-ltb}
use Rattle.waveform.specs.Text.{time_line, starts_with}
use Rattle.std.specs.Prelude.{nat_eq}
use Rattle.waveform.specs.declared.signals.Signals.{Signals}
use Rattle.waveform.specs.Passes.{Shown, shown_in, least, Clock, Foreign, next_in}
use Rattle.waveform.proofs.read.what_follows.Goals as goal

-- what is seen behind the time line, where the text goes on
module _ (text values : List ℕ) (clock needs : ℕ) (old : Signals) (seen : Shown)
    (there : starts_with (time_line clock) text ≡ true)
    (behind : values ≡ drop (length (time_line clock)) text)
    (more : nat_eq (length values) 0 ≡ false)
    (enough : needs ≡ least (eqb clock 1))
    (is : seen ≡ shown_in values old (eqb clock 1)) where
  too_few : length values < needs + length seen.rest → next_in text clock old ≡ Foreign
  unfolding next_in
  too_few few =
      let short : ltb (length values) (least (eqb clock 1) + length seen.rest) ≡ true = lt-ltb _ _ (omega (arith, few, enough)) in
      rw (there, ← behind, more, ← is, short)

  all_there : needs + length seen.rest ≤ length values → next_in text clock old ≡ Clock seen
  unfolding next_in
  all_there all =
      let full : ltb (length values) (least (eqb clock 1) + length seen.rest) ≡ false = le-ltb _ _ (omega (arith, all, enough)) in
      rw (there, ← behind, more, ← is, full)

pub returns-then-first : goal.returns-then-first
unfolding next_in
returns-then-first c = (rw (c.in_default.ensures, c.if-first.true), c.at.ensures)

pub returns-in_default : goal.returns-in_default
unfolding next_in
returns-in_default c = rw (c.in_default.ensures, ne_eqb c.args.clock 1 c.if-first.false)

pub returns-then-is_empty : goal.returns-then-is_empty
unfolding next_in
returns-then-is_empty c =
    let here = c.in-Some.ensures in
    let end = sym c.is_empty.ensures ∙ c.if-is_empty.true in
    rw (here.0, ← here.1, end)

pub returns-then-values-least : goal.returns-then-values-least
returns-then-values-least c =
    let here = c.in-Some.ensures in (
      too_few _ _ c.args.clock _ c.args.old _ here.0 here.1 (sym c.is_empty.ensures ∙ c.if-is_empty.false) c.least.ensures c.see_all-shown.ensures c.if-values-least.true,
      c.at-then-values-least.ensures,
    )

pub returns : goal.returns
returns c =
    let here = c.in-Some.ensures in
    all_there _ _ c.args.clock _ c.args.old _ here.0 here.1 (sym c.is_empty.ensures ∙ c.if-is_empty.false) c.least.ensures c.see_all-shown.ensures c.if-values-least.false
