-- The line of the other value is asked for first, and at clock 1 that of the same.
use mathlib.Core.Path.{◌≡◌, ap, ◌∙◌}
use mathlib.Core.List.{List}
use lib.ListN.{length, drop}
use Rattle.waveform.specs.declared.signals.Signal.{Signal}
use Rattle.waveform.specs.Signals.{line_of}
use Rattle.waveform.specs.Passes.{seen_in}
use Rattle.waveform.proofs.Starts.{asked}
use Rattle.waveform.proofs.Texts.{length-line}
use Rattle.waveform.proofs.read.see.Goals as goal
use Rattle.waveform.proofs.read.see.Goals.{then-first+in_default-strip_prefix, else-first}
use Prim.Native.Nat.{ℕ}
use mathlib.Core.Bool.{Bool}

-- what stands behind a line
behind-line : (text line rest : List ℕ) (signal : Signal) (value : Bool) → line ≡ line_of signal value → rest ≡ drop (length line) text → rest ≡ drop 3 text
behind-line text line rest signal value same is = is ∙ ap (λ l. drop (length l) text) same ∙ ap (λ n. drop n text) (length-line signal value)

pub returns-in-Some : goal.returns-in-Some
unfolding seen_in
returns-in-Some c =
    let here = c.in-Some.ensures.cases in
    rw (asked _ _ _ _ c.line.ensures here.0, behind-line _ _ _ _ _ c.line.ensures here.1)

pub returns-in-Some-strip_prefix : goal.returns-in-Some-strip_prefix
unfolding seen_in
returns-in-Some-strip_prefix c =
    let here = c.in-Some-strip_prefix.ensures.cases in
    rw (asked _ _ _ _ c.line.ensures c.in_default.ensures.cases, c.if-first.true, asked _ _ _ _ c.line-then-first.ensures here.0, behind-line _ _ _ _ _ c.line-then-first.ensures here.1)

pub returns : goal.returns
unfolding seen_in
returns c =
    elim c.if-first.branch [
      | then-first+in_default-strip_prefix w ↦
          rw (asked _ _ _ _ c.line.ensures c.in_default.ensures.cases, w.if-first.true, asked _ _ _ _ w.line-then-first.ensures w.in_default-strip_prefix.ensures.cases)
      | else-first w ↦ rw (asked _ _ _ _ c.line.ensures c.in_default.ensures.cases, w.if-first.false)
    ]
