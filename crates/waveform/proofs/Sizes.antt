-- Measuring a log's text clock by clock: the size so far and that of what is still to come are together that of the whole text.
use Prim.Native.Nat.{ℕ, ◌+◌, ◌*◌, ◌≤◌, ◌<◌}
use mathlib.Core.Path.{◌≡◌, refl, ap, sym, ◌∙◌}
use mathlib.Core.Bool.{Bool, true, false, ◌||◌, cond}
use mathlib.Core.List.{List, ◌++◌}
use native.Mathlib.Omega.{arith}
use lib.ListN.{length, length-append}
use Rattle.verdict.specs.File.{records}
use Rattle.frame.specs.Frame.{log_record}
use Rattle.waveform.specs.declared.signals.Signals.{Signals}
use Rattle.waveform.specs.Text.{time_line}
use Rattle.waveform.specs.declared.signals.Signal.{Signal}
use Rattle.waveform.specs.declared.signals.Signal.TheVariants.{Level, Enable, Contention}
use Rattle.waveform.specs.Signals.{value_line}
use Rattle.waveform.specs.Passes.{shown_at}
use Rattle.waveform.proofs.Texts.{length-time, length-line}
use Rattle.waveform.proofs.Clocks.{lines-by}
use mir.Val.{bool_byte}
use lib.Dec.{ltb}
use Rattle.waveform.specs.Waveform.{header, clock_lines, waveform}
use Rattle.waveform.proofs.Writing.{to_come, lines_at, clock-first, closing-last, behind-header}
use Rattle.waveform.proofs.Longest.{header-long}

module _ (log : List ℕ) where
  abbrev pub Sized : ℕ → ℕ → Type 0
  Sized size i = size + length (to_come log i) ≡ length (waveform log)

  pub sized-first : Sized 239 0
  sized-first = sym (ap length (behind-header log) ∙ length-append header (to_come log 0) ∙ ap (λ n. n + length (to_come log 0)) header-long)

  pub sized-next : (size i : ℕ) → i < records log_record log → Sized size i → Sized (size + length (lines_at log i)) (i + 1)
  sized-next size i here now = omega (arith, now, ap length (clock-first log i here), length-append (lines_at log i) (to_come log (i + 1)))

  pub sized-end : (size i : ℕ) → i ≡ records log_record log → Sized size i → size + length (time_line (records log_record log + 1)) ≡ length (waveform log)
  sized-end size i end now = omega (arith, now, ap (λ j. length (to_come log j)) end, ap length (closing-last log))

-- the bytes of a clock's lines, by the signals that it shows
value-long : (signal : Signal) (shown value : Bool) → length (value_line signal shown value) ≡ bool_byte shown * 3
value-long signal true value = length-line signal value
value-long signal false value = refl

module _ (clock : ℕ) (old new shown : Signals) (is : shown ≡ shown_at clock old new) where
  pub clock-long : shown.level || shown.enable || shown.contention ≡ true →
      length (clock_lines clock old new) ≡ length (time_line clock) + (bool_byte shown.level + bool_byte shown.enable + bool_byte shown.contention) * 3
  clock-long any =
      let level = value_line Level shown.level new.level in
      let enable = value_line Enable shown.enable new.enable in
      let contention = value_line Contention shown.contention new.contention in
      omega (
        arith,
        ap length (lines-by clock old new shown is any),
        length-append (time_line clock) (level ++ (enable ++ contention)),
        length-append level (enable ++ contention),
        length-append enable contention,
        value-long Level shown.level new.level,
        value-long Enable shown.enable new.enable,
        value-long Contention shown.contention new.contention,
      )

  -- which is no large number
  pub clock-few : bool_byte shown.level + bool_byte shown.enable + bool_byte shown.contention ≤ 3
  clock-few = omega (arith, byte-small shown.level, byte-small shown.enable, byte-small shown.contention)
    where
      byte-small : (b : Bool) → bool_byte b ≤ 1
      byte-small true = omega arith
      byte-small false = omega arith

pub time-short : (clock : ℕ) → length (time_line clock) ≤ 6
time-short clock = omega (arith, length-time clock, go (ltb clock 10) (ltb clock 100) (ltb clock 1000))
  where
    go : (one two three : Bool) → cond one 1 (cond two 2 (cond three 3 4)) ≤ 4
    go true two three = omega arith
    go false true three = omega arith
    go false false true = omega arith
    go false false false = omega arith
