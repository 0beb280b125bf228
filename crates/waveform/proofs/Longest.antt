-- No text is longer than that of 4,160 clocks of which each shows all signals: a clock has one time line and three value lines at most.
use Prim.Native.Nat.{ℕ, zero, suc, ◌+◌, ◌*◌, ◌≤◌}
use mathlib.Core.Path.{◌≡◌, refl, ap, sym, ◌∙◌}
use mathlib.Core.Bool.{Bool, true, false, not, cond, or-true, not-not}
use mathlib.Core.List.{List, [], ◌∷◌, ◌++◌}
use native.Mathlib.Omega.{arith}
use lib.ListN.{length, length-append}
use lib.Dec.{eqb, ltb}
use borrow.Author.Tests.{ltb-true, ltb-false}
use Rattle.verdict.specs.File.{records}
use Rattle.verdict.proofs.Lists.{length-tabulate}
use Rattle.frame.specs.Frame.{log_record}
use Rattle.frame.specs.Steps.{most_steps}
use Rattle.waveform.specs.declared.signals.Signals.{Signals}
use Rattle.waveform.specs.declared.signals.Signal.{Signal}
use Rattle.waveform.specs.declared.signals.Signal.TheVariants.{Level, Enable, Contention}
use Rattle.waveform.specs.Text.{time_line}
use Rattle.waveform.specs.Signals.{signals_of, value_line}
use Rattle.waveform.specs.Waveform.{header, shows, shows_any, value_lines, clock_lines, lines_from, text_of, signals_in, waveform, time_bytes, longest}
use Rattle.waveform.specs.Passes.{Accepted}
use Rattle.waveform.proofs.Texts.{length-time, length-line}
use Rattle.waveform.proofs.Clocks.{lines-shown, lines-hidden}
use Rattle.waveform.proofs.Writing.{few-clocks, signals_at}
use Rattle.waveform.proofs.Logs.{log_of, writes_as}

-- one time line more
one_time : (n : ℕ) → time_bytes (suc n) ≡ time_bytes n + length (time_line (suc n))
unfolding time_bytes
one_time n =
    go (ltb (suc n) 10) (ltb (suc n) 100) (ltb (suc n) 1000) refl refl refl
    ∙ ap (λ bytes. time_bytes n + bytes) (sym (length-time (suc n)))
  where
    go : (one two three : Bool) → ltb (suc n) 10 ≡ one → ltb (suc n) 100 ≡ two → ltb (suc n) 1000 ≡ three →
        time_bytes (suc n) ≡ time_bytes n + (2 + cond one 1 (cond two 2 (cond three 3 4)))
    go true two three p q r = omega (arith, ltb-true (suc n) 10 p)
    go false true three p q r = omega (arith, ltb-false (suc n) 10 p, ltb-true (suc n) 100 q)
    go false false true p q r = omega (arith, ltb-false (suc n) 100 q, ltb-true (suc n) 1000 r)
    go false false false p q r = omega (arith, ltb-false (suc n) 1000 r)

-- a value line has three bytes at most
line-short : (signal : Signal) (shown value : Bool) → length (value_line signal shown value) ≤ 3
line-short signal true value = omega (arith, length-line signal value)
line-short signal false value = omega arith

pub header-long : length header ≡ 239
unfolding header
header-long = refl

-- the lines of a clock, and of those from a clock on
values-short : (clock : ℕ) (old new : Signals) → length (value_lines clock old new) ≤ 9
values-short clock old new =
    let level = value_line Level (shows clock old.level new.level) new.level in
    let enable = value_line Enable (shows clock old.enable new.enable) new.enable in
    let contention = value_line Contention (shows clock old.contention new.contention) new.contention in
    omega (
      arith,
      length-append (level ++ enable) contention,
      length-append level enable,
      line-short Level (shows clock old.level new.level) new.level,
      line-short Enable (shows clock old.enable new.enable) new.enable,
      line-short Contention (shows clock old.contention new.contention) new.contention,
    )

clock-short : (clock : ℕ) (old new : Signals) → length (clock_lines clock old new) ≤ length (time_line clock) + 9
clock-short clock old new = go (shows_any clock old new) refl
  where
    go : (any : Bool) → shows_any clock old new ≡ any → length (clock_lines clock old new) ≤ length (time_line clock) + 9
    go true shown = omega (arith, ap length (lines-shown clock old new shown), length-append (time_line clock) (value_lines clock old new), values-short clock old new)
    go false hidden = omega (arith, ap length (lines-hidden clock old new hidden))

lines-short : (clocks : List Signals) (gone : ℕ) (old : Signals) →
    length (lines_from (suc gone) old clocks) + time_bytes gone ≤ time_bytes (suc gone + length clocks) + length clocks * 9
unfolding lines_from
lines-short [] gone old = let last : suc gone + 0 ≡ suc gone = omega arith in omega (arith, one_time gone, ap time_bytes last)
lines-short (new ∷ later) gone old =
    let last : suc (suc gone) + length later ≡ suc gone + suc (length later) = omega arith in
    omega (
      arith,
      ap time_bytes last,
      one_time gone,
      length-append (clock_lines (suc gone) old new) (lines_from (suc (suc gone)) new later),
      clock-short (suc gone) old new,
      lines-short later (suc gone) new,
    )

no-times : time_bytes 0 ≡ 0
unfolding time_bytes
no-times = refl

-- more clocks, more time lines
more-times : (m n : ℕ) → m ≤ n → time_bytes m ≤ time_bytes n
unfolding time_bytes
more-times m n less = omega arith

-- no text is over the longest
pub never-longer : (log : List ℕ) → Accepted log → length (waveform log) ≤ longest
unfolding waveform text_of
never-longer log good =
    omega (
      arith,
      few-clocks log good,
      length-append header (lines_from 1 (signals_of 0) (signals_in log)),
      header-long,
      length-tabulate (records log_record log) (signals_at log),
      lines-short (signals_in log) 0 (signals_of 0),
      more-times (1 + length (signals_in log)) (most_steps + 1) (omega (arith, few-clocks log good, length-tabulate (records log_record log) (signals_at log))),
    )

-- And it is reached: by clocks of which each turns all signals over
all_are : Bool → Signals
all_are value = record { level = value; enable = value; contention = value }

turning : ℕ → Bool → List Signals
turning zero value = []
turning (suc n) value = all_are value ∷ turning n (not value)

length-turning : (n : ℕ) (value : Bool) → length (turning n value) ≡ n
unfolding turning
length-turning zero value = refl
length-turning (suc n) value = ap suc (length-turning n (not value))

shown : (clock : ℕ) (value : Bool) → shows clock (not value) value ≡ true
shown clock true = or-true (eqb clock 1)
shown clock false = or-true (eqb clock 1)

clock-long : (clock : ℕ) (value : Bool) → length (clock_lines clock (all_are (not value)) (all_are value)) ≡ length (time_line clock) + 9
unfolding clock_lines all_are
clock-long clock value =
    rw (shown clock value)
    (simp length-append (omega (arith, length-line Level value, length-line Enable value, length-line Contention value)))

lines_long : (n : ℕ) (value : Bool) (gone : ℕ) → length (lines_from (suc gone) (all_are (not value)) (turning n value)) + time_bytes gone ≡ time_bytes (suc gone + n) + n * 9
unfolding lines_from turning
lines_long zero value gone = let last : suc gone + 0 ≡ suc gone = omega arith in omega (arith, one_time gone, ap time_bytes last)
lines_long (suc n) value gone =
    let last : suc (suc gone) + n ≡ suc gone + suc n = omega arith in
    let later = rw (not-not value) at (lines_long n (not value) (suc gone)) in
    omega (
      arith,
      ap time_bytes last,
      one_time gone,
      length-append (clock_lines (suc gone) (all_are (not value)) (all_are value)) (lines_from (suc (suc gone)) (all_are value) (turning n (not value))),
      clock-long (suc gone) value,
      later,
    )

all-turned : length (text_of (turning most_steps true)) ≡ longest
unfolding text_of signals_of all_are
all-turned =
    let clocks = turning most_steps true in
    let last : suc 0 + most_steps ≡ most_steps + 1 = omega arith in
    omega (arith, length-append header (lines_from 1 (all_are false) clocks), header-long, lines_long most_steps true 0, ap time_bytes last, no-times)

-- a log that the writer accepts has the longest text
pub record Reached : Type 0 where
  pub log : List ℕ
  pub accepted : Accepted log
  pub long : length (waveform log) ≡ longest

pub longest-reached : Reached
longest-reached =
    let clocks = turning most_steps true in
    let writes = writes_as clocks (text_of clocks) (omega (arith, length-turning most_steps true)) refl in
    record { log = log_of clocks; accepted = writes.accepted; long = ap length writes.same ∙ all-turned }
