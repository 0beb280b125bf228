-- What the parts of `write_vcd` and `read_vcd` promise each other.
use Rattle.std.specs.Prelude.{ℕ, zero, suc, ◌+◌, ◌-◌, ◌*◌, ◌≤◌, ◌≡◌, Bool, true, false, not, ◌&&◌, cond, List, [], ◌∷◌, ◌++◌, map, length, take, drop, eqb, ltb, Result, Ok, Err, Option, Some, None}
use Rattle.std.specs.Borrow.{Bor}
use Rattle.verdict.specs.Refusal.{Verdict, Done, Refused, wrong_text, refusal_at}
use Rattle.verdict.specs.declared.Refusal.{Refusal}
use Rattle.verdict.specs.declared.Fault.TheVariants.{WrongText}
use Rattle.verdict.specs.File.{byte_at, records}
use Rattle.frame.specs.Frame.{log_record}
use Rattle.frame.specs.Steps.{most_steps}
use Rattle.waveform.specs.declared.signals.Signals.{Signals}
use Rattle.waveform.specs.declared.signals.Signal.{Signal}
use Rattle.waveform.specs.declared.signals.Signal.TheVariants.{Level, Enable, Contention}
use Rattle.waveform.specs.declared.write.Clock.{Clock as LogClock}
use Rattle.waveform.specs.declared.write.Output.{Output}
use Rattle.waveform.specs.declared.read.Seen.{Seen as SeenBy}
use Rattle.waveform.specs.Text.{time_line, starts_with}
use Rattle.waveform.specs.Signals.{signals_of, flags_of, line_of}
use Rattle.waveform.specs.Waveform.{header, shows, log_verdict}

-- Writing: an output has room for more behind what is there
abbrev pub HasRoom : Output → List ℕ → Type 0
HasRoom out more = out.at + length more ≤ length out.text.now

-- what is there after it was put
abbrev pub put : ℕ → List ℕ → List ℕ → List ℕ
put at more text = take at text ++ more ++ drop (at + length more) text

-- what a put leaves: the same text, with more behind what was there
pub record Puts (out : Output) (more : List ℕ) (out' : Output) : Type 0 where
  pub same_text : out'.text.ghost_name ≡ out.text.ghost_name
  pub behind : out'.at ≡ out.at + length more
  pub output : out'.text.now ≡ put out.at more out.text.now

-- the signals that a clock shows
abbrev pub shown_at : ℕ → Signals → Signals → Signals
shown_at clock old new =
    record {
      level = shows clock old.level new.level;
      enable = shows clock old.enable new.enable;
      contention = shows clock old.contention new.contention;
    }

-- the flags of the record before record i of a log; before the first no signal is on
abbrev pub flags_before : List ℕ → ℕ → ℕ
flags_before log i = cond (eqb i 0) 0 (byte_at log ((i - 1) * log_record))

-- the clock of record i
abbrev pub clock_at : List ℕ → ℕ → LogClock
clock_at log i = record { number = i + 1; old = signals_of (flags_before log i); new = signals_of (byte_at log (i * log_record)) }

-- a log that the writer accepts
abbrev pub Accepted : List ℕ → Type 0
Accepted log = log_verdict log ≡ Done (records log_record log)

-- Reading: what stands behind a line, if the text starts with it
abbrev pub IsBehind : List ℕ → List ℕ → Option (Bor (List ℕ)) → Type 0
IsBehind line text None = starts_with line text ≡ false
IsBehind line text (Some rest) = (starts_with line text ≡ true) × (rest.now ≡ drop (length line) text)

-- what the text says of a signal in a clock, or of all three, and the text behind its lines
pub record Seen (A : Type 0) : Type 0 where
  pub value : A
  pub rest : List ℕ

-- as the code hands it back
abbrev pub seen_by : {A : Type 0} → SeenBy A → Seen A
seen_by seen = record { value = seen.value; rest = seen.rest.now }

-- a signal keeps its value where no line says another; at clock 1 a line that says the same counts too
unfoldable pub seen_in : List ℕ → Signal → Bool → Bool → Seen Bool
seen_in text signal old first =
    cond (starts_with (line_of signal (not old)) text) (record { value = not old; rest = drop 3 text })
    (cond (first && starts_with (line_of signal old) text) (record { value = old; rest = drop 3 text })
    (record { value = old; rest = text }))

-- of all three
abbrev pub Shown : Type 0
Shown = Seen Signals

-- one signal behind the other
unfoldable pub shown_in : List ℕ → Signals → Bool → Shown
shown_in text old first =
    let level = seen_in text Level old.level first in
    let enable = seen_in level.rest Enable old.enable first in
    let contention = seen_in enable.rest Contention old.contention first in
    record {
      value = record { level = level.value; enable = enable.value; contention = contention.value };
      rest = contention.rest;
    }

-- the lines that a time line needs behind it: all three at clock 1, later one at least
abbrev pub least : Bool → ℕ
least first = cond first 9 3

-- what may come next in a text: another clock, the closing time, or what the writer never writes there
pub data Next : Type 0 where
  Clock : Shown → Next
  Closing : Next
  Foreign : Next

-- a clock with these lines, if they are enough
abbrev pub clock_by : List ℕ → Bool → Shown → Next
clock_by values first shown = cond (ltb (length values) (least first + length shown.rest)) Foreign (Clock shown)

-- what comes next: nothing is said of a clock in which nothing changed, and the closing time ends the text
unfoldable pub next_in : List ℕ → ℕ → Signals → Next
next_in text clock old =
    let first = eqb clock 1 in
    let values = drop (length (time_line clock)) text in
    cond (starts_with (time_line clock) text)
    (cond (eqb (length values) 0) Closing (clock_by values first (shown_in values old first)))
    (cond first Foreign (Clock (record { value = old; rest = text })))

-- the code's result for it
abbrev pub IsNext : Next → Result (Option (SeenBy Signals)) Refusal → Type 0
IsNext next (Ok (Some shown)) = next ≡ Clock (seen_by shown)
IsNext next (Ok None) = next ≡ Closing
IsNext next (Err refusal) = (next ≡ Foreign) × (refusal ≡ refusal_at WrongText 0)

-- one clock more in front of those that are read
abbrev pub prepend : Signals → Option (List Signals) → Option (List Signals)
prepend signals None = None
prepend signals (Some later) = Some (signals ∷ later)

abbrev pub clocks_by : Next → (Shown → Option (List Signals)) → Option (List Signals)
clocks_by Closing later = Some []
clocks_by Foreign later = None
clocks_by (Clock shown) later = prepend shown.value (later shown)

-- the signals of the clocks of a text from a clock on, of which there are `left` at most; none where the text is foreign
unfoldable pub clocks_from : ℕ → List ℕ → ℕ → Signals → Option (List Signals)
clocks_from zero text clock old = clocks_by (next_in text clock old) (λ shown. None)
clocks_from (suc left) text clock old =
    clocks_by (next_in text clock old) (λ shown. clocks_from left shown.rest (suc clock) shown.value)

unfoldable pub clocks_in : List ℕ → Option (List Signals)
clocks_in text = cond (starts_with header text) (clocks_from most_steps (drop (length header) text) 1 (signals_of 0)) None

-- the answer to them
abbrev pub count_of : Option (List Signals) → Verdict
count_of None = Refused wrong_text 0
count_of (Some clocks) = Done (length clocks)

-- going over the whole text counts its clocks, and where it is ours their flags are put
pub record GoneOver (text : List ℕ) (r : Verdict) (out' : List ℕ) : Type 0 where
  pub verdict : r ≡ count_of (clocks_in text)
  pub output : (clocks : List Signals) → clocks_in text ≡ Some clocks → take (length clocks) out' ≡ map flags_of clocks
