-- Document 02, E3: "Write a log as such text: signals for the level, the station's enable and the contention flag, the values of clock 1, then only changes, with the clock number as time, and a closing time one past the last clock."
use Rattle.std.specs.Prelude.{ℕ, suc, ◌+◌, ◌-◌, ◌*◌, ◌%◌, ◌≡◌, Bool, not, ◌||◌, cond, List, [], ◌∷◌, ◌++◌, length, eqb}
use Rattle.std.specs.Bool.{beq}
use Rattle.verdict.specs.Refusal.{Verdict, Done, Refused, wrong_text, and_then}
use Rattle.verdict.specs.File.{byte_at, records, file_verdict}
use Rattle.verdict.specs.Output.{tabulate, room_for, Writes}
use Rattle.frame.specs.Frame.{log_record}
use Rattle.frame.specs.Steps.{most_steps}
use Rattle.waveform.specs.declared.signals.Signals.{Signals}
use Rattle.waveform.specs.declared.signals.Signal.TheVariants.{Level, Enable, Contention}
use Rattle.waveform.specs.Text.{ascii, time_line}
use Rattle.waveform.specs.Signals.{signals_of, value_line}

-- the text before the first clock
unfoldable pub header : List ℕ
header =
    ascii "$version Taksherub $end\n"
    ++ ascii "$comment MDIO wire, one time unit for each clock $end\n"
    ++ ascii "$timescale 1 us $end\n"
    ++ ascii "$scope module mdio $end\n"
    ++ ascii "$var wire 1 L level $end\n"
    ++ ascii "$var wire 1 E enable $end\n"
    ++ ascii "$var wire 1 C contention $end\n"
    ++ ascii "$upscope $end\n"
    ++ ascii "$enddefinitions $end\n"

-- "the values of clock 1, then only changes"
abbrev pub shows : ℕ → Bool → Bool → Bool
shows clock old new = eqb clock 1 || not (beq old new)

-- whether a clock shows any signal
abbrev pub shows_any : ℕ → Signals → Signals → Bool
shows_any clock old new =
    shows clock old.level new.level
    || shows clock old.enable new.enable
    || shows clock old.contention new.contention

-- the value lines of a clock, by the signals of the clock before it
abbrev pub value_lines : ℕ → Signals → Signals → List ℕ
value_lines clock old new =
    value_line Level (shows clock old.level new.level) new.level
    ++ value_line Enable (shows clock old.enable new.enable) new.enable
    ++ value_line Contention (shows clock old.contention new.contention) new.contention

-- its lines: none where nothing changed
unfoldable pub clock_lines : ℕ → Signals → Signals → List ℕ
clock_lines clock old new = cond (shows_any clock old new) (time_line clock ++ value_lines clock old new) []

-- the lines from a clock on, and the closing time
unfoldable pub lines_from : ℕ → Signals → List Signals → List ℕ
lines_from clock old [] = time_line clock
lines_from clock old (new ∷ later) = clock_lines clock old new ++ lines_from (suc clock) new later

-- the text of these clocks; of the signals before clock 1 nothing is said
unfoldable pub text_of : List Signals → List ℕ
text_of clocks = header ++ lines_from 1 (signals_of 0) clocks

-- the signals of a log's clocks
abbrev pub signals_in : List ℕ → List Signals
signals_in log = tabulate (records log_record log) (λ i. signals_of (byte_at log (i * log_record)))

unfoldable pub waveform : List ℕ → List ℕ
waveform log = text_of (signals_in log)

-- "1 a log that is no whole number of records, 2 over 4,160 clocks"
abbrev pub log_verdict : List ℕ → Verdict
log_verdict log = file_verdict log_record most_steps (λ k. 0) log

-- then 10 by the text's length
abbrev pub writing : List ℕ → List ℕ → Verdict
writing log out = and_then (log_verdict log) (λ n. room_for out (length (waveform log)))

-- what `write_vcd` promises
abbrev pub Written : List ℕ → List ℕ → Verdict → List ℕ → Type 0
Written log out r out' = Writes (writing log out) (waveform log) out r out'

-- a log that the writer accepts, and writes as this text
pub record WritesAs (log text : List ℕ) : Type 0 where
  pub accepted : log_verdict log ≡ Done (records log_record log)
  pub same : waveform log ≡ text

-- "one byte per clock, the three signals as flags 1, 2, 4"
abbrev pub flags_in : List ℕ → List ℕ
flags_in log = tabulate (records log_record log) (λ i. byte_at log (i * log_record) % 8)

-- what a reading of a text has to keep: of a text that the writer writes, the flags of its log; "18 (index 0) exactly if the text is none that the writer writes, then 10"
pub record Reading (text out : List ℕ) (Keeps : Verdict → List ℕ → Type 0) : Type 0 where
  pub ours : (log : List ℕ) → WritesAs log text → Keeps (room_for out (records log_record log)) (flags_in log)
  pub foreign : ((log : List ℕ) → WritesAs log text → ⊥) → Keeps (Refused wrong_text 0) []

-- what `read_vcd` promises
abbrev pub ReadBack : List ℕ → List ℕ → Verdict → List ℕ → Type 0
ReadBack text out r out' = Reading text out (λ answer result. Writes answer result out r out')

-- the bytes of the time lines of clocks 1 to n: three each, and one more from 10, from 100 and from 1,000 on
unfoldable pub time_bytes : ℕ → ℕ
time_bytes n = n * 3 + (n - 9) + (n - 99) + (n - 999)

-- the bytes of the longest text: the header, and 4,160 clocks of which each shows all three signals
abbrev pub longest : ℕ
longest = 239 + time_bytes (most_steps + 1) + most_steps * 9
