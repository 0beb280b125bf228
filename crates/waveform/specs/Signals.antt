-- Document 02, E3: "signals for the level, the station's enable and the contention flag". Document 01: "flags (1 level, 2 station drives, 4 two or more parties drive)".
use Rattle.std.specs.Prelude.{ℕ, ◌+◌, ◌*◌, Bool, cond, List, [], eqb}
use Rattle.verdict.specs.Bits.{bit}
use Rattle.wire.specs.Wire.{as_bit}
use Rattle.waveform.specs.declared.signals.Signals.{Signals}
use Rattle.waveform.specs.declared.signals.Signal.{Signal}
use Rattle.waveform.specs.declared.signals.Signal.TheVariants.{Level, Enable, Contention}
use Rattle.waveform.specs.Text.{ascii}

-- the signals that a record's flags say; only flags 1, 2 and 4 count
unfoldable pub signals_of : ℕ → Signals
signals_of flags = record { level = eqb (bit 0 flags) 1; enable = eqb (bit 1 flags) 1; contention = eqb (bit 2 flags) 1 }

-- "the three signals as flags 1, 2, 4"
unfoldable pub flags_of : Signals → ℕ
flags_of signals = as_bit signals.level * 1 + as_bit signals.enable * 2 + as_bit signals.contention * 4

-- the line of a signal's value
unfoldable pub line_of : Signal → Bool → List ℕ
line_of Level value = cond value (ascii "1L\n") (ascii "0L\n")
line_of Enable value = cond value (ascii "1E\n") (ascii "0E\n")
line_of Contention value = cond value (ascii "1C\n") (ascii "0C\n")

-- it stands where the clock shows the signal
abbrev pub value_line : Signal → Bool → Bool → List ℕ
value_line signal shown value = cond shown (line_of signal value) []
