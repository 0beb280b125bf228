-- Whole texts, computed.
use Prim.Native.Nat.{ℕ}
use Prim.Native.String.{String}
use mathlib.Core.Path.{◌≡◌, refl}
use mathlib.Core.List.{List, [], ◌∷◌, ◌++◌}
use Rattle.verdict.specs.Output.{tabulate}
use Rattle.waveform.specs.Text.{ascii, time_line}
use Rattle.waveform.specs.Signals.{signals_of, line_of}
use Rattle.waveform.specs.Waveform.{header, clock_lines, lines_from, text_of, waveform}

-- a text by its lines, each with its newline
abbrev pub lines : List String → List ℕ
lines [] = []
lines (line ∷ later) = ascii line ++ (10 ∷ lines later)

-- "An empty log gives the header and closing time 1."
pub no-clocks :
    waveform []
    ≡ lines (
    "$version Taksherub $end"
    ∷ "$comment MDIO wire, one time unit for each clock $end"
    ∷ "$timescale 1 us $end"
    ∷ "$scope module mdio $end"
    ∷ "$var wire 1 L level $end"
    ∷ "$var wire 1 E enable $end"
    ∷ "$var wire 1 C contention $end"
    ∷ "$upscope $end"
    ∷ "$enddefinitions $end"
    ∷ "#1"
    ∷ [])
unfolding header time_line lines_from text_of tabulate waveform
no-clocks = refl

-- four clocks: the station drives 1 twice, lets go, and two parties drive 0; of the flags of clock 2 one does not count
abbrev pub four_clocks : List ℕ
four_clocks = 3 ∷ 0 ∷ 0 ∷ 0 ∷ 0 ∷ 11 ∷ 0 ∷ 0 ∷ 0 ∷ 0 ∷ 1 ∷ 0 ∷ 0 ∷ 0 ∷ 0 ∷ 6 ∷ 0 ∷ 0 ∷ 0 ∷ 2 ∷ []

pub four-clocks :
    waveform four_clocks
    ≡ header ++ lines ("#1" ∷ "1L" ∷ "1E" ∷ "0C" ∷ "#3" ∷ "0E" ∷ "#4" ∷ "0L" ∷ "1E" ∷ "1C" ∷ "#5" ∷ [])
unfolding header time_line signals_of line_of clock_lines lines_from text_of tabulate waveform
four-clocks = refl
