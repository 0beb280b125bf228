-- What the wire needs of a PHY at every clock, apart from the rest: its line. A clock is told by the lines alone, but for the 14th and the 32nd bit of a frame and for events.
use Rattle.std.specs.Prelude.{ℕ, ◌+◌, ◌*◌, ◌-◌, Bool, true, false, ◌&&◌, ◌||◌, cond, List, [], ◌∷◌, get_or, eqb}
use Rattle.frame.specs.Frame.{header_bits, frame_bits}
use Rattle.frame.specs.List.{read, write}
use Rattle.wire.specs.declared.Drive.{Drive}
use Rattle.wire.specs.declared.Drive.TheVariants.{Released, Driven}
use Rattle.wire.specs.declared.Follower.{Follower}
use Rattle.wire.specs.declared.Follower.TheVariants.{Hunting, Inside}
use Rattle.wire.specs.Wire.{as_bit}
use Rattle.wire.specs.Follower.{one_more, follow, header_seen}
use Rattle.phy.specs.declared.Phy.{Phy}
use Rattle.phy.specs.Words.{set_bit}
use Rattle.phy.specs.Fields.{with_line}
use Rattle.phy.specs.Sound.{nowhere}
use Rattle.phy.specs.Own.{is_own, drives_in}
use Rattle.phy.specs.Clock.{enough}
use Rattle.verdict.specs.Output.{tabulate}
use Rattle.board.specs.declared.Board.{Board}
use Rattle.between.specs.Happened.{first_of}
use Rattle.wire_machine.specs.declared.line.Line.{Line}
use Rattle.wire_machine.specs.declared.hear.Heard.{Heard}
use Rattle.between.specs.Outcome.{with_phys}
use Rattle.wire_machine.specs.Log.{four_bytes}

-- a PHY's line
abbrev pub line_of : Phy → Line
line_of phy =
    record {
      own = phy.own;
      enough = enough phy;
      follower = phy.follower;
      captured = phy.captured;
    }

-- the place of the PHY that has an address
abbrev pub place_in : List Line → ℕ → ℕ
place_in lines address = first_of (λ line. eqb address line.own.address) lines

-- a PHY with a line's follower and captured word
abbrev pub onto : Line → Phy → Phy
onto line phy = with_line line.follower line.captured phy

-- a line with another follower
abbrev pub line_with : Follower → Line → Line
line_with follower line = record { own = line.own; enough = line.enough; follower = follower; captured = line.captured }

-- what the PHY drives in the next clock
abbrev pub line_drives : Line → Drive
line_drives line = drives_in line.follower line.captured line.own

-- whether the next bit may end an own read's header or ends an own write: only there the whole PHY acts. Start, op and address are known before that bit, whatever its level
unfoldable pub acts_in : Follower → Line → Bool
acts_in (Hunting ones) line = false
acts_in (Inside seen bits) line =
    cond (eqb seen (header_bits - 1)) (is_own read (header_seen header_bits (one_more bits false)) line.own)
    (cond (eqb seen (frame_bits - 1)) (is_own write (header_seen frame_bits (one_more bits false)) line.own)
    false)

abbrev pub line_acts : Line → Bool
line_acts line = acts_in line.follower line

-- the line after any other clock: a frame's end captures nothing any more
abbrev pub captures : Follower → ℕ → ℕ
captures (Hunting ones) captured = captured
captures (Inside seen bits) captured = cond (eqb seen (frame_bits - 1)) 0 captured

unfoldable pub line_follows : Bool → Line → Line
line_follows level line =
    record {
      own = line.own;
      enough = line.enough;
      follower = follow line.enough level line.follower;
      captured = captures line.follower line.captured;
    }

-- what a list of lines reads past its end
abbrev pub no_line : Line
no_line = record { own = nowhere.own; enough = 0; follower = Hunting 0; captured = 0 }

-- a board with its lines put back
unfoldable pub joined_board : List Line → Board → Board
joined_board lines board =
    with_phys board (tabulate board.count (λ i. onto (get_or lines i no_line) (get_or board.phys i nowhere)))

-- What is heard of the station alone
abbrev pub heard_station : Drive → Heard
heard_station Released =
    record { level = true; station = false; some = false; several = false; mask = 0 }
heard_station (Driven level) =
    record { level = level; station = true; some = true; several = false; mask = 0 }

-- and of one PHY more, by its address and by what it drives
unfoldable pub hears_drive : ℕ → Drive → Heard → Heard
hears_drive address Released heard = heard
hears_drive address (Driven level) heard =
    record {
      level = heard.level && level;
      station = heard.station;
      some = true;
      several = heard.several || heard.some;
      mask = set_bit address heard.mask;
    }

abbrev pub hears : Line → Heard → Heard
hears line heard = hears_drive line.own.address (line_drives line) heard

-- what is heard of some PHYs more, in order
unfoldable pub heard_from : Heard → List Line → Heard
heard_from heard [] = heard
heard_from heard (line ∷ lines) = heard_from (hears line heard) lines

-- the log record of what is heard
unfoldable pub record_of : Heard → List ℕ
record_of heard =
    (as_bit heard.level * 1 + as_bit heard.station * 2 + as_bit heard.several * 4) ∷ four_bytes heard.mask
