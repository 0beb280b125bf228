-- What all lines have in common: in most clocks the followers of all PHYs are the same, and then one follower tells for all lines.
use Rattle.std.specs.Prelude.{◌+◌, ◌-◌, Bool, true, false, not, ◌&&◌, ◌||◌, cond, List, [], ◌∷◌, map, eqb, ltb, leb, Some, None, unwrap_or, option_map}
use Rattle.std.specs.List.{list_all}
use Rattle.std.specs.Option.{option_map_or}
use Rattle.frame.specs.Frame.{preamble, header_bits, frame_bits}
use Rattle.frame.specs.List.{read}
use Rattle.wire.specs.declared.Follower.{Follower}
use Rattle.wire.specs.declared.Follower.TheVariants.{Hunting, Inside}
use Rattle.wire.specs.declared.Header.{Header}
use Rattle.wire.specs.Follower.{one_more, follow, our_start, header_seen}
use Rattle.wire_machine.specs.declared.line.Line.{Line}
use Rattle.wire_machine.specs.declared.common.Common.{Common}
use Rattle.wire_machine.specs.Lines.{line_with}

-- nothing is common
abbrev pub apart : Common
apart = record { follower = None }

-- a follower is common
abbrev pub alike_by : Follower → Common
alike_by follower = record { follower = Some follower }

abbrev pub same_follower : Follower → Follower → Bool
same_follower (Hunting ones) (Hunting others) = eqb ones others
same_follower (Hunting ones) (Inside seen bits) = false
same_follower (Inside seen bits) (Hunting ones) = false
same_follower (Inside seen bits) (Inside seen' bits') = eqb seen seen' && eqb bits bits'

-- what lines have in common by what each says of itself: all have the first one's follower, or they are not alike
unfoldable pub common_of : List Line → Common
common_of [] = apart
common_of (line ∷ lines) = cond (list_all (λ other. same_follower other.follower line.follower) (line ∷ lines)) (alike_by line.follower) apart

-- a line as it stands, and all lines
unfoldable pub stands : Common → Line → Line
stands common line = line_with (unwrap_or common.follower line.follower) line

abbrev pub standing : Common → List Line → List Line
standing common lines = map (stands common) lines

-- whether a header of ours asks a PHY to read
abbrev pub asks_to_read : Header → Bool
asks_to_read header = eqb header.start our_start && eqb header.op read

-- with this follower nothing is driven: an answer starts with 15 bits seen, and only where one was asked for
unfoldable pub silent_in : Follower → Bool
silent_in (Hunting ones) = true
silent_in (Inside seen bits) =
    ltb seen (header_bits + 1) || (leb seen (frame_bits - 1) && not (asks_to_read (header_seen seen bits)))

abbrev pub is_silent : Common → Bool
is_silent common = option_map_or silent_in common.follower false

-- with this follower it makes no difference how many ones are enough, and no PHY acts: no frame starts but after a whole preamble, no header ends that asks to read, and no frame ends
unfoldable pub moves_alike_in : Bool → Follower → Bool
moves_alike_in level (Hunting ones) = level || leb preamble ones
moves_alike_in level (Inside seen bits) =
    not (eqb seen (header_bits - 1) && asks_to_read (header_seen header_bits (one_more bits false)))
    && not (eqb seen (frame_bits - 1))

abbrev pub moves_alike : Bool → Common → Bool
moves_alike level common = option_map_or (moves_alike_in level) common.follower false

-- what is common after such a clock
unfoldable pub common_follows : Bool → Common → Common
common_follows level common = record { follower = option_map (follow 32 level) common.follower }
