-- Document 01, "The PHY's follower".
use Rattle.std.specs.Prelude.{ℕ, ◌+◌, ◌*◌, ◌-◌, ◌/◌, ◌%◌, ◌^◌, min, Bool, true, false, ◌&&◌, cond, leb, eqb}
use Rattle.verdict.specs.Bits.{bit}
use Rattle.frame.specs.Frame.{header_bits, frame_bits}
use Rattle.wire.specs.declared.Drive.{Drive}
use Rattle.wire.specs.declared.Drive.TheVariants.{Released, Driven}
use Rattle.wire.specs.declared.Follower.{Follower}
use Rattle.wire.specs.declared.Follower.TheVariants.{Hunting, Inside}
use Rattle.wire.specs.declared.Header.{Header}

-- "a 1 adds one to the ones, at most 32. A 0 with enough ones (..) starts a frame; with fewer, ones become 0"
abbrev pub hunt : ℕ → Bool → ℕ → Follower
hunt enough true ones = Hunting (min (ones + 1) 32)
hunt enough false ones = cond (leb enough ones) (Inside 1 0) (Hunting 0)

-- the bits with one more behind them, of which the last 32 are kept
abbrev pub one_more : ℕ → Bool → ℕ
one_more bits true = bits % 2 ^ 31 * 2 + 1
one_more bits false = bits % 2 ^ 31 * 2

-- "A frame runs 32 bits, then hunting with 0 ones", by document 02, E2, whatever its start: "after a start of 00 the follower passes over the other 30 bits (..) and only then hunts, with 0 ones"
abbrev pub inside : Bool → ℕ → ℕ → Follower
inside level seen bits = cond (leb (frame_bits - 1) seen) (Hunting 0) (Inside (seen + 1) (one_more bits level))

-- a follower after a clock at a level, where `enough` ones let a 0 start a frame
unfoldable pub follow : ℕ → Bool → Follower → Follower
follow enough level (Hunting ones) = hunt enough level ones
follow enough level (Inside seen bits) = inside level seen bits

-- "start 0 1": "every frame of ours starts 01"
abbrev pub our_start : ℕ
our_start = 1

-- the header that 14 bits say: start, op, address, register
unfoldable pub header_of : ℕ → Header
header_of bits = record { start = bits / 2 ^ 12 % 4; op = bits / 2 ^ 10 % 4; address = bits / 2 ^ 5 % 32; register = bits % 32 }

-- the header of a frame with at least 14 bits seen
abbrev pub header_seen : ℕ → ℕ → Header
header_seen seen bits = header_of (bits / 2 ^ (seen - header_bits))

-- what a party that answers a word drives with so many bits seen: "released for bit 15, drives 0 for bit 16, the word for bits 17 to 32"
unfoldable pub answering : ℕ → ℕ → Drive
answering seen word =
    cond (eqb seen (header_bits + 1)) (Driven false)
    (cond (leb (header_bits + 2) seen && leb seen (frame_bits - 1)) (Driven (eqb (bit (frame_bits - 1 - seen) word) 1))
    Released)
