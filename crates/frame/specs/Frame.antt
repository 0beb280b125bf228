-- The shared numbers of a frame: each follows from the preamble's length. Document 01, "Clock steps": "A transaction is 65 clocks, by position".
use Rattle.std.specs.Prelude.{ℕ, ◌+◌, ◌*◌}

abbrev pub preamble : ℕ
preamble = 32

-- of a frame's 32 bits the header is the first 14: start, op, address, register
abbrev pub header_bits : ℕ
header_bits = 14

abbrev pub frame_bits : ℕ
frame_bits = 32

-- a read acts at its 46th clock
abbrev pub read_acts : ℕ
read_acts = preamble + header_bits

-- a write acts at its 64th clock
abbrev pub write_acts : ℕ
write_acts = preamble + frame_bits

-- the clocks of a transaction: the preamble, the frame and the idle clock
abbrev pub clocks : ℕ
clocks = preamble + frame_bits + 1

-- "Log, 5 bytes per clock"
abbrev pub log_record : ℕ
log_record = 5

-- the log bytes of one transaction
abbrev pub log_part_bytes : ℕ
log_part_bytes = clocks * log_record
