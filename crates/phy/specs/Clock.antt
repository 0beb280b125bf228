-- Document 01, "The PHY's follower": what a PHY does in a clock, and how it is a party of the wire and of the plain machine.
use Rattle.std.specs.Prelude.{ℕ, ◌-◌, ◌%◌, ◌^◌, Bool, false, cond, List, eqb}
use Rattle.frame.specs.Frame.{header_bits, frame_bits}
use Rattle.wire.specs.declared.Drive.{Drive}
use Rattle.wire.specs.declared.Follower.{Follower}
use Rattle.wire.specs.declared.Follower.TheVariants.{Hunting, Inside}
use Rattle.wire.specs.declared.Header.{Header}
use Rattle.wire.specs.Follower.{one_more, follow, header_seen}
use Rattle.wire.specs.Wire.{Party}
use Rattle.wire.specs.Machines.{Core}
use Rattle.phy.specs.declared.own.Own.{Own}
use Rattle.phy.specs.declared.Phy.{Phy}
use Rattle.phy.specs.Abilities.{one}
use Rattle.phy.specs.Own.{answers, stores, drives_in}
use Rattle.phy.specs.Fields.{register_of, with_follower, with_captured}
use Rattle.phy.specs.Registers.{after_read, after_write}

-- "A load gives hunting, 0 ones, link down, defaults."
abbrev pub fresh : Own → List ℕ → List ℕ → Phy
fresh own defaults masks =
    record {
      own = own;
      defaults = defaults;
      masks = masks;
      registers = defaults;
      link = false;
      follower = Hunting 0;
      captured = 0;
    }

-- "enough ones (32, or 1 if bit 1.6 is one)"
unfoldable pub enough : Phy → ℕ
enough phy = cond (one 6 (register_of 1 phy)) 1 32

-- the word that a read returns
abbrev pub word : Header → Phy → ℕ
word header phy = register_of header.register phy

-- the effect of a header, in the clock of the 14th frame bit
unfoldable pub after_header : Header → Phy → Phy
after_header header phy = cond (answers header phy.own) (after_read header.register phy) phy

-- the effect of a frame with this data, in the clock of its 32nd bit
unfoldable pub after_frame : Header → ℕ → Phy → Phy
after_frame header frame_data phy = cond (stores header phy.own) (after_write header.register frame_data phy) phy

-- what a PHY drives in the next clock
abbrev pub drives : Phy → Drive
drives phy = drives_in phy.follower phy.captured phy.own

-- "the word is captured at the 14th frame bit, with the read's effect in that same clock"
unfoldable pub at_header : Header → Phy → Phy
at_header header phy = cond (answers header phy.own) (with_captured (word header phy) (after_header header phy)) phy

-- "Own write: stored at the 32nd bit"; a read is over
abbrev pub at_frame : Header → ℕ → Phy → Phy
at_frame header frame_data phy = with_captured 0 (after_frame header frame_data phy)

-- what a clock does beside the follower's move, by the bits seen before it and those seen after it
unfoldable pub acts : ℕ → ℕ → Phy → Phy
acts seen bits phy =
    cond (eqb seen (header_bits - 1)) (at_header (header_seen header_bits bits) phy)
    (cond (eqb seen (frame_bits - 1)) (at_frame (header_seen frame_bits bits) (bits % 2 ^ 16) phy)
    phy)

abbrev pub acts_in : Follower → Bool → Phy → Phy
acts_in (Hunting ones) level phy = phy
acts_in (Inside seen bits) level phy = acts seen (one_more bits level) phy

-- a clock at a level: the follower moves by the levels alone
unfoldable pub clock : Bool → Phy → Phy
clock level phy = with_follower (follow (enough phy) level phy.follower) (acts_in phy.follower level phy)

-- a PHY as a party of the wire, and of the plain machine; `happens c` is what the events after clock c do to it
abbrev pub phy_party : (ℕ → Phy → Phy) → Party Phy
phy_party happens = record { drives = drives; samples = clock; happens = happens }

abbrev pub phy_core : (ℕ → Phy → Phy) → Core Phy
phy_core happens =
    record {
      answers = λ header phy. answers header phy.own;
      word = word;
      after_header = after_header;
      after_frame = after_frame;
      happens = happens;
    }
