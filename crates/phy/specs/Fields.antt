-- A PHY's registers by number, and a PHY with one part changed.
use Rattle.std.specs.Prelude.{ℕ, Bool, List, get_or, set}
use Rattle.wire.specs.declared.Follower.{Follower}
use Rattle.phy.specs.declared.own.Own.{Own}
use Rattle.phy.specs.declared.Phy.{Phy}
use Rattle.phy.specs.Words.{set_bit, clear_bit}

-- what stands in a register; past the last one nothing does
abbrev pub register_of : ℕ → Phy → ℕ
register_of r phy = get_or phy.registers r 0

abbrev pub default_of : ℕ → Phy → ℕ
default_of r phy = get_or phy.defaults r 0

abbrev pub mask_of : ℕ → Phy → ℕ
mask_of r phy = get_or phy.masks r 0

-- what the board file says of a PHY: "address (..) implemented mask (..) 32 defaults, 32 write masks"
pub record PhyRecord : Type 0 where
  pub own : Own
  pub defaults : List ℕ
  pub masks : List ℕ

abbrev pub record_of : Phy → PhyRecord
record_of phy = record { own = phy.own; defaults = phy.defaults; masks = phy.masks }

-- a PHY with the same record and all else anew
abbrev with_rest : List ℕ → Bool → Follower → ℕ → Phy → Phy
with_rest registers link follower captured phy =
    record {
      own = phy.own;
      defaults = phy.defaults;
      masks = phy.masks;
      registers = registers;
      link = link;
      follower = follower;
      captured = captured;
    }

-- what reads, writes and events touch, part by part: the registers
abbrev pub with_registers : List ℕ → Phy → Phy
with_registers registers phy = with_rest registers phy.link phy.follower phy.captured phy

-- of which one has another word
abbrev pub with_register : ℕ → ℕ → Phy → Phy
with_register r word phy = with_registers (set phy.registers r word) phy

-- or a bit set or cleared
abbrev pub sets : ℕ → ℕ → Phy → Phy
sets r i phy = with_register r (set_bit i (register_of r phy)) phy

abbrev pub clears : ℕ → ℕ → Phy → Phy
clears r i phy = with_register r (clear_bit i (register_of r phy)) phy

-- and the link
abbrev pub with_link : Bool → Phy → Phy
with_link link phy = with_rest phy.registers link phy.follower phy.captured phy

-- what the wire knows of a PHY apart, its line: its follower and its captured word
abbrev pub with_line : Follower → ℕ → Phy → Phy
with_line follower captured phy = with_rest phy.registers phy.link follower captured phy

abbrev pub with_follower : Follower → Phy → Phy
with_follower follower phy = with_line follower phy.captured phy

abbrev pub with_captured : ℕ → Phy → Phy
with_captured word phy = with_line phy.follower word phy
