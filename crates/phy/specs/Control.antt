-- Document 01, "Registers": what a write leaves in register 0 and clears in register 1, outside reset.
use Rattle.std.specs.Prelude.{ℕ, Bool, true, false, ◌||◌, cond, List, [], ◌∷◌, eqb}
use Rattle.verdict.specs.Bits.{bit, value_of}
use Rattle.phy.specs.declared.Phy.{Phy}
use Rattle.phy.specs.Abilities.{one, able10, able100, able1000, able_full, able_half}
use Rattle.phy.specs.Words.{clear_bit}
use Rattle.phy.specs.Fields.{register_of, with_registers, with_register, sets, with_link}

-- "Bit 15 one: all registers to default, link down, 0.15 one; the rest of the word is dropped."
unfoldable pub reset : Phy → Phy
reset phy = sets 0 15 (with_link false (with_registers phy.defaults phy))

-- "Bits (6,13): 00 is 10, 01 is 100, 10 is 1000." Whether the speed that two bits ask for is able; that of 11 never is
abbrev pub speed_able : ℕ → ℕ → Bool → Bool → Bool
speed_able status extended false false = able10 status extended
speed_able status extended false true = able100 status extended
speed_able status extended true false = able1000 status extended
speed_able status extended true true = false

-- Of a word written over an old one, where registers 1 and 15 say what is able:
-- "Both keep their old values if the speed isn't able, or for 11": whose bits 6 and 13 stand
unfoldable pub speed_from : ℕ → ℕ → ℕ → ℕ → ℕ
speed_from status extended old word = cond (speed_able status extended (one 6 word) (one 13 word)) word old

-- "Bit 12: zero if 1.3 is zero, else as written."
unfoldable pub new_bit12 : ℕ → ℕ → ℕ
new_bit12 status word = cond (one 3 status) (bit 12 word) 0

-- "Bit 9: zero if the new bit 12 is zero; else one if written one; else kept."
unfoldable pub new_bit9 : ℕ → ℕ → ℕ → ℕ
new_bit9 status old word = cond (eqb (new_bit12 status word) 0) 0 (cond (one 9 word) 1 (bit 9 old))

-- "Bit 8: fixed if only one duplex is able, else stored": by full and half able, and the bit as written
abbrev pub duplex_bit : Bool → Bool → ℕ → ℕ
duplex_bit true false written = 1
duplex_bit false true written = 0
duplex_bit true true written = written
duplex_bit false false written = written

unfoldable pub new_bit8 : ℕ → ℕ → ℕ → ℕ
new_bit8 status extended word = duplex_bit (able_full status extended) (able_half status extended) (bit 8 word)

-- "Bit 5: zero if 1.7 is zero, else stored."
unfoldable pub new_bit5 : ℕ → ℕ → ℕ
new_bit5 status word = cond (one 7 status) (bit 5 word) 0

-- all bits from 15 down: "Bits 14, 11, 10, 7 stored; 4:0 zero."
abbrev pub new_bits : ℕ → ℕ → ℕ → ℕ → List ℕ
new_bits status extended old word =
    let speed = speed_from status extended old word in
    0 ∷ bit 14 word ∷ bit 13 speed ∷ new_bit12 status word
    ∷ bit 11 word ∷ bit 10 word ∷ new_bit9 status old word ∷ new_bit8 status extended word
    ∷ bit 7 word ∷ bit 6 speed ∷ new_bit5 status word ∷ 0
    ∷ 0 ∷ 0 ∷ 0 ∷ 0 ∷ []

unfoldable pub new_control : ℕ → ℕ → ℕ → ℕ → ℕ
new_control status extended old word = value_of (new_bits status extended old word)

-- "1.5 clears if the new 12 is zero or 9 was written one."
unfoldable pub new_status : ℕ → ℕ → ℕ
new_status status word = cond (eqb (new_bit12 status word) 0 || one 9 word) (clear_bit 5 status) status

-- register 0 on a write, outside reset
unfoldable pub write_control : ℕ → Phy → Phy
write_control word phy =
    let status = register_of 1 phy in
    let control = new_control status (register_of 15 phy) (register_of 0 phy) word in
    cond (one 15 word) (reset phy)
    (with_register 1 (new_status status word) (with_register 0 control phy))
