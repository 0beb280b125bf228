-- Document 01, "Registers": the effects of a read and of a write.
use Rattle.std.specs.Prelude.{ℕ, Bool, true, false, not, ◌&&◌, cond, eqb}
use Rattle.verdict.specs.Bits.{bit}
use Rattle.phy.specs.declared.Phy.{Phy}
use Rattle.phy.specs.Abilities.{one}
use Rattle.phy.specs.Words.{word_bits, word_of, set_bit, clear_bit}
use Rattle.phy.specs.Own.{implements}
use Rattle.phy.specs.Fields.{register_of, mask_of, with_register}
use Rattle.phy.specs.Control.{write_control}

-- in reset while 0.15 is one
unfoldable pub in_reset : Phy → Bool
in_reset phy = one 15 (register_of 0 phy)

-- "Ordinary: masked bits take the data, others stay."
unfoldable pub masked : ℕ → ℕ → ℕ → ℕ
masked mask old word = word_of word_bits (λ i. cond (one i mask) (bit i word) (bit i old))

unfoldable pub write_ordinary : ℕ → ℕ → Phy → Phy
write_ordinary r word phy = with_register r (masked (mask_of r phy) (register_of r phy) word) phy

-- "1.4 and 1.1 clear and 1.2 becomes the link's state"
abbrev pub held_after : Bool → ℕ → ℕ
held_after true status = set_bit 2 (clear_bit 1 (clear_bit 4 status))
held_after false status = clear_bit 2 (clear_bit 1 (clear_bit 4 status))

unfoldable pub read_status : Phy → Phy
read_status phy = with_register 1 (held_after phy.link (register_of 1 phy)) phy

-- the effect of a read: "Reading register 1 returns it, then 1.4 and 1.1 clear and 1.2 becomes the link's state."
unfoldable pub after_read : ℕ → Phy → Phy
after_read r phy = cond (eqb r 1) (read_status phy) phy

-- which rule a register is written by: "Register 1 ignores writes."
unfoldable pub write_by : ℕ → ℕ → Phy → Phy
write_by r word phy = cond (eqb r 0) (write_control word phy) (cond (eqb r 1) phy (write_ordinary r word phy))

-- the effect of a write: "not implemented: ignored", "In reset all writes are ignored"
unfoldable pub after_write : ℕ → ℕ → Phy → Phy
after_write r word phy = cond (implements r phy.own && not (in_reset phy)) (write_by r word phy) phy
