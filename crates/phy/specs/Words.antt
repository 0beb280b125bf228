-- Words of 16 bits told bit by bit, and a word with one bit changed.
use Rattle.std.specs.Prelude.{ℕ, zero, suc, ◌+◌, ◌-◌, ◌*◌, ◌^◌}
use Rattle.verdict.specs.Bits.{bit}

-- the bits of a register
abbrev pub word_bits : ℕ
word_bits = 16

-- the word of n bits whose bit i is f i
unfoldable pub word_of : ℕ → (ℕ → ℕ) → ℕ
word_of zero f = 0
word_of (suc n) f = f n * 2 ^ n + word_of n f

-- the word with bit i one
abbrev pub set_bit : ℕ → ℕ → ℕ
set_bit i word = word + (1 - bit i word) * 2 ^ i

-- the word with bit i zero
abbrev pub clear_bit : ℕ → ℕ → ℕ
clear_bit i word = word - bit i word * 2 ^ i
