-- Bits of a number: bit 0 is the lowest, and a row of bits stands "high bit first".
use Rattle.std.specs.Prelude.{ℕ, zero, suc, ◌+◌, ◌*◌, ◌/◌, ◌%◌, ◌^◌, List, [], ◌∷◌}

-- bit i of a word
abbrev pub bit : ℕ → ℕ → ℕ
bit i word = word / 2 ^ i % 2

-- the low n bits of a word, high bit first
unfoldable pub bits : ℕ → ℕ → List ℕ
bits zero word = []
bits (suc n) word = bit n word ∷ bits n word

-- the number that follows when more bits come in behind it
unfoldable pub shift_in : ℕ → List ℕ → ℕ
shift_in word [] = word
shift_in word (b ∷ bs) = shift_in (word * 2 + b) bs

-- the number that a row of bits says
abbrev pub value_of : List ℕ → ℕ
value_of row = shift_in 0 row
