-- Document 02, E3: "Header and order come from fixed byte text". And how we read it: "Times in plain decimal without leading zeros. Every line ends with a newline".
use Rattle.std.specs.Prelude.{ℕ, zero, suc, ◌+◌, ◌/◌, ◌%◌, ◌^◌, Bool, true, false, ◌&&◌, cond, List, [], ◌∷◌, ◌++◌, eqb, ltb}
use Prim.Native.Char.{code}
use Prim.Native.String.{String, [] as end, ◌∷◌ as ◌then◌}

-- the bytes of a text
abbrev pub ascii : String → List ℕ
ascii end = []
ascii (c then cs) = code c ∷ ascii cs

-- the character of a digit
abbrev pub digit_of : ℕ → ℕ
digit_of d = 48 + d

-- the last k digits of a number, highest first
abbrev pub digits : ℕ → ℕ → List ℕ
digits zero n = []
digits (suc k) n = digit_of (n / 10 ^ k % 10) ∷ digits k n

-- how many digits a number below 10,000 takes: no time is over 4,161
abbrev pub places : ℕ → ℕ
places n = cond (ltb n 10) 1 (cond (ltb n 100) 2 (cond (ltb n 1000) 3 4))

-- the line that says a clock's number as time
unfoldable pub time_line : ℕ → List ℕ
time_line n = ascii "#" ++ (digits (places n) n ++ ascii "\n")

-- whether a text starts with a line
abbrev pub starts_with : List ℕ → List ℕ → Bool
starts_with [] text = true
starts_with (b ∷ line) [] = false
starts_with (b ∷ line) (c ∷ text) = eqb b c && starts_with line text
