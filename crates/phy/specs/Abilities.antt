-- Document 01, "Registers": "Abilities: 10 Mb/s by 1.12, 1.11; 100 by 1.15, 1.14, 1.13, 1.10, 1.9; 1000 by 15.15:12. Full duplex: 1.14, 1.12, 1.10, 15.15, 15.13; half: 1.15, 1.13, 1.11, 1.9, 15.14, 15.12."
use Rattle.std.specs.Prelude.{ℕ, Bool, ◌||◌, eqb}
use Rattle.verdict.specs.Bits.{bit}

-- bit i of a word is one
abbrev pub one : ℕ → ℕ → Bool
one i word = eqb (bit i word) 1

-- each ability from the status word (register 1) and the extended status word (register 15)
abbrev pub able10 : ℕ → ℕ → Bool
able10 status extended = one 12 status || one 11 status

abbrev pub able100 : ℕ → ℕ → Bool
able100 status extended = one 15 status || (one 14 status || (one 13 status || (one 10 status || one 9 status)))

abbrev pub able1000 : ℕ → ℕ → Bool
able1000 status extended = one 15 extended || (one 14 extended || (one 13 extended || one 12 extended))

abbrev pub able_full : ℕ → ℕ → Bool
able_full status extended = one 14 status || (one 12 status || (one 10 status || (one 15 extended || one 13 extended)))

abbrev pub able_half : ℕ → ℕ → Bool
able_half status extended =
    one 15 status || (one 13 status || (one 11 status || (one 9 status || (one 14 extended || one 12 extended))))
