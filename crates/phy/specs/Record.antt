-- Document 01, "Board checks": "5: registers 0 and 1 implemented, 13 and 14 not; (..) 6: unimplemented registers have default and mask zero; (..)"
use Rattle.std.specs.Prelude.{ℕ, zero, suc, ◌+◌, ◌*◌, ◌%◌, ◌^◌, Bool, true, false, not, ◌&&◌, ◌||◌, cond, List, get_or, leb, eqb}
use Rattle.std.specs.Bool.{beq}
use Rattle.verdict.specs.Bits.{bit}
use Rattle.phy.specs.Abilities.{one, able10, able100, able1000, able_half}

-- whether each of the numbers below n passes a test
unfoldable pub every : ℕ → (ℕ → Bool) → Bool
every zero test = true
every (suc n) test = every n test && test n

-- whether any of the numbers below n passes a test
unfoldable pub any : ℕ → (ℕ → Bool) → Bool
any zero test = false
any (suc n) test = any n test || test n

-- "registers 0 to 31"
abbrev pub register_count : ℕ
register_count = 32

-- the word of register r
abbrev pub word : List ℕ → ℕ → ℕ
word words r = get_or words r 0

-- Check 5, the register set, by the "implemented mask (4 bytes, bit r for register r)"
-- "registers 0 and 1 implemented, 13 and 14 not"
abbrev pub basic_set : ℕ → Bool
basic_set implemented =
    one 0 implemented
    && (one 1 implemented && (not (one 13 implemented) && not (one 14 implemented)))

-- "15 implemented exactly if default bit 1.8 is one"
abbrev pub extended_status_set : ℕ → List ℕ → Bool
extended_status_set implemented defaults = beq (one 15 implemented) (one 8 (word defaults 1))

-- "any other register above 1, 15 apart": 2 to 12 and 16 to 31
abbrev pub other_register : ℕ → Bool
other_register r = (leb 2 r && leb r 12) || leb 16 r

unfoldable pub others_implemented : ℕ → Bool
others_implemented implemented = any register_count (λ r. other_register r && one r implemented)

-- "bit 1.0 one exactly if any other register above 1, 15 apart, is implemented"
abbrev pub extended_set : ℕ → List ℕ → Bool
extended_set implemented defaults = beq (one 0 (word defaults 1)) (others_implemented implemented)

unfoldable pub register_set_right : ℕ → List ℕ → Bool
register_set_right implemented defaults =
    basic_set implemented && (extended_status_set implemented defaults && extended_set implemented defaults)

-- Register 0 "Default: fastest speed, bit 12 equal to 1.3, bit 8 one only if half is not able, others zero, bit 10 as the record says"
module _ (status extended : ℕ) where
  -- bits (6,13): 10 is 1000, 01 is 100, 00 is 10
  abbrev pub fastest : ℕ
  fastest = cond (able1000 status extended) (2 ^ 6) (cond (able100 status extended) (2 ^ 13) 0)

  unfoldable pub derived_control : ℕ
  derived_control = fastest + (bit 3 status * 2 ^ 12 + cond (able_half status extended) 0 (2 ^ 8))

-- Check 6, defaults and write masks
-- "unimplemented registers have default and mask zero"
unfoldable pub unimplemented_zero : ℕ → List ℕ → List ℕ → Bool
unimplemented_zero implemented defaults masks =
    every register_count (λ r. one r implemented || (eqb (word defaults r) 0 && eqb (word masks r) 0))

-- "masks of 0, 1, 2, 3, 15 zero"
abbrev pub masks_zero : List ℕ → Bool
masks_zero masks =
    eqb (word masks 0) 0
    && (eqb (word masks 1) 0 && (eqb (word masks 2) 0 && (eqb (word masks 3) 0 && eqb (word masks 15) 0)))

-- "default 1.5, 1.4, 1.2, 1.1 zero"
abbrev pub status_clear : ℕ → Bool
status_clear status = not (one 5 status) && (not (one 4 status) && (not (one 2 status) && not (one 1 status)))

-- "15.11:0 zero"
abbrev pub extended_clear : ℕ → Bool
extended_clear extended = eqb (extended % 2 ^ 12) 0

-- "at least one ability"
abbrev pub some_ability : ℕ → ℕ → Bool
some_ability status extended = able10 status extended || (able100 status extended || able1000 status extended)

-- "default of 0 as derived below, bit 10 free"
abbrev pub control_derived : ℕ → ℕ → ℕ → Bool
control_derived control status extended = eqb control (derived_control status extended + bit 10 control * 2 ^ 10)

-- what is asked of the defaults of registers 0, 1 and 15
unfoldable pub words_right : ℕ → ℕ → ℕ → Bool
words_right control status extended =
    status_clear status
    && (extended_clear extended && (some_ability status extended && control_derived control status extended))

unfoldable pub defaults_right : ℕ → List ℕ → List ℕ → Bool
defaults_right implemented defaults masks =
    unimplemented_zero implemented defaults masks
    && (masks_zero masks && words_right (word defaults 0) (word defaults 1) (word defaults 15))
