-- Document 01, "Refusal numbers": checks 3 to 6 of a board record, "each checked by rising number".
use Rattle.std.specs.Prelude.{ℕ, Bool, not, ◌||◌, List, map, get_or, eqb, ltb}
use Rattle.verdict.specs.Output.{tabulate}
use Rattle.verdict.specs.Refusal.{wrong_field, address_used, wrong_register_set, wrong_default, ◌when◌, ◌else◌}
use Rattle.phy.specs.declared.Phy.{Phy}
use Rattle.phy.specs.Fields.{PhyRecord}
use Rattle.phy.specs.Record.{any, register_set_right, defaults_right}
use Rattle.phy.specs.Sound.{nowhere}
use Rattle.board.specs.declared.record.Record.{Record}

-- 3: "PHY address (..) over 31, a zero byte not zero"
abbrev pub fields_wrong : ℕ → PhyRecord → Bool
fields_wrong zero_byte r = ltb 31 r.own.address || not (eqb zero_byte 0)

-- 4: "an address already used by an earlier board record": whether one of the first n PHYs has it
unfoldable pub has_address : List Phy → ℕ → ℕ → Bool
has_address phys n address = any n (λ i. eqb (get_or phys i nowhere).own.address address)

-- the same asked of the addresses alone
abbrev pub addresses_of : List Phy → List ℕ
addresses_of phys = map (λ phy. phy.own.address) phys

-- the same as a table: for each address, whether one of the first n has it
unfoldable pub taken_by : (ℕ → ℕ) → ℕ → List Bool
taken_by address n = tabulate 256 (λ a. any n (λ i. eqb (address i) a))

-- what checks 3 to 6 find of a record, by rising number; 0 where it passes
unfoldable pub fault_of : ℕ → Bool → PhyRecord → ℕ
fault_of zero_byte used r =
    wrong_field when fields_wrong zero_byte r
    else address_used when used
    else wrong_register_set when not (register_set_right r.own.implemented r.defaults)
    else wrong_default when not (defaults_right r.own.implemented r.defaults r.masks)

-- what the code holds of a record
abbrev pub record_in : Record → PhyRecord
record_in r = record { own = r.own; defaults = r.defaults; masks = r.masks }
