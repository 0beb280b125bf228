-- Document 01, "A sound board": "at most 32 PHYs (else 12 at place 32, tested first; then the lowest place at fault), unused places blank (..), each record passes checks 3 to 6 against those before it; (..)"
use Rattle.std.specs.Prelude.{ℕ, Bool, not, ◌&&◌, cond, get_or, eqb, ltb, leb}
use Rattle.verdict.specs.Refusal.{Verdict, Done, not_sound, ◌when◌, refuse}
use Rattle.verdict.specs.File.{in_order}
use Rattle.phy.specs.declared.Phy.{Phy}
use Rattle.phy.specs.Fields.{record_of}
use Rattle.phy.specs.Sound.{phy_sound, is_blank, nowhere}
use Rattle.board.specs.declared.Board.{Board}
use Rattle.board.specs.Record.{has_address, fault_of}

abbrev pub places : ℕ
places = 32

-- the PHY at a place
abbrev pub place_at : Board → ℕ → Phy
place_at board k = get_or board.phys k nowhere

-- "each record passes checks 3 to 6 against those before it", where it is known whether one of them has its address
abbrev pub passes_as : Bool → Phy → Bool
passes_as used phy = eqb (fault_of 0 used (record_of phy)) 0

unfoldable pub record_passes : Board → ℕ → Bool
record_passes board k = passes_as (has_address board.phys k (place_at board k).own.address) (place_at board k)

-- a place is unused and blank, or its PHY has a good record and is sound
unfoldable pub place_sound : Board → ℕ → Bool
place_sound board k =
    cond (leb board.count k) (is_blank (place_at board k)) (record_passes board k && phy_sound (place_at board k))

abbrev pub place_fault : Board → ℕ → ℕ
place_fault board k = not_sound when not (place_sound board k)

-- what `check` answers: done with the number of PHYs, or 12 at place 32 or at the lowest place at fault
unfoldable pub checked : Board → Verdict
checked board =
    refuse (not_sound when ltb places board.count) places
    (in_order (place_fault board) 0 places (Done board.count))
