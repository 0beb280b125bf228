-- Document 01, "Records": "Log, 5 bytes per clock: flags (1 level, 2 station drives, 4 two or more parties drive) and a 4-byte mask with bit a set when the PHY at address a drives."
use Rattle.std.specs.Prelude.{ℕ, ◌+◌, ◌*◌, ◌/◌, ◌%◌, ◌^◌, Bool, true, false, List, [], ◌∷◌, leb}
use Rattle.wire.specs.declared.Drive.{Drive}
use Rattle.wire.specs.declared.Drive.TheVariants.{Released, Driven}
use Rattle.wire.specs.Wire.{as_bit, level_of, drivers}
use Rattle.phy.specs.Words.{set_bit}

-- whether a party drives
abbrev pub is_driving : Drive → Bool
is_driving Released = false
is_driving (Driven level) = true

-- the flags of a clock in which the station and the PHYs do this
abbrev pub flags_of : Drive → List Drive → ℕ
flags_of station drives =
    as_bit (level_of (station ∷ drives)) * 1
    + as_bit (is_driving station) * 2
    + as_bit (leb 2 (drivers (station ∷ drives))) * 4

-- a mask with bit a set besides, where the PHY at address a drives
abbrev pub marked : ℕ → ℕ → Drive → ℕ
marked mask address Released = mask
marked mask address (Driven level) = set_bit address mask

-- the mask of the PHYs at these addresses, who do this
unfoldable pub mask_from : ℕ → List ℕ → List Drive → ℕ
mask_from mask [] drives = mask
mask_from mask (address ∷ addresses) [] = mask
mask_from mask (address ∷ addresses) (drive ∷ drives) = mask_from (marked mask address drive) addresses drives

-- four bytes, high byte first
abbrev pub four_bytes : ℕ → List ℕ
four_bytes n = n / 2 ^ 24 % 256 ∷ n / 2 ^ 16 % 256 ∷ n / 2 ^ 8 % 256 ∷ n % 256 ∷ []

-- the log record of a clock: what the station does, then what each PHY does
unfoldable pub clock_record : List ℕ → List Drive → List ℕ
clock_record addresses [] = []
clock_record addresses (station ∷ drives) = flags_of station drives ∷ four_bytes (mask_from 0 addresses drives)
