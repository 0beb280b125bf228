-- Worked examples of document 01, "Bench cases", on board P's PHY alone: the definitions compute.
use Prim.Native.Nat.{ℕ}
use mathlib.Core.Path.{◌≡◌, refl}
use mathlib.Core.Bool.{Bool, true, false}
use mathlib.Core.List.{List, [], ◌∷◌, ◌++◌}
use lib.ListN.{replicate}
use Rattle.wire.specs.declared.Drive.TheVariants.{Released, Driven}
use Rattle.phy.specs.declared.Phy.{Phy}
use Rattle.phy.specs.Fields.{register_of}
use Rattle.phy.specs.Registers.{after_read, after_write}
use Rattle.phy.specs.Events.{event}
use Rattle.phy.specs.Clock.{fresh, drives, clock}
use Rattle.phy.specs.Computing.{computing}

-- "Board P: address 1, mask 0000000F, defaults 3000, 7849, 0, 0"
abbrev pub phy_p : Phy
phy_p = fresh (record { address = 1; implemented = 0x0000000F }) (0x3000 ∷ 0x7849 ∷ replicate 30 0) (replicate 32 0)

-- what stands in register 0 after a write
abbrev control_after : ℕ → ℕ
control_after word = register_of 0 (after_write 0 word phy_p)

-- "*2 write 2100: 2100. *3 write 0040: 2000. *4 write 2040: 2000. *5 write 1200: 1200; event 6: 1000. *6 write 0200: 0000."
case-2 : control_after 0x2100 ≡ 0x2100
unfolding computing
case-2 = refl

case-3 : control_after 0x0040 ≡ 0x2000
unfolding computing
case-3 = refl

case-5 : control_after 0x1200 ≡ 0x1200
unfolding computing
case-5 = refl

case-5-then : register_of 0 (event 6 (after_write 0 0x1200 phy_p)) ≡ 0x1000
unfolding computing
case-5-then = refl

case-7 : register_of 0 (event 7 (after_write 0 0x2100 (after_write 0 0x8100 phy_p))) ≡ 0x3000
unfolding computing
case-7 = refl

case-8 : register_of 1 (after_read 1 (event 1 phy_p)) ≡ 0x784D
unfolding computing
case-8 = refl

-- a read of register 1 by the wire alone: 32 ones, then 01 10 00001 00001; the word is captured in the clock of the 14th bit
abbrev clocks : List Bool → Phy → Phy
clocks [] phy = phy
clocks (level ∷ levels) phy = clocks levels (clock level phy)

abbrev header : List Bool
header =
    false ∷ true ∷ true ∷ false
    ∷ false ∷ false ∷ false ∷ false ∷ true
    ∷ false ∷ false ∷ false ∷ false ∷ true ∷ []

abbrev reading : Phy
reading = clocks (replicate 32 true ++ header) (event 1 phy_p)

captured-word : reading.captured ≡ 0x7849
unfolding computing
captured-word = refl

held-anew : register_of 1 reading ≡ 0x784D
unfolding computing
held-anew = refl

released-for-15 : drives reading ≡ Released
unfolding computing
released-for-15 = refl

zero-for-16 : drives (clock true reading) ≡ Driven false
unfolding computing
zero-for-16 = refl

-- bit 17 is the word's bit 15, a 0, and bit 18 its bit 14, a 1
word-from-17 : drives (clocks (true ∷ false ∷ []) reading) ≡ Driven false
unfolding computing
word-from-17 = refl

word-goes-on : drives (clocks (true ∷ false ∷ false ∷ []) reading) ≡ Driven true
unfolding computing
word-goes-on = refl

-- A Clause 45 write of 0ABC to port 10, device 3, on the wire of a PHY at address 1 that accepts suppressed preambles (1.6 is one) and has register 24 to write: 00, 01, 01010, 00011, 10, then the word
abbrev pub phy_fast : Phy
phy_fast = fresh (record { address = 1; implemented = 0x0100000F }) (0x3000 ∷ 0x7849 ∷ replicate 30 0) (replicate 24 0 ++ (0xFFFF ∷ replicate 7 0))

abbrev payload : List Bool
payload =
    false ∷ true
    ∷ false ∷ true ∷ false ∷ true ∷ false
    ∷ false ∷ false ∷ false ∷ true ∷ true
    ∷ true ∷ false
    ∷ false ∷ false ∷ false ∷ false ∷ true ∷ false ∷ true ∷ false ∷ true ∷ false ∷ true ∷ true ∷ true ∷ true ∷ false ∷ false ∷ []

-- to a PHY that hunts behind the 00 its other 30 bits, with four ones behind them, are a start and a write of ABCF
payload-writes : register_of 24 (clocks (payload ++ replicate 4 true) phy_fast) ≡ 0xABCF
unfolding computing
payload-writes = refl

-- but it does not hunt there
foreign-not-stored : clocks (true ∷ false ∷ false ∷ payload) phy_fast ≡ phy_fast
unfolding computing
foreign-not-stored = refl

foreign-then-ones : register_of 24 (clocks (true ∷ false ∷ false ∷ (payload ++ replicate 4 true)) phy_fast) ≡ 0
unfolding computing
foreign-then-ones = refl
