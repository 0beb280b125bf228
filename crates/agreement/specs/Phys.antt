-- A PHY as a party that follows frames: its line is its follower and its captured word.
use Rattle.phy.specs.declared.Phy.{Phy}
use Rattle.phy.specs.Fields.{with_line}
use Rattle.phy.specs.Clock.{enough}
use Rattle.agreement.specs.Follows.{Line}

abbrev pub phy_line : Line Phy
phy_line = record { enough = enough; follower = λ phy. phy.follower; captured = λ phy. phy.captured; put = with_line }
