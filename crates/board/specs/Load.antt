-- Document 01, "Records": "Board, 134 bytes per PHY, 0 to 32: address, a zero byte, implemented mask (4 bytes, bit r for register r), 32 defaults, 32 write masks."
use Rattle.std.specs.Prelude.{ℕ, ◌+◌, ◌*◌, List, ◌++◌, Bool, replicate, drop, eqb}
use Rattle.verdict.specs.Refusal.{Verdict, Done, Refused}
use Rattle.verdict.specs.File.{byte_at, word_at, file_verdict}
use Rattle.verdict.specs.Output.{tabulate}
use Rattle.phy.specs.declared.own.Own.{Own}
use Rattle.phy.specs.declared.Phy.{Phy}
use Rattle.phy.specs.Fields.{PhyRecord}
use Rattle.phy.specs.Record.{any, register_count}
use Rattle.phy.specs.Clock.{fresh}
use Rattle.phy.specs.Sound.{blank}
use Rattle.board.specs.declared.Board.{Board}
use Rattle.board.specs.Outcome.{Told}
use Rattle.board.specs.Record.{fault_of}
use Rattle.board.specs.Check.{places}

abbrev pub board_record : ℕ
board_record = 134

-- the fields of the record at index k
abbrev pub address_at : List ℕ → ℕ → ℕ
address_at file k = byte_at file (k * board_record)

abbrev pub zero_byte_at : List ℕ → ℕ → ℕ
zero_byte_at file k = byte_at file (k * board_record + 1)

abbrev pub implemented_at : List ℕ → ℕ → ℕ
implemented_at file k = word_at file (k * board_record + 2) * 65536 + word_at file (k * board_record + 4)

abbrev pub own_at : List ℕ → ℕ → Own
own_at file k = record { address = address_at file k; implemented = implemented_at file k }

-- 32 words from a place of the file on
unfoldable pub words_at : List ℕ → ℕ → List ℕ
words_at file start = tabulate register_count (λ r. word_at file (start + r * 2))

abbrev pub defaults_at : List ℕ → ℕ → List ℕ
defaults_at file k = words_at file (k * board_record + 6)

abbrev pub masks_at : List ℕ → ℕ → List ℕ
masks_at file k = words_at file (k * board_record + 70)

abbrev pub record_at : List ℕ → ℕ → PhyRecord
record_at file k = record { own = own_at file k; defaults = defaults_at file k; masks = masks_at file k }

-- the PHY of the record at index k: "A load gives hunting, 0 ones, link down, defaults."
unfoldable pub phy_at : List ℕ → ℕ → Phy
phy_at file k = fresh (own_at file k) (defaults_at file k) (masks_at file k)

-- "an address already used by an earlier board record"
unfoldable pub used_before : List ℕ → ℕ → Bool
used_before file k = any k (λ i. eqb (address_at file i) (address_at file k))

-- what checks 3 to 6 find of the record at index k
unfoldable pub record_fault : List ℕ → ℕ → ℕ
record_fault file k = fault_of (zero_byte_at file k) (used_before file k) (record_at file k)

-- the board file's checks: 1, 2, then its records in order by 3 to 6
abbrev pub board_verdict : List ℕ → Verdict
board_verdict file = file_verdict board_record places (record_fault file) file

-- the board with these PHYs in its first n places, the others blank
unfoldable pub board_of : ℕ → (ℕ → Phy) → Board
board_of n phy = record { count = n; phys = tabulate n phy ++ drop n (replicate places blank) }

-- "hands back the board of no PHYs"
abbrev pub no_phys : Board
no_phys = board_of 0 (λ k. blank)

abbrev pub refused_load : ℕ → ℕ → Told
refused_load number index = record { verdict = Refused number index; board = no_phys }

abbrev pub loaded_by : Verdict → List ℕ → Told
loaded_by (Done n) file = record { verdict = Done n; board = board_of n (phy_at file) }
loaded_by (Refused number index) file = refused_load number index

-- what `load` answers
unfoldable pub loaded : List ℕ → Told
loaded file = loaded_by (board_verdict file) file
