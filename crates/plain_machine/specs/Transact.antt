-- One transaction of the plain machine in the clock in which it acts: its answer, and what it does to a PHY.
use Rattle.std.specs.Prelude.{ℕ, ◌≡◌, cond, List, map}
use Rattle.verdict.specs.Output.{join, written}
use Rattle.frame.specs.declared.list.Transaction.{Transaction}
use Rattle.verdict.specs.Refusal.{Judged, Good, Bad}
use Rattle.frame.specs.declared.answer.Answer.{Answer}
use Rattle.frame.specs.Frame.{preamble}
use Rattle.frame.specs.List.{is_read}
use Rattle.frame.specs.Answers.{sent, answer_to, answer_bytes}
use Rattle.wire.specs.Machines.{Core, header_for, before_reads, before_writes, read_of}
use Rattle.phy.specs.declared.Phy.{Phy}
use Rattle.phy.specs.Clock.{after_header, after_frame, phy_core}
use Rattle.board.specs.declared.Board.{Board}
use Rattle.plain_machine.specs.Plain.{answers_of_plain, board_after_plain}

-- the clocks before the one in which a transaction acts
unfoldable pub clocks_before : Transaction → ℕ
clocks_before t = cond (is_read t) (before_reads preamble) (before_writes preamble)

-- of a record of the list; past the list's end there are none
abbrev pub lead_of : Judged Transaction → ℕ
lead_of (Good t) = clocks_before t
lead_of (Bad c) = 0

-- a read acts by its header, a write by its frame
unfoldable pub after_act : Transaction → Phy → Phy
after_act t phy = cond (is_read t) (after_header (header_for t) phy) (after_frame (header_for t) t.«data» phy)

-- PHYs to which nothing happens between clocks: an answer goes by no event
abbrev pub still : Core Phy
still = phy_core (λ c phy. phy)

-- the answer of some PHYs to a transaction that acts now
unfoldable pub answer_of : Transaction → List Phy → Answer
answer_of t phys = cond (is_read t) (read_of still t phys) (answer_to t sent t.«data»)

-- what all transactions of a list that is not refused do
pub record Transacted (before : Board) (list events out : List ℕ) (after : Board) (out' : List ℕ) : Type 0 where
  pub board : after ≡ board_after_plain before list events
  pub answered : out' ≡ written (join (map answer_bytes (answers_of_plain before list events))) out
