-- The plain machine changes every PHY by one function: the events of clock 0, then its transactions and their events. So it has what all of these have.
use Prim.Native.Nat.{ℕ}
use mathlib.Core.List.{List}
use Rattle.frame.specs.Frame.{preamble}
use Rattle.frame.specs.List.{transactions}
use Rattle.wire.specs.declared.Header.{Header}
use Rattle.phy.specs.declared.Phy.{Phy}
use Rattle.phy.specs.Clock.{after_header, after_frame}
use Rattle.board.specs.declared.Board.{Board}
use Rattle.between.specs.Outcome.{phys_of}
use Rattle.between.specs.Events.{happens}
use Rattle.between.proofs.EachPlace.{Closed, Each, each_next, plain-each}
use Rattle.plain_machine.specs.Plain.{core_with, phys_after_plain}

pub plain-changes : {Q : (Phy → Phy) → Type 0} → Closed Q → (events : List ℕ) → ((c : ℕ) → Q (happens events c)) → ((header : Header) → Q (after_header header)) → ((header : Header) (word : ℕ) → Q (after_frame header word)) → (board : Board) (list : List ℕ) → Each Q (phys_of board) (phys_after_plain board list events)
plain-changes closed events happenings headers frames board list =
    each_next closed (happenings 0) (plain-each closed (core_with events) happenings headers frames preamble preamble (transactions list) 0 _)
