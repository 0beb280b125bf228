-- How a run that is not refused goes through a clock, and how it ends.
use Prim.Native.Nat.{ℕ, suc, ◌+◌, ◌*◌, ◌-◌, ◌<◌}
use mathlib.Core.Path.{◌≡◌, refl, sym, ap, ap₂, subst, ◌∙◌}
use mathlib.Core.Bool.{false}
use mathlib.Core.List.{List, [], ◌∷◌, map}
use native.Mathlib.Omega.{arith}
use native.Mathlib.Numerals.{add-one}
use borrow.Rule.Slice.PartMut.{put_mid}
use lib.ListN.{length}
use lib.Seq.{take-length, get_or-take}
use borrow.Author.Tests.{ltb-false}
use Rattle.verdict.specs.File.{byte_at}
use Rattle.verdict.specs.Lists.{All}
use Rattle.verdict.specs.Output.{join, written}
use Rattle.verdict.proofs.Elements.{all-places, map-then}
use Rattle.verdict.proofs.Outputs.{pieced, length-pieced, piece-next, pieced-all}
use Rattle.wire.specs.declared.Drive.{Drive}
use Rattle.wire.specs.Wire.{station_drive, level_of, runs}
use Rattle.phy.specs.declared.own.Own.{Own}
use Rattle.phy.specs.declared.Phy.{Phy}
use Rattle.phy.specs.Sound.{nowhere}
use Rattle.phy.proofs.Every.{neither}
use Rattle.board.specs.declared.Board.{Board}
use Rattle.board.specs.Record.{addresses_of}
use Rattle.board.specs.Check.{place_at}
use Rattle.board.proofs.Soundness.{Sound, used-place}
use Rattle.between.specs.Outcome.{phys_of, with_phys}
use Rattle.between.specs.Events.{happens, at_start}
use Rattle.between.specs.Happened.{is_due}
use Rattle.between.proofs.EventPlaces.{owns-addresses}
use Rattle.wire_machine.specs.declared.line.Line.{Line}
use Rattle.wire_machine.specs.declared.hear.Heard.{Heard}
use Rattle.wire_machine.specs.Log.{clock_record}
use Rattle.wire_machine.specs.Run.{party_with, station_drives, phys_after_run}
use Rattle.wire_machine.specs.Lines.{line_of, heard_station, heard_from, record_of, joined_board}
use Rattle.wire_machine.specs.Clocks.{Clocked}
use Rattle.wire_machine.proofs.Quiet.{heard_of, heard-level, heard-record}
use Rattle.wire_machine.proofs.Lockstep.{station_in, drives_in, owns-stay, happens-own, log-by-clock}
use Rattle.wire_machine.proofs.Stands.{piece, phys, joined, Stands, shown, length-is}
use Rattle.wire_machine.proofs.Accepts.{Goes}

-- a fact on addresses is one on PHYs, and on their lines
addresses-of-lines : (phys : List Phy) → All (λ address. address < 32) (addresses_of phys) → All (λ line. line.own.address < 32) (map line_of phys)
addresses-of-lines [] h = tt
addresses-of-lines (phy ∷ phys) h = (h.0, addresses-of-lines phys h.1)

of-addresses : (phys : List Phy) → All (λ phy. phy.own.address < 32) phys → All (λ address. address < 32) (addresses_of phys)
of-addresses [] h = tt
of-addresses (phy ∷ phys) h = (h.0, of-addresses phys h.1)

-- "PHY address over 31" is refused
small-addresses : (board : Board) → Sound board → length (phys_of board) ≡ board.count → All (λ address. address < 32) (addresses_of (phys_of board))
small-addresses board sound full =
    of-addresses (phys_of board)
    (all-places (λ phy. phy.own.address < 32) (phys_of board) nowhere (λ i l. rw (get_or-take board.count board.phys i nowhere (omega arith)) (small i (omega arith))))
  where
    small : (i : ℕ) → i < board.count → (place_at board i).own.address < 32
    small i l = omega (arith, ltb-false 31 (place_at board i).own.address (neither _ _ (used-place board sound i l).0.fields-right).0)

-- A run that is not refused, after some clocks and events, where no event is due
module _ {board : Board} {steps events log₀ : List ℕ} (run : Goes board steps events log₀) {log : List ℕ} {now : Board} {next : ℕ} {lines : List Line} {c : ℕ} (stands : Stands events steps log₀ board log now next lines c) where
  pub log-long : length log ≡ length log₀
  unfolding clock_record
  log-long = ap length stands.logged ∙ length-pieced 5 (piece events steps log₀ board) (λ k. refl) log₀ c (omega (arith, stands.gone, run.room))

  module _ (due : is_due events next c ≡ false) where
    abbrev start : List Phy
    start = at_start board events

    lines_are : lines ≡ map line_of (phys events steps log₀ board c)
    lines_are = (shown events steps log₀ board run.full run.rising stands due).lines_are

    addresses-are : addresses_of (phys events steps log₀ board c) ≡ addresses_of (phys_of board)
    addresses-are =
        let own : Phy → Own = λ phy. phy.own in
        owns-addresses (phys events steps log₀ board c) (phys_of board) (owns-stay events steps start c ∙ map-then own (happens events 0) own (happens-own events 0) (phys_of board))

    -- every line has an address that a mask has a bit for
    pub lines-small : All (λ line. line.own.address < 32) lines
    lines-small =
        subst (All (λ line. line.own.address < 32)) (sym lines_are)
        (addresses-of-lines (phys events steps log₀ board c)
        (subst (All (λ address. address < 32)) (sym addresses-are) (small-addresses board run.sound run.full)))

    -- what is heard in the next clock
    module _ (drive : Drive) (heard : Heard) (station : drive ≡ station_drive (byte_at steps c)) (hears : heard ≡ heard_from (heard_station drive) lines) where
      heard-is : heard ≡ heard_of (station_in events steps start c) (phys events steps log₀ board c)
      heard-is = hears ∙ ap₂ (λ d ls. heard_from (heard_station d) ls) station lines_are

      pub level-is : heard.level ≡ level_of (drives_in events steps start c)
      level-is = ap (λ (h : Heard). h.level) heard-is ∙ heard-level (station_in events steps start c) (phys events steps log₀ board c)

      record_is : record_of heard ≡ piece events steps log₀ board c
      record_is =
          ap record_of heard-is
          ∙ heard-record (station_in events steps start c) (phys events steps log₀ board c)
          ∙ ap (λ places. clock_record places (drives_in events steps start c)) addresses-are

      -- its record is put behind those before it
      pub put_is : (bytes : List ℕ) → bytes ≡ record_of heard → put_mid (c * 5) (c * 5 + 5 - c * 5) log bytes ≡ pieced 5 (piece events steps log₀ board) log₀ (suc c)
      unfolding clock_record
      put_is bytes put =
          let one : c + 1 ≡ suc c = add-one c in
          ap₂ (put_mid (c * 5) (c * 5 + 5 - c * 5)) stands.logged (put ∙ record_is)
          ∙ piece-next 5 (piece events steps log₀ board) (λ k. refl) log₀ c
          ∙ ap (pieced 5 (piece events steps log₀ board) log₀) one

    -- after the last clock
    pub ends : (after : Board) → c ≡ length steps → after ≡ joined_board lines now → Clocked board steps events log₀ after log
    unfolding clock_record
    ends after all is =
        let last : phys events steps log₀ board c ≡ phys_after_run board steps events = ap (λ k. phys events steps log₀ board k) all ∙ ap (λ ss. runs (party_with events) (station_drives ss) 0 start) (take-length steps) in
        record {
          board =
              is
              ∙ joined (shown events steps log₀ board run.full run.rising stands due) (length-is events steps log₀ board run.full run.rising stands due)
              ∙ ap (with_phys board) last;
          logged =
              stands.logged
              ∙ ap (pieced 5 (piece events steps log₀ board) log₀) all
              ∙ pieced-all 5 (piece events steps log₀ board) (λ k. refl) log₀ (length steps)
              ∙ ap (λ xss. written (join xss) log₀) (sym (log-by-clock events steps start (addresses_of (phys_of board))));
        }
