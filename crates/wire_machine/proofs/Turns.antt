-- A loop over all places: what all its turns leave, of PHYs replaced and of lines put back.
use Prim.Native.Nat.{ℕ, ◌+◌, ◌<◌}
use mathlib.Core.Path.{◌≡◌, ap, ◌∙◌}
use mathlib.Core.List.{List, [], map, append-nil}
use native.Mathlib.Omega.{arith}
use lib.ListN.{length, get_or, set, take, drop, drop_of_length-le}
use lib.Seq.{take_all}
use Rattle.verdict.proofs.Outputs.{filled, fill}
use Rattle.phy.specs.declared.Phy.{Phy}
use Rattle.phy.specs.Sound.{nowhere}
use Rattle.board.specs.declared.Board.{Board}
use Rattle.between.proofs.Places.{replaced}
use Rattle.between.proofs.Filling.{next_place}
use Rattle.wire_machine.specs.declared.line.Line.{Line}
use Rattle.wire_machine.specs.Lines.{no_line, onto, joined_board}

-- where all elements are replaced
pub replaced-all : {A : Type 0} (f : A → A) (i : ℕ) (xs : List A) → i ≡ length xs → replaced f i xs ≡ map f xs
replaced-all f i xs all =
    let none : drop i xs ≡ [] = drop_of_length-le xs {i = i} (omega arith) in
    let whole : take i xs ≡ xs = take_all i xs (omega arith) in
    rw (none, append-nil, whole)

-- A board whose lines are put back place by place
module _ (lines : List Line) (board : Board) where
  abbrev pub rejoined : ℕ → Phy
  rejoined i = onto (get_or lines i no_line) (get_or board.phys i nowhere)

  pub join-next : (xs : List Phy) (i : ℕ) (v : Phy) → i < length board.phys → xs ≡ filled rejoined board.phys i → v ≡ onto (get_or lines i no_line) (get_or xs i nowhere) → set xs i v ≡ filled rejoined board.phys (i + 1)
  join-next xs i v h so_far here =
      fill rejoined board.phys xs i v h so_far
      (here ∙ ap (onto (get_or lines i no_line)) (next_place rejoined board.phys xs i nowhere h so_far))

  pub join-end : (after : Board) (i : ℕ) → i ≡ board.count → after.count ≡ board.count → after.phys ≡ filled rejoined board.phys i → after ≡ joined_board lines board
  unfolding joined_board
  join-end after i all same filled-all =
      λ j. record { count = same j; phys = (filled-all ∙ ap (filled rejoined board.phys) all) j }
