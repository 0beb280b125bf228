-- A file of bytes loads a board whose fields are within their types: words of two bytes, and blank places elsewhere.
use Prim.Native.Nat.{ℕ, ◌+◌, ◌*◌, ◌^◌, ◌<◌}
use mathlib.Core.Bool.{Bool, true, false}
use mathlib.Core.List.{List, []}
use mathlib.Core.Path.{◌≡◌, refl, sym, subst, ◌∙◌}
use native.Mathlib.Omega.{arith}
use lib.ListN.{drop, replicate, length-append, length-drop, length-replicate, get_or-replicate}
use lib.Dec.{leb}
use borrow.Author.Tests.{leb-true, leb-false}
use Rattle.verdict.specs.Refusal.{Verdict, Done, Refused}
use Rattle.verdict.specs.File.{byte_at, word_at}
use Rattle.verdict.specs.Output.{tabulate}
use Rattle.verdict.proofs.Lists.{length-tabulate, all-tabulate}
use Rattle.verdict.proofs.Elements.{all-or}
use Rattle.phy.specs.Record.{register_count}
use Rattle.phy.specs.Sound.{blank, nowhere}
use Rattle.phy.specs.Typed.{Words, Typed}
use Rattle.phy.proofs.Keeping.{fresh-typed}
use Rattle.board.specs.Check.{places, place_at}
use Rattle.board.specs.Load.{board_record, own_at, words_at, defaults_at, masks_at, phy_at, board_verdict, board_of, no_phys, loaded_by, loaded}
use Rattle.board.specs.Typed.{TypedBoard}
use Rattle.board.proofs.LoadSound.{fits, place-fresh, place-blank}

module _ (file : List ℕ) (bytes : (i : ℕ) → byte_at file i < 256) where
  small_word : (i : ℕ) → word_at file i < 2 ^ 16
  small_word i = omega (arith, bytes i, bytes (i + 1))

  typed-words : (start : ℕ) → Words 32 (words_at file start)
  unfolding words_at
  typed-words start = record {
    long = length-tabulate register_count (λ r. word_at file (start + r * 2));
    small = λ r. all-or (λ w. w < 2 ^ 16) (tabulate register_count (λ r. word_at file (start + r * 2))) r 0 (omega arith) (all-tabulate (λ w. w < 2 ^ 16) register_count (λ r. word_at file (start + r * 2)) (λ r within. small_word (start + r * 2)));
  }

  typed-phy : (k : ℕ) → Typed (phy_at file k)
  unfolding phy_at
  typed-phy k =
      fresh-typed (own_at file k) (defaults_at file k) (masks_at file k)
      (record { address = bytes (k * board_record); implemented = omega (arith, small_word (k * board_record + 2), small_word (k * board_record + 4)) })
      (typed-words (k * board_record + 6)) (typed-words (k * board_record + 70))

-- a blank place is what a record of no bytes says
blank-typed : Typed blank
unfolding phy_at words_at tabulate blank
blank-typed = typed-phy [] (λ i. omega arith) 0

no-phys-typed : TypedBoard no_phys
unfolding board_of tabulate
no-phys-typed = record {
  long = length-replicate places blank;
  each = λ k within. subst Typed (sym (get_or-replicate places k blank nowhere within)) blank-typed;
}

module _ (file : List ℕ) (bytes : (i : ℕ) → byte_at file i < 256) where
  places-typed : (n : ℕ) → board_verdict file ≡ Done n → TypedBoard (board_of n (phy_at file))
  unfolding board_of
  places-typed n done = record {
    long =
        length-append (tabulate n (phy_at file)) (drop n (replicate places blank))
        ∙ omega (arith, fits file n done, length-tabulate n (phy_at file), length-drop n (replicate places blank), length-replicate places blank);
    each = λ k within. go k within (leb n k) refl;
  }
    where
      go : (k : ℕ) → k < places → (b : Bool) → leb n k ≡ b → Typed (place_at (board_of n (phy_at file)) k)
      go k within true e = subst Typed (sym (place-blank file n done k (leb-true n k e) within)) blank-typed
      go k within false e = subst Typed (sym (place-fresh file n done k (leb-false n k e))) (typed-phy file bytes k)

  -- a load, done or refused, hands a typed board back
  pub load_typed : TypedBoard (loaded file).board
  unfolding loaded
  load_typed = go (board_verdict file) refl
    where
      go : (v : Verdict) → board_verdict file ≡ v → TypedBoard (loaded_by v file).board
      go (Done n) e = places-typed n e
      go (Refused number index) e = no-phys-typed
