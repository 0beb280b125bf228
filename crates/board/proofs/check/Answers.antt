-- The places are asked in order, those with a PHY and then the blank ones, and the first at fault refuses.
use Prim.Native.Nat.{ℕ, ◌+◌, ◌-◌, ◌≤◌, ◌<◌}
use mathlib.Core.Bool.{Bool, true, false, not, ◌&&◌, cond}
use mathlib.Core.List.{List}
use mathlib.Core.Path.{◌≡◌, refl, ap, ap₂, sym, ◌∙◌}
use native.Mathlib.Omega.{arith}
use lib.ListN.{length, get_or, set, take, drop}
use lib.Seq.{get_or-drop}
use lib.Dec.{ltb}
use borrow.Author.Tests.{lt-leb, le-leb, ltb-false}
use borrow.Author.Rules.{rules}
use Rattle.std.specs.Prelude.{Some, None}
use Rattle.std.specs.List.{position, position_or_len}
use Rattle.std.proofs.lemmas.List.{length-take, length-drop, get_or-take, take_all}
use Rattle.std.proofs.lemmas.List.Quantifiers.{position-Some}
use Rattle.std.proofs.lemmas.List.Sums.{fails_before_first}
use Rattle.verdict.specs.Refusal.{Refused, not_sound, ◌when◌}
use Rattle.verdict.proofs.Checks.{FirstAtFault, next, stop, first-refused, all-pass-done}
use Rattle.phy.specs.declared.Phy.{Phy}
use Rattle.phy.specs.Sound.{phy_sound, is_blank, nowhere}
use Rattle.board.specs.declared.Board.{Board}
use Rattle.board.specs.Record.{has_address, taken_by}
use Rattle.board.specs.Check.{place_at, passes_as, record_passes, place_sound, place_fault}
use Rattle.board.proofs.Taken.{taken_at, taken_next}
use Rattle.board.proofs.check.Goals as goal

-- A place with a PHY, as the loop reads it: who has its address before it is told by the table
module _ (board : Board) (taken : List Bool) (k : ℕ) (phy : Phy) (here : phy ≡ place_at board k) (byte : phy.own.address < 256) (so_far : taken ≡ taken_by (λ i. (place_at board i).own.address) k) where
  -- what is asked of it is what its board says of it
  asked : (passes sound : Bool) → k < board.count → passes ≡ passes_as (get_or taken phy.own.address false) phy → sound ≡ phy_sound phy → passes && sound ≡ place_sound board k
  unfolding place_sound record_passes has_address
  asked passes sound used p s =
      let found = ap (λ table. get_or table phy.own.address false) so_far ∙ taken_at (λ i. (place_at board i).own.address) k phy.own.address byte in
      rw (lt-leb board.count k used, ← here) (ap₂ ◌&&◌ (p ∙ ap (λ u. passes_as u phy) found) s)

  -- and its address is taken for those after it
  more : set taken phy.own.address true ≡ taken_by (λ i. (place_at board i).own.address) (k + 1)
  more =
      let byte' : (place_at board k).own.address < 256 = (rw here at byte) in
      ap₂ (λ (table : List Bool) (phy : Phy). set table phy.own.address true) so_far here ∙ taken_next (λ i. (place_at board i).own.address) k byte'

-- A place with none
blank_asked : (board : Board) (k : ℕ) → board.count ≤ k → is_blank (place_at board k) ≡ place_sound board k
unfolding place_sound
blank_asked board k unused = rw (le-leb board.count k unused)

-- The places behind those with a PHY
abbrev spare_places : Board → List Phy
spare_places board = drop board.count board.phys

spare-all : (board : Board) → take (length board.phys - board.count) (spare_places board) ≡ spare_places board
spare-all board = take_all (length board.phys - board.count) (spare_places board) (rw length-drop (omega arith))

abbrev not_blank : Phy → Bool
not_blank phy = not (is_blank phy)

module _ (board : Board) (long : length board.phys ≡ 32) where
  unused : (k : ℕ) → place_fault board (board.count + k) ≡ not_sound when not_blank (get_or (spare_places board) k nowhere)
  unused k =
      rw (get_or-drop board.count board.phys k nowhere)
      (ap (λ b. not_sound when not b) (sym (blank_asked board (board.count + k) (omega arith))))

  passes_blank : (k i : ℕ) → i ≡ board.count + k → not_blank (get_or (spare_places board) k nowhere) ≡ false → place_fault board i ≡ 0
  passes_blank k i place blank = ap (place_fault board) place ∙ unused k ∙ ap (λ b. not_sound when b) blank

  -- the first that is not blank
  first-unsound : (k : ℕ) → position not_blank (spare_places board) ≡ Some k → FirstAtFault (place_fault board) board.count (32 - board.count) 12 (board.count + k)
  first-unsound k e =
      let found = position-Some not_blank (spare_places board) k nowhere e in
      record {
        from = omega arith;
        among = omega (arith, length-drop board.count board.phys, found.0);
        at-fault = unused k ∙ ap (λ b. not_sound when b) found.1;
        earlier-pass = λ i h l. passes_blank (i - board.count) i (omega arith) (found.2 (i - board.count) (omega arith));
      }

  -- or all are blank
  abbrev first : ℕ
  first = position_or_len not_blank (spare_places board)

  none-unsound : position not_blank (spare_places board) ≡ None → (i : ℕ) → board.count ≤ i → i < board.count + (32 - board.count) → place_fault board i ≡ 0
  none-unsound e i h l =
      let all : length (spare_places board) ≤ first = go (ltb first (length (spare_places board))) refl e in
      passes_blank (i - board.count) i (omega arith)
      (fails_before_first not_blank (spare_places board) (i - board.count) nowhere (omega (arith, length-drop board.count board.phys)))
    where
      go : (b : Bool) → ltb first (length (spare_places board)) ≡ b → cond b (Some first) None ≡ None → length (spare_places board) ≤ first
      go true p e = cc
      go false p e = ltb-false _ _ p

pub returns-then-not-passes-phy_sound : goal.returns-then-not-passes-phy_sound
returns-then-not-passes-phy_sound c =
    let board = c.args.board in
    let loop = c.loop-k in
    let fault = place_fault board in
    let used : loop.k < board.count = omega (arith, length-take board.count board.phys) in
    let byte : (get_or (take board.count board.phys) loop.k nowhere).own.address < 256 = search rules in
    let found = asked board loop.taken loop.k _ (get_or-take board.count board.phys loop.k nowhere used) byte loop.invariant.0 _ _ used c.record_passes-passes.ensures c.phy_sound.ensures in
    let fails : fault loop.k ≡ 12 = rw (← found, c.if-not-passes-phy_sound.true) in
    rw c.at-then-not-passes-phy_sound.ensures
    (sym (loop.invariant.1 ∙ stop fault _ 32 loop.k (omega arith) (λ none. omega (arith, fails, none)) ∙ ap (λ f. Refused f loop.k) fails))

pub loop-k-preserved : goal.loop-k-preserved
loop-k-preserved c =
    let board = c.args.board in
    let loop = c.loop-k in
    let fault = place_fault board in
    let used : loop.k < board.count = omega (arith, length-take board.count board.phys) in
    let here = get_or-take board.count board.phys loop.k nowhere used in
    let byte : (get_or (take board.count board.phys) loop.k nowhere).own.address < 256 = search rules in
    let found = asked board loop.taken loop.k _ here byte loop.invariant.0 _ _ used c.record_passes-passes.ensures c.phy_sound.ensures in
    let passes : fault loop.k ≡ 0 = rw (← found, c.if-not-passes-phy_sound.false) in
    (more board loop.taken loop.k _ here byte loop.invariant.0, loop.invariant.1 ∙ next fault _ 32 loop.k (omega arith) passes)

pub returns-in-Some : goal.returns-in-Some
returns-in-Some c =
    let board = c.args.board in
    let long : length board.phys ≡ 32 = search rules in
    let all : c.loop-k.k ≡ board.count = omega (arith, length-take board.count board.phys) in
    let found = ap (position not_blank) (sym (spare-all board)) ∙ sym c.first_used.ensures ∙ c.in-Some.is in
    rw c.at-in-Some.ensures
    (sym ((rw all at c.loop-k.invariant.1) ∙ first-refused (place_fault board) _ board.count _ 11 _ (first-unsound board long c.in-Some.k found)))

pub returns-in-None : goal.returns-in-None
returns-in-None c =
    let board = c.args.board in
    let long : length board.phys ≡ 32 = search rules in
    let all : c.loop-k.k ≡ board.count = omega (arith, length-take board.count board.phys) in
    let found = ap (position not_blank) (sym (spare-all board)) ∙ sym c.first_used.ensures ∙ c.in-None.is in
    sym ((rw all at c.loop-k.invariant.1) ∙ all-pass-done (place_fault board) _ board.count _ (none-unsound board long found))
