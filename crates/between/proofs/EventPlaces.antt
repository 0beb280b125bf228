-- No two PHYs of a sound board have the same address, and an accepted event names one that is there: so it is made at one place.
use Prim.Native.Nat.{ℕ, zero, suc, ◌<◌, min}
use mathlib.Core.Path.{◌≡◌, refl, sym, ap, ◌∙◌}
use mathlib.Core.Bool.{Bool, true, false, not, ◌&&◌, ◌||◌}
use mathlib.Core.List.{List, map}
use native.Mathlib.Omega.{arith}
use native.Mathlib.Decide.{ℕ_discrete}
use lib.Dec.{eqb, leb}
use lib.ListN.{length, get_or, set, length-map, get_or-map}
use lib.Seq.{get_or-take}
use borrow.Author.Tests.{leb-true, leb-false, eqb-true, eq-eqb}
use Rattle.verdict.specs.Refusal.{Done}
use Rattle.verdict.proofs.Checks.{accepted}
use Rattle.verdict.proofs.Elements.{map-then}
use Rattle.phy.specs.declared.own.Own.{Own}
use Rattle.phy.specs.declared.Phy.{Phy}
use Rattle.phy.specs.Events.{event}
use Rattle.phy.specs.Record.{any}
use Rattle.phy.specs.Sound.{nowhere}
use Rattle.phy.specs.Own.{takes}
use Rattle.phy.proofs.Headers.{takes-own}
use Rattle.phy.proofs.Every.{neither}
use Rattle.board.specs.declared.Board.{Board}
use Rattle.board.specs.Check.{places, place_at}
use Rattle.board.specs.Record.{has_address, addresses_of}
use Rattle.board.specs.Events.{event_record, most_events, event_address, event_code, on_board, event_wrong, clock_wrong, event_fault, events_verdict}
use Rattle.board.proofs.Soundness.{Sound, addresses-differ}
use Rattle.between.specs.Outcome.{phys_of, owns_of}
use Rattle.between.specs.Happened.{first_of, place_of, event_on}
use Rattle.between.proofs.Finding.{first-map, first-at, first-reaches, changed-there}
use Rattle.between.proofs.Happenings.{no-event-fault}

not-false : (b : Bool) → not b ≡ false → b ≡ true
not-false true e = refl
not-false false e = absurd (let z : ◌≡◌ {A = ℕ} 0 1 = cc in omega arith)

-- what passes where any does
record Found (test : ℕ → Bool) (n : ℕ) : Type 0 where
  index : ℕ
  within : index < n
  passes : test index ≡ true

any_found : (test : ℕ → Bool) (n : ℕ) → any n test ≡ true → Found test n
unfolding any
any_found test zero e = absurd (let z : ◌≡◌ {A = ℕ} 0 1 = cc in omega arith)
any_found test (suc n) e = go (any n test) (test n) refl refl e (any_found test n)
  where
    go : (a b : Bool) → any n test ≡ a → test n ≡ b → a || b ≡ true → (any n test ≡ true → Found test n) → Found test (suc n)
    go true b p q e rest = let found = rest p in record { index = found.index; within = omega (arith, found.within); passes = found.passes }
    go false true p q e rest = record { index = n; within = omega arith; passes = q }
    go false false p q e rest = absurd (let z : ◌≡◌ {A = ℕ} 0 1 = cc in omega arith)

-- no two of them take frames to one address
abbrev pub OneTakes : List Own → Type 0
OneTakes owns =
    (address i j : ℕ) → i < length owns → j < length owns → takes address (get_or owns i nowhere.own) ≡ true → takes address (get_or owns j nowhere.own) ≡ true → i ≡ j

-- the same of PHYs
pub one-takes : (phys : List Phy) → OneTakes (owns_of phys) → (address i j : ℕ) → i < length phys → j < length phys → takes address (get_or phys i nowhere).own ≡ true → takes address (get_or phys j nowhere).own ≡ true → i ≡ j
one-takes phys one address i j h l p q =
    let many = length-map phys (λ (phy : Phy). phy.own) in
    let own-at : (k : ℕ) → get_or (owns_of phys) k nowhere.own ≡ (get_or phys k nowhere).own = λ k. get_or-map (λ (phy : Phy). phy.own) phys k nowhere in
    one address i j (omega arith) (omega arith) (ap (takes address) (own-at i) ∙ p) (ap (takes address) (own-at j) ∙ q)

-- as many, and at the same addresses
pub owns-length : (phys others : List Phy) → owns_of phys ≡ owns_of others → length phys ≡ length others
owns-length phys others same = sym (length-map phys (λ phy. phy.own)) ∙ ap length same ∙ length-map others (λ phy. phy.own)

pub owns-addresses : (phys others : List Phy) → owns_of phys ≡ owns_of others → addresses_of phys ≡ addresses_of others
owns-addresses phys others same =
    let address : Own → ℕ = λ own. own.address in
    sym (map-then address (λ (phy : Phy). phy.own) (λ phy. phy.own.address) (λ phy. refl) phys)
    ∙ ap (map address) same
    ∙ map-then address (λ (phy : Phy). phy.own) (λ phy. phy.own.address) (λ phy. refl) others

-- An event at the place of its address
module _ (phys : List Phy) (one : OneTakes (owns_of phys)) (events : List ℕ) (at : ℕ) where
  abbrev place : ℕ
  place = place_of (owns_of phys) (event_address events at)

  abbrev named : Phy → Bool
  named phy = eqb (event_address events at) phy.own.address

  same_place : place ≡ first_of named phys
  same_place = first-map (λ own. eqb (event_address events at) own.address) (λ (phy : Phy). phy.own) phys

  not_named : (phy : Phy) → named phy ≡ false → event_on events at phy ≡ phy
  not_named phy e = rw e

  one-named : (i j : ℕ) → i < length phys → j < length phys → named (get_or phys i nowhere) ≡ true → named (get_or phys j nowhere) ≡ true → i ≡ j
  one-named i j h l p q =
      let taken : (k : ℕ) → named (get_or phys k nowhere) ≡ true → takes (event_address events at) (get_or phys k nowhere).own ≡ true = λ k e. ap (λ a. takes a (get_or phys k nowhere).own) (eqb-true _ _ e) ∙ takes-own (get_or phys k nowhere).own in
      one-takes phys one (event_address events at) i j h l (taken i p) (taken j q)

  pub event-there : place < length phys → map (event_on events at) phys ≡ set phys place (event (event_code events at) (get_or phys place nowhere))
  event-there h =
      let within : first_of named phys < length phys = omega (arith, same_place) in
      let found : named (get_or phys (first_of named phys) nowhere) ≡ true = first-at named phys nowhere within in
      let acts : event_on events at (get_or phys (first_of named phys) nowhere) ≡ event (event_code events at) (get_or phys (first_of named phys) nowhere) = rw found in
      changed-there named (event_on events at) not_named phys nowhere one-named within
      ∙ ap (set phys (first_of named phys)) acts
      ∙ ap (λ i. set phys i (event (event_code events at) (get_or phys i nowhere))) (sym same_place)

-- Of a sound board
module _ (board : Board) (sound : Sound board) (full : length (phys_of board) ≡ board.count) where
  at_place : (i : ℕ) → i < board.count → get_or (phys_of board) i nowhere ≡ place_at board i
  at_place i h = get_or-take board.count board.phys i nowhere h

  pub sound-one : OneTakes (owns_of (phys_of board))
  sound-one address i j h l p q =
      elim (ℕ_discrete i j) [ yes e ↦ e | no other ↦ absurd (go other (leb i j) refl) ]
    where
      many : length (owns_of (phys_of board)) ≡ board.count
      many = length-map (phys_of board) (λ (phy : Phy). phy.own) ∙ full

      taken : (k : ℕ) → k < board.count → takes address (get_or (owns_of (phys_of board)) k nowhere.own) ≡ true → takes address (place_at board k).own ≡ true
      taken k there e = ap (takes address) (sym (get_or-map (λ (phy : Phy). phy.own) (phys_of board) k nowhere ∙ ap (λ (phy : Phy). phy.own) (at_place k there))) ∙ e

      go : (i ≡ j → ⊥) → (b : Bool) → leb i j ≡ b → ⊥
      go other true e = addresses-differ board sound i j (omega (arith, leb-true i j e)) (omega (arith, many)) address (taken i (omega (arith, many)) p) (taken j (omega (arith, many)) q)
      go other false e = addresses-differ board sound j i (leb-false i j e) (omega (arith, many)) address (taken j (omega (arith, many)) q) (taken i (omega (arith, many)) p)

  -- an accepted event names one of its places
  module _ (events : List ℕ) (last total : ℕ) (done : events_verdict board events last ≡ Done total) (k : ℕ) (within : k < total) where
    on-board : on_board board (event_address events k) ≡ true
    unfolding event_fault
    on-board =
        let good = accepted event_record most_events (event_fault board events last) events total done in
        let right = (no-event-fault (event_wrong board events k) (clock_wrong events last k) (good.all_pass k within)).0 in
        not-false (on_board board (event_address events k)) (neither (not (leb 1 (event_code events k) && leb (event_code events k) 7)) _ right).1

    pub accepted-place : place_of (owns_of (phys_of board)) (event_address events k) < board.count
    unfolding has_address
    accepted-place =
        let address = event_address events k in
        let found = any_found (λ i. eqb (place_at board i).own.address address) (min board.count places) on-board in
        let i = found.index in
        let there : i < board.count = omega (arith, found.within) in
        let same : (place_at board i).own.address ≡ address = eqb-true (place_at board i).own.address address found.passes in
        let own_of : Phy → Own = λ phy. phy.own in
        let here : (get_or (owns_of (phys_of board)) i nowhere.own).address ≡ address = ap (λ own. own.address) (get_or-map own_of (phys_of board) i nowhere ∙ ap own_of (at_place i there)) ∙ same in
        let reaches = first-reaches (λ own. eqb address own.address) (owns_of (phys_of board)) nowhere.own i (omega (arith, length-map (phys_of board) own_of, full)) (eq-eqb address _ (sym here)) in
        omega (arith, reaches)
