-- What `check` says of a board: which boards pass, the lowest place at fault, no two PHYs at one address; and that a load passes.
use Prim.Native.Nat.{ℕ, ◌≤◌, ◌<◌}
use mathlib.Core.Bool.{Bool, true, false, not}
use mathlib.Core.Path.{◌≡◌, refl, sym, ◌∙◌}
use native.Mathlib.Omega.{arith}
use lib.Dec.{ltb}
use borrow.Author.Tests.{lt-ltb, le-ltb, ltb-false, le-leb, lt-leb, eqb-true, eqb-false}
use Rattle.verdict.specs.Refusal.{Done, Refused, wrong_field, address_used, wrong_register_set, wrong_default, not_sound, ◌when◌, ◌else◌, refuse}
use Rattle.verdict.specs.File.{in_order}
use Rattle.verdict.proofs.Checks.{FirstAtFault, refused-first, refused-number, done-all-pass, all-pass-done}
use Rattle.phy.specs.Own.{takes}
use Rattle.phy.specs.Fields.{PhyRecord, record_of}
use Rattle.phy.specs.Sound.{phy_sound, is_blank}
use Rattle.phy.proofs.Every.{both, any_none}
use Rattle.phy.proofs.Headers.{taken_own}
use Rattle.phy.specs.Record.{register_set_right, defaults_right}
use Rattle.board.specs.declared.Board.{Board}
use Rattle.board.specs.Record.{fields_wrong, has_address, fault_of}
use Rattle.board.specs.Check.{places, place_at, record_passes, place_sound, place_fault, checked}

-- a sound board, place by place
pub record Sound (board : Board) : Type 0 where
  pub at_most : board.count ≤ places
  pub each : (k : ℕ) → k < places → place_sound board k ≡ true

-- a finding of one check, by its test
no-finding : (b : Bool) → not_sound when not b ≡ 0 → b ≡ true
no-finding true e = refl
no-finding false e = absurd (omega arith)

module _ (board : Board) where
  -- a board that passes is sound, and the answer counts its PHYs
  pub check_sound : (n : ℕ) → checked board ≡ Done n → (board.count ≡ n) × Sound board
  unfolding checked
  check_sound n e = go (ltb places board.count) refl e
    where
      go : (b : Bool) → ltb places board.count ≡ b → refuse (not_sound when b) places (in_order (place_fault board) 0 places (Done board.count)) ≡ Done n → (board.count ≡ n) × Sound board
      go true p e = absurd (let z : ◌≡◌ {A = ℕ} 0 1 = cc in omega arith)
      go false p e =
          let passes = done-all-pass (place_fault board) board.count 0 places n e in (
            passes.0,
            record {
              at_most = ltb-false places board.count p;
              each = λ k l. no-finding (place_sound board k) (passes.1 k (omega arith) (omega arith));
            },
          )

  -- and a sound board passes
  pub sound-check : Sound board → checked board ≡ Done board.count
  unfolding checked
  sound-check s =
      rw (le-ltb places board.count s.at_most)
      (all-pass-done (place_fault board) (Done board.count) 0 places (λ k h l. rw (s.each k l)))

  -- more than 32 PHYs are refused by 12 at place 32, whatever else is wrong
  pub refused-too-many : places < board.count → checked board ≡ Refused not_sound places
  unfolding checked
  refused-too-many more = rw (lt-ltb places board.count more)

  -- else a refusal is 12 at the lowest place at fault
  pub refused-lowest : board.count ≤ places → (c k : ℕ) → checked board ≡ Refused c k → (c ≡ not_sound) × FirstAtFault (place_fault board) 0 places c k
  unfolding checked
  refused-lowest fits c k e =
      let inner = (rw (le-ltb places board.count fits) at e) in
      let first = refused-first (place_fault board) board.count 0 places c k inner in
      (go (place_sound board k) first.at-fault (refused-number (place_fault board) board.count 0 places c k inner), first)
    where
      go : (b : Bool) → not_sound when not b ≡ c → (c ≡ 0 → ⊥) → c ≡ not_sound
      go false p q = sym p
      go true p q = absurd (q (sym p))

-- what a record that passes checks 3 to 6 has
pub record Passes (zero_byte : ℕ) (used : Bool) (r : PhyRecord) : Type 0 where
  pub fields-right : fields_wrong zero_byte r ≡ false
  pub address-free : used ≡ false
  pub set-right : register_set_right r.own.implemented r.defaults ≡ true
  pub defaults-right : defaults_right r.own.implemented r.defaults r.masks ≡ true

pub no-fault-passes : (zero_byte : ℕ) (used : Bool) (r : PhyRecord) → fault_of zero_byte used r ≡ 0 → Passes zero_byte used r
unfolding fault_of
no-fault-passes zero_byte used r e =
    go (fields_wrong zero_byte r) used (register_set_right r.own.implemented r.defaults) (defaults_right r.own.implemented r.defaults r.masks) refl refl refl refl e
  where
    go : (a b c d : Bool) → fields_wrong zero_byte r ≡ a → used ≡ b → register_set_right r.own.implemented r.defaults ≡ c → defaults_right r.own.implemented r.defaults r.masks ≡ d → (wrong_field when a else address_used when b else wrong_register_set when not c else wrong_default when not d) ≡ 0 → Passes zero_byte used r
    go false false true true h₁ h₂ h₃ h₄ e = record { fields-right = h₁; address-free = h₂; set-right = h₃; defaults-right = h₄ }
    go true b c d h₁ h₂ h₃ h₄ e = absurd (omega arith)
    go false true c d h₁ h₂ h₃ h₄ e = absurd (omega arith)
    go false false false d h₁ h₂ h₃ h₄ e = absurd (omega arith)
    go false false true false h₁ h₂ h₃ h₄ e = absurd (omega arith)

pub passes-no-fault : (zero_byte : ℕ) (used : Bool) (r : PhyRecord) → Passes zero_byte used r → fault_of zero_byte used r ≡ 0
unfolding fault_of
passes-no-fault zero_byte used r h = rw (h.fields-right, h.address-free, h.set-right, h.defaults-right)

module _ (board : Board) (s : Sound board) where
  -- a used place of a sound board: its record passes against those before it, and its PHY is sound
  pub used-place : (k : ℕ) → k < board.count → Passes 0 (has_address board.phys k (place_at board k).own.address) (record_of (place_at board k)) × (phy_sound (place_at board k) ≡ true)
  unfolding place_sound record_passes
  used-place k l =
      let here = (rw (lt-leb board.count k l) at (s.each k (omega (arith, s.at_most)))) in
      let parts = both (record_passes board k) (phy_sound (place_at board k)) here in
      (no-fault-passes 0 _ (record_of (place_at board k)) (eqb-true _ 0 parts.0), parts.1)

  pub unused-place : (k : ℕ) → board.count ≤ k → k < places → is_blank (place_at board k) ≡ true
  unfolding place_sound
  unused-place k h l = rw (le-leb board.count k h) at (s.each k l)

  -- no two PHYs of a sound board take frames to the same address
  pub addresses-differ : (i j : ℕ) → i < j → j < board.count
      → (address : ℕ) → takes address (place_at board i).own ≡ true → takes address (place_at board j).own ≡ true → ⊥
  unfolding has_address
  addresses-differ i j h l address one other =
      let free = (used-place j l).0.address-free in
      eqb-false _ _ (any_none _ j free i h) (sym (taken_own address _ one) ∙ taken_own address _ other)
