-- A write of register 0 leaves registers and link sound: each of its bits is what its clause asks, and a reset goes back to defaults that are sound.
use Prim.Native.Nat.{ℕ, zero, suc, ◌-◌, ◌%◌, ◌^◌, ◌<◌}
use mathlib.Core.Path.{◌≡◌, refl, ap}
use mathlib.Core.Bool.{Bool, true, false, not, ◌&&◌, ◌||◌, cond, or-true}
use mathlib.Core.List.{List}
use native.Mathlib.Omega.{arith}
use lib.Dec.{eqb, leb}
use lib.ListN.{get_or, set}
use lib.Seq.{get_or-set_same, get_or-set_other}
use borrow.Author.Tests.{eq-eqb, leb-false}
use Rattle.verdict.specs.Bits.{bit, shift_in}
use Rattle.phy.specs.declared.Phy.{Phy}
use Rattle.phy.specs.Abilities.{one, able_full, able_half}
use Rattle.phy.specs.Words.{set_bit, clear_bit}
use Rattle.phy.specs.Fields.{register_of, default_of, mask_of, with_registers, with_register, with_link}
use Rattle.phy.specs.Control.{reset, speed_able, speed_from, new_bit12, new_bit9, duplex_bit, new_bit8, new_bit5, new_bits, new_control, new_status, write_control}
use Rattle.phy.specs.Clock.{fresh}
use Rattle.phy.specs.Typed.{Words}
use Rattle.phy.specs.Record.{register_count, words_right}
use Rattle.phy.specs.Sound.{◌implies◌, held_bits, stands_outside, registers_stand, others_at_default}
use Rattle.phy.proofs.Every.{each-every}
use Rattle.phy.proofs.Words.{set_other, set_same, clear-other, clear-same}
use Rattle.phy.proofs.NewBits.{new_bit12-lt, new_control-bit}
use Rattle.phy.proofs.Clauses.{ControlClauses, Bank, sound-clauses}
use Rattle.phy.proofs.Fresh.{fresh-sound}
use Rattle.phy.proofs.Banks.{outside, changed, both_stored}

-- a bit that is asked to be one only where another test holds: "zero if .. is zero, else as written"
asked : (t : Bool) (written : ℕ) → (eqb (cond t written 0) 1 implies t) ≡ true
asked true written = or-true (not (eqb written 1))
asked false written = refl

-- "fixed if only one duplex is able, else stored"
duplex : (full half : Bool) (written : ℕ)
    → (eqb (duplex_bit full half written) 1 || (half || not full)) && (not (eqb (duplex_bit full half written) 1) || (full || not half)) ≡ true
duplex true false written = refl
duplex false true written = refl
duplex true true written = rw (or-true (eqb written 1), or-true (not (eqb written 1)))
duplex false false written = rw (or-true (eqb written 1), or-true (not (eqb written 1)))

-- "zero if the new bit 12 is zero"
restart : (twelve kept : ℕ) → twelve < 2 → (eqb (cond (eqb twelve 0) 0 kept) 1 implies eqb twelve 1) ≡ true
restart zero kept h = refl
restart (suc zero) kept h = or-true (not (eqb kept 1))
restart (suc (suc n)) kept h = absurd (omega arith)

module _ (status extended old word : ℕ) where
  abbrev new : ℕ
  new = new_control status extended old word

  abbrev at : (i : ℕ) → i < 16 → bit i new ≡ get_or (new_bits status extended old word) (15 - i) 0
  at i below = new_control-bit status extended old word i below

  new-low : new % 2 ^ 5 ≡ 0
  unfolding new_control shift_in
  new-low = omega arith

  new-words : ControlClauses old status extended → ControlClauses new status extended
  unfolding speed_from new_bit12 new_bit9 new_bit8 new_bit5
  new-words before =
      record {
        able-speed = rw (at 6 (omega arith), at 13 (omega arith)) (speed (speed_able status extended (one 6 word) (one 13 word)) refl);
        negotiation-able = rw (at 12 (omega arith)) (asked (one 3 status) (bit 12 word));
        restart-negotiates = rw (at 9 (omega arith), at 12 (omega arith)) (restart (new_bit12 status word) (cond (one 9 word) 1 (bit 9 old)) (new_bit12-lt status word));
        duplex-fixed = rw (at 8 (omega arith)) (duplex (able_full status extended) (able_half status extended) (bit 8 word));
        unidirection-able = rw (at 5 (omega arith)) (asked (one 7 status) (bit 5 word));
        reserved-clear = eq-eqb (new % 2 ^ 5) 0 new-low;
      }
    where
      speed : (t : Bool) → speed_able status extended (one 6 word) (one 13 word) ≡ t
          → speed_able status extended (one 6 (cond t word old)) (one 13 (cond t word old)) ≡ true
      speed true e = e
      speed false e = before.able-speed

  -- "1.5 clears if the new 12 is zero or 9 was written one."
  new-complete : (one 5 status implies (one 12 old && not (one 9 old))) ≡ true
      → (one 5 (new_status status word) implies (one 12 new && not (one 9 new))) ≡ true
  unfolding new_status new_bit9
  new-complete before =
      rw (at 12 (omega arith), at 9 (omega arith)) (go (new_bit12 status word) (new_bit12-lt status word) (one 9 word))
    where
      second : (a b c : Bool) → (a implies (b && c)) ≡ true → (a implies c) ≡ true
      second false b c h = refl
      second true true c h = h
      second true false c h = absurd (let z : ◌≡◌ {A = ℕ} 0 1 = cc in omega arith)

      go : (b : ℕ) → b < 2 → (t : Bool)
          → (one 5 (cond (eqb b 0 || t) (clear_bit 5 status) status) implies (eqb b 1 && not (eqb (cond (eqb b 0) 0 (cond t 1 (bit 9 old))) 1))) ≡ true
      go zero h t = rw (clear-same 5 status)
      go (suc zero) h true = rw (clear-same 5 status)
      go (suc zero) h false = second (one 5 status) (one 12 old) (not (one 9 old)) before
      go (suc (suc n)) h t = absurd (omega arith)

  new-held : (i : ℕ) → (i ≡ 5 → ⊥) → bit i (new_status status word) ≡ bit i status
  unfolding new_status
  new-held i n5 = go (eqb (new_bit12 status word) 0 || one 9 word)
    where
      go : (t : Bool) → bit i (cond t (clear_bit 5 status) status) ≡ bit i status
      go true = clear-other 5 i status n5
      go false = refl

-- "Bit 15 one: all registers to default, link down, 0.15 one": as a fresh PHY, but for bit 15
module _ (p : Phy) (words : Words 32 p.defaults) (right : words_right (default_of 0 p) (default_of 1 p) (default_of 15 p) ≡ true) where
  abbrev loaded : Phy
  loaded = fresh p.own p.defaults p.masks

  begins : Bank loaded
  begins = (sound-clauses loaded (fresh-sound p.own p.defaults p.masks right)).bank

  abbrev control : ℕ
  control = set_bit 15 (default_of 0 p)

  abbrev registers : List ℕ
  registers = set p.defaults 0 control

  zeroth : get_or registers 0 0 ≡ control
  zeroth = get_or-set_same p.defaults 0 control 0 (omega (arith, words.long))

  above : (r : ℕ) → 0 < r → get_or registers r 0 ≡ default_of r p
  above r l = get_or-set_other p.defaults 0 r control 0 (omega arith)

  same : (i : ℕ) → (i ≡ 15 → ⊥) → bit i control ≡ bit i (default_of 0 p)
  same i n15 = set_other 15 i (default_of 0 p) n15

  reset-words : ControlClauses control (default_of 1 p) (default_of 15 p)
  reset-words =
      let now = begins.control in
      record {
        able-speed = rw (same 6 (omega arith), same 13 (omega arith)) now.able-speed;
        negotiation-able = rw (same 12 (omega arith)) now.negotiation-able;
        restart-negotiates = rw (same 9 (omega arith), same 12 (omega arith)) now.restart-negotiates;
        duplex-fixed = rw (same 8 (omega arith)) now.duplex-fixed;
        unidirection-able = rw (same 5 (omega arith)) now.unidirection-able;
        reserved-clear = let low : control % 2 ^ 5 ≡ default_of 0 p % 2 ^ 5 = omega arith in rw low now.reserved-clear;
      }

  others-stand : others_at_default (with_link false (with_registers registers loaded)) ≡ true
  unfolding others_at_default
  others-stand = each-every _ register_count (λ r l. go r (leb r 0) refl)
    where
      go : (r : ℕ) (t : Bool) → leb r 0 ≡ t → (t || eqb (get_or registers r 0) (default_of r p)) ≡ true
      go r true e = refl
      go r false e = eq-eqb (get_or registers r 0) (default_of r p) (above r (leb-false r 0 e))

  stands-reset : stands_outside (2 ^ 15) control (default_of 0 p) ≡ true
  unfolding stands_outside
  stands-reset = each-every _ 16 (λ i l. go i (one i (2 ^ 15)) refl)
    where
      go : (i : ℕ) (t : Bool) → one i (2 ^ 15) ≡ t → (t || eqb (bit i control) (bit i (default_of 0 p))) ≡ true
      go i true e = refl
      go i false e = eq-eqb _ _ (same i (outside (2 ^ 15) 15 i refl e))

  at-reset : Bank (with_link false (with_registers registers loaded))
  at-reset =
      changed loaded begins registers false control (default_of 1 p) zeroth (above 1 (omega arith))
      (λ r l. ap (λ (w : ℕ). stands_outside (mask_of r p) w (default_of r p)) (above r (omega arith)))
      (λ i l. ap (bit i) (above 15 (omega arith))) (λ i off. refl) reset-words
      (rw (zeroth, set_same 15 (default_of 0 p), stands-reset, others-stand))
      (rw (same 12 (omega arith), same 9 (omega arith)) begins.complete-negotiates)
      begins.held-link-up

  pub reset-bank : Bank (reset p)
  unfolding reset registers_stand others_at_default
  reset-bank =
      record {
        registers-stand = at-reset.registers-stand;
        status-stands = at-reset.status-stands;
        control = at-reset.control;
        reset-stands = at-reset.reset-stands;
        complete-negotiates = at-reset.complete-negotiates;
        held-link-up = at-reset.held-link-up;
      }

-- register 0 on a write, outside reset
pub control-bank : (word : ℕ) (p : Phy) → Words 32 p.defaults → Words 32 p.registers
    → words_right (default_of 0 p) (default_of 1 p) (default_of 15 p) ≡ true → Bank p → Bank (write_control word p)
unfolding write_control
control-bank word p defaults words right old = go (one 15 word)
  where
    status : ℕ
    status = register_of 1 p

    extended : ℕ
    extended = register_of 15 p

    new : ℕ
    new = new_control status extended (register_of 0 p) word

    go : (t : Bool) → Bank (cond t (reset p) (with_register 1 (new_status status word) (with_register 0 new p)))
    go true = reset-bank p defaults right
    go false =
        both_stored p words old new (new_status status word) p.link
        (rw (new_control-bit status extended (register_of 0 p) word 15 (omega arith)))
        (λ i off. new-held status extended (register_of 0 p) word i (outside held_bits 5 i refl off))
        (new-words status extended (register_of 0 p) word old.control)
        (new-complete status extended (register_of 0 p) word old.complete-negotiates)
        (rw (new-held status extended (register_of 0 p) word 2 (omega arith)) old.held-link-up)
