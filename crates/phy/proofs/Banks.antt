-- Registers and link of a sound PHY stay sound: each method changes register 0, the held bits of register 1, or masked bits above.
use Prim.Native.Nat.{ℕ, ◌-◌, ◌*◌, ◌%◌, ◌^◌, ◌<◌}
use mathlib.Core.Path.{◌≡◌, refl, sym, ap, subst, ◌∙◌}
use mathlib.Core.Bool.{Bool, true, false, not, ◌&&◌, ◌||◌, cond, or-true, true≢false}
use mathlib.Core.List.{List}
use native.Mathlib.Omega.{arith}
use native.Mathlib.Decide.{ℕ_discrete}
use lib.Dec.{eqb, leb}
use lib.ListN.{get_or, set, length-set}
use lib.Seq.{get_or-set_same, get_or-set_other, set-get_or}
use borrow.Author.Tests.{eqb-true, eqb-false, leb-false, not-true}
use Rattle.verdict.specs.Bits.{bit}
use Rattle.phy.specs.declared.Phy.{Phy}
use Rattle.phy.specs.Abilities.{one, able_full, able_half}
use Rattle.phy.specs.Words.{set_bit, clear_bit}
use Rattle.phy.specs.Fields.{register_of, default_of, mask_of, with_registers, with_register, sets, clears, with_link}
use Rattle.phy.specs.Control.{speed_able}
use Rattle.phy.specs.Registers.{in_reset, masked, write_ordinary, held_after, read_status}
use Rattle.phy.specs.Events.{completes, happening, event}
use Rattle.phy.specs.Typed.{Words}
use Rattle.phy.specs.Record.{every, register_count, status_clear}
use Rattle.phy.specs.Sound.{◌implies◌, held_bits, stands_outside, registers_stand, others_at_default, reset_stands}
use Rattle.phy.proofs.Every.{both, every-each, every-ext}
use Rattle.phy.proofs.Words.{bit-lt, set_other, clear-other, clear-same}
use Rattle.phy.proofs.Held.{held-others, held_link, masked-bit}
use Rattle.phy.proofs.Clauses.{ControlClauses, Bank}

-- a word of register 1 that differs from another in its held bits alone
abbrev pub SameBut : ℕ → ℕ → Type 0
SameBut new old = (i : ℕ) → one i held_bits ≡ false → bit i new ≡ bit i old

-- a bit outside a mask is none of the mask's
pub outside : (mask k i : ℕ) → one k mask ≡ true → one i mask ≡ false → i ≡ k → ⊥
outside mask k i on off e = true≢false (sym on ∙ ap (λ (j : ℕ). one j mask) (sym e) ∙ off)

-- what is able goes by bits that stand
module _ (new old extended' extended : ℕ) (held : SameBut new old) (same : (i : ℕ) → i < 16 → bit i extended' ≡ bit i extended) where
  full-same : able_full new extended' ≡ able_full old extended
  full-same = rw (held 14 refl, held 12 refl, held 10 refl, same 15 (omega arith), same 13 (omega arith))

  half-same : able_half new extended' ≡ able_half old extended
  half-same = rw (held 15 refl, held 13 refl, held 11 refl, held 9 refl, same 14 (omega arith), same 12 (omega arith))

  speed-same : (a b : Bool) → speed_able new extended' a b ≡ speed_able old extended a b
  speed-same false false = rw (held 12 refl, held 11 refl)
  speed-same false true = rw (held 15 refl, held 14 refl, held 13 refl, held 10 refl, held 9 refl)
  speed-same true false = rw (same 15 (omega arith), same 14 (omega arith), same 13 (omega arith), same 12 (omega arith))
  speed-same true true = refl

  able-same : (control : ℕ) → ControlClauses control old extended → ControlClauses control new extended'
  able-same control w =
      record {
        able-speed = speed-same (one 6 control) (one 13 control) ∙ w.able-speed;
        negotiation-able = rw (held 3 refl) w.negotiation-able;
        restart-negotiates = w.restart-negotiates;
        duplex-fixed = rw (full-same, half-same) w.duplex-fixed;
        unidirection-able = rw (held 7 refl) w.unidirection-able;
        reserved-clear = w.reserved-clear;
      }

-- one test of every bit, where the masked bits need none
pub stands_alike : (mask new old default : ℕ) → ((i : ℕ) → i < 16 → one i mask ≡ false → bit i new ≡ bit i old) → stands_outside mask new default ≡ stands_outside mask old default
unfolding stands_outside
stands_alike mask new old default same = every-ext 16 _ _ (λ i below. go i below (one i mask) refl)
  where
    go : (i : ℕ) → i < 16 → (t : Bool) → one i mask ≡ t → (t || eqb (bit i new) (bit i default)) ≡ (t || eqb (bit i old) (bit i default))
    go i below true e = refl
    go i below false e = ap (λ (b : ℕ). eqb b (bit i default)) (same i below e)

-- a bit that is zero cleared changes nothing
clear_none : (i word : ℕ) → one i word ≡ false → clear_bit i word ≡ word
clear_none i word e =
    let zero : bit i word ≡ 0 = omega (arith, bit-lt i word, eqb-false (bit i word) 1 e) in
    ap (λ (b : ℕ). word - b * 2 ^ i) zero ∙ minus (2 ^ i)
  where
    minus : (x : ℕ) → word - 0 * x ≡ word
    minus x = omega arith

-- with "1.5, 1.4, 1.2, 1.1 zero" nothing is held
nothing-held : (status : ℕ) → status_clear status ≡ true → held_after false status ≡ status
nothing-held status clear =
    let four = (both (not (one 5 status)) (not (one 4 status) && (not (one 2 status) && not (one 1 status))) clear).1 in
    let two = both (not (one 4 status)) (not (one 2 status) && not (one 1 status)) four in
    let last = both (not (one 2 status)) (not (one 1 status)) two.1 in
    rw (
      clear_none 4 status (not-true (one 4 status) two.0),
      clear_none 1 status (not-true (one 1 status) last.1),
    )
    (clear_none 2 status (not-true (one 2 status) last.0))

-- a mask of zero has no bit
no-bit : (i : ℕ) → i < 16 → one i 0 ≡ false
unfolding every
no-bit i below = not-true (one i 0) (every-each (λ j. not (one j 0)) 16 refl i below)

-- other registers and another link, by what registers 0 and 1 have now
pub changed : (p : Phy) → Bank p → (registers : List ℕ) (link : Bool) (control status : ℕ)
    → get_or registers 0 0 ≡ control → get_or registers 1 0 ≡ status
    → ((r : ℕ) → 1 < r → stands_outside (mask_of r p) (get_or registers r 0) (default_of r p) ≡ stands_outside (mask_of r p) (register_of r p) (default_of r p))
    → ((i : ℕ) → i < 16 → bit i (get_or registers 15 0) ≡ bit i (register_of 15 p))
    → SameBut status (register_of 1 p)
    → ControlClauses control (register_of 1 p) (register_of 15 p)
    → reset_stands (with_link link (with_registers registers p)) ≡ true
    → (one 5 status implies (one 12 control && not (one 9 control))) ≡ true
    → (one 2 status implies link) ≡ true
    → Bank (with_link link (with_registers registers p))
unfolding registers_stand
changed p old registers link control status zeroth first above able held words reset complete up =
    record {
      registers-stand = every-ext register_count _ _ (λ r l. go r (leb r 1) refl) ∙ old.registers-stand;
      status-stands = rw first (stands_alike held_bits status (register_of 1 p) (default_of 1 p) (λ i l off. held i off) ∙ old.status-stands);
      control = (rw (zeroth, first) (able-same status (register_of 1 p) (get_or registers 15 0) (register_of 15 p) held able control words));
      reset-stands = reset;
      complete-negotiates = rw (zeroth, first) complete;
      held-link-up = rw first up;
    }
  where
    go : (r : ℕ) (t : Bool) → leb r 1 ≡ t → (t || stands_outside (mask_of r p) (get_or registers r 0) (default_of r p)) ≡ (t || stands_outside (mask_of r p) (register_of r p) (default_of r p))
    go r true e = refl
    go r false e = above r (leb-false r 1 e)

module _ (p : Phy) (words : Words 32 p.registers) (old : Bank p) where
  abbrev control : ℕ
  control = register_of 0 p

  abbrev status : ℕ
  status = register_of 1 p

  abbrev extended : ℕ
  extended = register_of 15 p

  -- registers 0 and 1 stored, outside reset
  pub both_stored : (new held : ℕ) (link : Bool) → one 15 new ≡ false → SameBut held status → ControlClauses new status extended
      → (one 5 held implies (one 12 new && not (one 9 new))) ≡ true → (one 2 held implies link) ≡ true
      → Bank (with_link link (with_register 1 held (with_register 0 new p)))
  both_stored new held link out same right complete up =
      changed p old (set (set p.registers 0 new) 1 held) link new held zeroth
      (get_or-set_same (set p.registers 0 new) 1 held 0 (omega (arith, length-set p.registers 0 new, words.long)))
      (λ r l. ap (λ (w : ℕ). stands_outside (mask_of r p) w (default_of r p)) (above r l))
      (λ i l. ap (bit i) (above 15 (omega arith)))
      same right (rw (zeroth, out)) complete up
    where
      zeroth : get_or (set (set p.registers 0 new) 1 held) 0 0 ≡ new
      zeroth = get_or-set_other (set p.registers 0 new) 1 0 held 0 (omega arith) ∙ get_or-set_same p.registers 0 new 0 (omega (arith, words.long))

      above : (r : ℕ) → 1 < r → get_or (set (set p.registers 0 new) 1 held) r 0 ≡ register_of r p
      above r l = get_or-set_other (set p.registers 0 new) 1 r held 0 (omega arith) ∙ get_or-set_other p.registers 0 r new 0 (omega arith)

  -- one of them stored: the other as it was
  pub status-stored : (held : ℕ) (link : Bool) → one 15 control ≡ false → SameBut held status
      → (one 5 held implies (one 12 control && not (one 9 control))) ≡ true → (one 2 held implies link) ≡ true
      → Bank (with_link link (with_register 1 held p))
  status-stored held link out same complete up =
      subst (λ (l : List ℕ). Bank (with_link link (with_register 1 held (with_registers l p)))) (set-get_or p.registers 0 0)
      (both_stored control held link out same old.control complete up)

  pub control-stored : (new : ℕ) → one 15 new ≡ false → ControlClauses new status extended
      → (one 5 status implies (one 12 new && not (one 9 new))) ≡ true → Bank (with_register 0 new p)
  control-stored new out right complete =
      subst (λ (l : List ℕ). Bank (with_registers l p)) same
      (both_stored new status p.link out (λ i off. refl) right complete old.held-link-up)
    where
      same : set (set p.registers 0 new) 1 status ≡ set p.registers 0 new
      same =
          ap (set (set p.registers 0 new) 1) (sym (get_or-set_other p.registers 0 1 new 0 (omega arith)))
          ∙ set-get_or (set p.registers 0 new) 1 0

  -- a bit of register 0 cleared that no ability and no duplex goes by
  cleared : (i : ℕ) → (6 ≡ i → ⊥) → (13 ≡ i → ⊥) → (12 ≡ i → ⊥) → (8 ≡ i → ⊥) → (5 ≡ i → ⊥)
      → (one 9 (clear_bit i control) implies one 12 control) ≡ true → clear_bit i control % 2 ^ 5 ≡ control % 2 ^ 5
      → ControlClauses (clear_bit i control) status extended
  cleared i n6 n13 n12 n8 n5 restart low =
      let now = old.control in
      record {
        able-speed = rw (clear-other i 6 control n6, clear-other i 13 control n13) now.able-speed;
        negotiation-able = rw (clear-other i 12 control n12) now.negotiation-able;
        restart-negotiates = rw (clear-other i 12 control n12) restart;
        duplex-fixed = rw (clear-other i 8 control n8) now.duplex-fixed;
        unidirection-able = rw (clear-other i 5 control n5) now.unidirection-able;
        reserved-clear = rw low now.reserved-clear;
      }

  -- "6 clears 0.9"
  restart-done : one 15 control ≡ false → Bank (clears 0 9 p)
  restart-done out =
      control-stored (clear_bit 9 control) (rw (clear-other 9 15 control (omega arith)) out)
      (cleared 9 (omega arith) (omega arith) (omega arith) (omega arith) (omega arith) (rw (clear-same 9 control)) (omega arith))
      (rw (clear-other 9 12 control (omega arith), clear-same 9 control) (weaker (one 5 status) (one 12 control) (one 9 control) old.complete-negotiates))
    where
      weaker : (a b c : Bool) → (a implies (b && not c)) ≡ true → (a implies (b && true)) ≡ true
      weaker false b c h = refl
      weaker true true c h = refl
      weaker true false c h = h

  -- "7 clears 0.15"
  reset-done : Bank (clears 0 15 p)
  reset-done =
      control-stored (clear_bit 15 control) (rw (clear-same 15 control))
      (cleared 15 (omega arith) (omega arith) (omega arith) (omega arith) (omega arith)
      (rw (clear-other 15 9 control (omega arith)) old.control.restart-negotiates) (omega arith))
      (rw (clear-other 15 12 control (omega arith), clear-other 15 9 control (omega arith)) old.complete-negotiates)

  -- "3 sets 1.4; 4 sets 1.1"
  status-set : (i : ℕ) → one i held_bits ≡ true → (5 ≡ i → ⊥) → (2 ≡ i → ⊥) → one 15 control ≡ false
      → Bank (sets 1 i p)
  status-set i held n5 n2 out =
      status-stored (set_bit i status) p.link out (λ j off. set_other i j status (outside held_bits i j held off))
      (rw (set_other i 5 status n5) old.complete-negotiates)
      (rw (set_other i 2 status n2) old.held-link-up)

  -- "5 sets 1.5 if 0.12 is one and 0.9 zero"
  completed : one 15 control ≡ false → Bank (completes p)
  unfolding completes
  completed out = go (one 12 control && not (one 9 control)) refl
    where
      go : (t : Bool) → (one 12 control && not (one 9 control)) ≡ t → Bank (cond t (sets 1 5 p) p)
      go true e =
          status-stored (set_bit 5 status) p.link out (λ j off. set_other 5 j status (outside held_bits 5 j refl off))
          (rw e (or-true (not (one 5 (set_bit 5 status)))))
          (rw (set_other 5 2 status (omega arith)) old.held-link-up)
      go false e = old

  -- "2 link down (1.2 clears)"
  link-down : one 15 control ≡ false → Bank (with_link false (clears 1 2 p))
  link-down out =
      status-stored (clear_bit 2 status) false out (λ j off. clear-other 2 j status (outside held_bits 2 j refl off))
      (rw (clear-other 2 5 status (omega arith)) old.complete-negotiates)
      (rw (clear-same 2 status))

  -- "1 link up (1.2 unchanged)"
  link_up : one 15 control ≡ false → Bank (with_link true p)
  link_up out =
      changed p old p.registers true control status refl refl (λ r l. refl) (λ i l. refl) (λ i off. refl)
      old.control (rw out) old.complete-negotiates (or-true (not (one 2 status)))

  happened : (code : ℕ) → one 15 control ≡ false → Bank (happening code p)
  unfolding happening
  happened code out =
      by (eqb code 1) (link_up out)
      (by (eqb code 2) (link-down out)
      (by (eqb code 3) (status-set 4 refl (omega arith) (omega arith) out)
      (by (eqb code 4) (status-set 1 refl (omega arith) (omega arith) out)
      (by (eqb code 5) (completed out)
      (by (eqb code 6) (restart-done out)
      (by (eqb code 7) reset-done
      old))))))
    where
      by : (t : Bool) {a b : Phy} → Bank a → Bank b → Bank (cond t a b)
      by true x y = x
      by false x y = y

  -- events: "In reset only 7 acts."
  pub event-bank : (code : ℕ) → Bank (event code p)
  unfolding event in_reset happening
  event-bank code = go (one 15 control) (eqb code 7) refl refl
    where
      go : (a b : Bool) → one 15 control ≡ a → eqb code 7 ≡ b → Bank (cond (a && not b) p (happening code p))
      go false b out e = happened code out
      go true false in' e = old
      go true true in' e = subst (λ (k : ℕ). Bank (happening k p)) (sym (eqb-true code 7 e)) reset-done

  -- "Reading register 1": in reset nothing is held, so that nothing changes
  pub read-bank : status_clear (default_of 1 p) ≡ true → Bank (read_status p)
  unfolding read_status others_at_default
  read-bank clear = go (one 15 control) refl
    where
      up : (link : Bool) → (one 2 (held_after link status) implies link) ≡ true
      up true = or-true (not (one 2 (held_after true status)))
      up false = rw (held_link false status)

      go : (t : Bool) → one 15 control ≡ t → Bank (with_register 1 (held_after p.link status) p)
      go false out =
          status-stored (held_after p.link status) p.link out
          (λ j off. held-others p.link status j (outside held_bits 4 j refl off) (outside held_bits 2 j refl off) (outside held_bits 1 j refl off))
          (rw (held-others p.link status 5 (omega arith) (omega arith) (omega arith)) old.complete-negotiates)
          (up p.link)
      go true in' =
          let stands = (both (stands_outside (2 ^ 15) control (default_of 0 p)) (others_at_default p && not p.link) (rw in' at old.reset-stands)).1 in
          let others = both (others_at_default p) (not p.link) stands in
          let at_default : status ≡ default_of 1 p = eqb-true status (default_of 1 p) (every-each _ register_count others.0 1 (omega arith)) in
          let none : held_after false status ≡ status = rw at_default (nothing-held (default_of 1 p) clear) in
          let kept : held_after p.link status ≡ status = ap (λ l. held_after l status) (not-true p.link others.1) ∙ none in
          subst (λ (l : List ℕ). Bank (with_registers l p)) (sym (ap (set p.registers 1) kept ∙ set-get_or p.registers 1 0)) old

  -- "Ordinary: masked bits take the data, others stay."
  pub ordinary-bank : (r word : ℕ) → (r ≡ 0 → ⊥) → (r ≡ 1 → ⊥) → r < 32 → mask_of 15 p ≡ 0 → one 15 control ≡ false → Bank (write_ordinary r word p)
  unfolding write_ordinary
  ordinary-bank r word n0 n1 below fixed out =
      changed p old after p.link control status zeroth (get_or-set_other p.registers r 1 new 0 (λ e. n1 (sym e)))
      (λ k l. stands k (ℕ_discrete k r)) (λ i l. able i l (ℕ_discrete 15 r)) (λ i off. refl)
      old.control (rw (zeroth, out)) old.complete-negotiates old.held-link-up
    where
      new : ℕ
      new = masked (mask_of r p) (register_of r p) word

      after : List ℕ
      after = set p.registers r new

      zeroth : get_or after 0 0 ≡ control
      zeroth = get_or-set_other p.registers r 0 new 0 (λ e. n0 (sym e))

      here : get_or after r 0 ≡ new
      here = get_or-set_same p.registers r new 0 (omega (arith, words.long))

      unmasked : (i : ℕ) → i < 16 → one i (mask_of r p) ≡ false → bit i new ≡ bit i (register_of r p)
      unmasked i l off = masked-bit (mask_of r p) (register_of r p) word i l ∙ ap (λ (t : Bool). cond t (bit i word) (bit i (register_of r p))) off

      stands : (k : ℕ) → Dec (k ≡ r) → stands_outside (mask_of k p) (get_or after k 0) (default_of k p) ≡ stands_outside (mask_of k p) (register_of k p) (default_of k p)
      stands k (yes e) = rw (e, here) (stands_alike (mask_of r p) new (register_of r p) (default_of r p) unmasked)
      stands k (no n) = ap (λ (w : ℕ). stands_outside (mask_of k p) w (default_of k p)) (get_or-set_other p.registers r k new 0 n)

      able : (i : ℕ) → i < 16 → Dec (15 ≡ r) → bit i (get_or after 15 0) ≡ bit i extended
      able i l (yes e) =
          let zero-mask : mask_of r p ≡ 0 = ap (λ (k : ℕ). mask_of k p) (sym e) ∙ fixed in
          rw e (ap (bit i) here ∙ unmasked i l (ap (one i) zero-mask ∙ no-bit i l))
      able i l (no n) = ap (bit i) (get_or-set_other p.registers r 15 new 0 n)
