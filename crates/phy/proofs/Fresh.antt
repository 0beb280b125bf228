-- A fresh PHY with a good record is sound: every register stands at its default, and the derived default of register 0 has an able speed.
use Prim.Native.Nat.{ℕ, ◌+◌, ◌*◌, ◌/◌, ◌%◌, ◌^◌, ◌<◌}
use mathlib.Core.Bool.{Bool, true, false, not, ◌&&◌, ◌||◌, cond, or-true, or-false, not-or_self}
use mathlib.Core.List.{List}
use mathlib.Core.Path.{◌≡◌, refl, ap, sym, ◌∙◌}
use native.Mathlib.Omega.{arith}
use lib.Dec.{eqb, leb}
use borrow.Author.Tests.{eq-eqb, eqb-true, not-true}
use Rattle.verdict.specs.Bits.{bit}
use Rattle.phy.specs.declared.own.Own.{Own}
use Rattle.phy.specs.declared.Phy.{Phy}
use Rattle.phy.specs.Abilities.{one, able10, able100, able1000, able_half, able_full}
use Rattle.phy.specs.Control.{speed_able}
use Rattle.phy.specs.Clock.{fresh}
use Rattle.phy.specs.Record.{word, register_count, status_clear, extended_clear, some_ability, derived_control, control_derived, words_right}
use Rattle.phy.specs.Sound.{stands_outside, registers_stand, follower_sound, in_own_read, phy_sound}
use Rattle.phy.proofs.Every.{both, each-every}
use Rattle.phy.proofs.Clauses.{Clauses, ControlClauses, clauses-sound}

-- what the words of a record say of the bits of register 0's default
pub record ControlBits (control status extended : ℕ) : Type 0 where
  pub bit-6 : one 6 control ≡ able1000 status extended
  pub bit-13 : one 13 control ≡ not (able1000 status extended) && able100 status extended
  pub bit-12 : bit 12 control ≡ bit 3 status
  pub bit-8 : one 8 control ≡ not (able_half status extended)
  pub bit-15 : bit 15 control ≡ 0
  pub bit-9 : bit 9 control ≡ 0
  pub bit-5 : bit 5 control ≡ 0
  pub low : control % 2 ^ 5 ≡ 0

-- a truth as a binary digit
digit : Bool → ℕ
digit false = 0
digit true = 1

digit-small : (b : Bool) → digit b < 2
unfolding digit
digit-small false = omega arith
digit-small true = omega arith

eqb-digit : (b : Bool) → eqb (digit b) 1 ≡ b
unfolding digit
eqb-digit false = refl
eqb-digit true = refl

speed-digits : (thousand hundred : Bool) → cond thousand (2 ^ 6) (cond hundred (2 ^ 13) 0) ≡ digit thousand * 64 + digit (not thousand && hundred) * 8192
unfolding digit
speed-digits true hundred = refl
speed-digits false true = refl
speed-digits false false = refl

duplex-digit : (half : Bool) → cond half 0 (2 ^ 8) ≡ digit (not half) * 256
unfolding digit
duplex-digit true = refl
duplex-digit false = refl

-- the bits of a sum of digits that have places of their own
places : (c x y b g t : ℕ) → x < 2 → y < 2 → b < 2 → g < 2 → t < 2 → c ≡ x * 64 + y * 8192 + (b * 4096 + g * 256) + t * 1024
    → (c / 64 % 2 ≡ x) × (c / 8192 % 2 ≡ y) × (c / 4096 % 2 ≡ b) × (c / 256 % 2 ≡ g) × (c / 32768 % 2 ≡ 0) × (c / 512 % 2 ≡ 0) × (c / 32 % 2 ≡ 0) × (c % 32 ≡ 0)
places c x y b g t hx hy hb hg ht sum = omega arith

control-bits : (control status extended : ℕ) → control_derived control status extended ≡ true → ControlBits control status extended
unfolding derived_control
control-bits control status extended h =
    let x = digit (able1000 status extended) in
    let y = digit (not (able1000 status extended) && able100 status extended) in
    let g = digit (not (able_half status extended)) in
    let hx : x < 2 = digit-small _ in
    let hy : y < 2 = digit-small _ in
    let hg : g < 2 = digit-small _ in
    let told = eqb-true control (derived_control status extended + bit 10 control * 2 ^ 10) h in
    let sum : control ≡ x * 64 + y * 8192 + (status / 8 % 2 * 4096 + g * 256) + control / 1024 % 2 * 1024 =
    rw (speed-digits, duplex-digit) at told in
    let at = places control x y (status / 8 % 2) g (control / 1024 % 2) hx hy (omega arith) hg (omega arith) sum in
    record {
      bit-6 = ap (λ (n : ℕ). eqb n 1) at.0 ∙ eqb-digit _;
      bit-13 = ap (λ (n : ℕ). eqb n 1) at.1 ∙ eqb-digit _;
      bit-12 = at.2;
      bit-8 = ap (λ (n : ℕ). eqb n 1) at.3 ∙ eqb-digit _;
      bit-15 = at.4;
      bit-9 = at.5;
      bit-5 = at.6;
      low = at.7;
    }

-- a word stands as itself
stands_same : (mask value : ℕ) → stands_outside mask value value ≡ true
unfolding stands_outside
stands_same mask value =
    each-every _ 16 (λ i l. rw (eq-eqb (bit i value) (bit i value) refl) (or-true (one i mask)))

-- a bit that is zero is not one
zero_bit : (n : ℕ) → n ≡ 0 → eqb n 1 ≡ false
zero_bit n e = rw e

-- the fastest speed that is able is able
fastest-able : (status extended : ℕ) → some_ability status extended ≡ true → speed_able status extended (able1000 status extended) (not (able1000 status extended) && able100 status extended) ≡ true
fastest-able status extended some = go (able1000 status extended) (able100 status extended) refl refl
  where
    go : (thousand hundred : Bool) → able1000 status extended ≡ thousand → able100 status extended ≡ hundred → speed_able status extended (able1000 status extended) (not (able1000 status extended) && able100 status extended) ≡ true
    go true hundred p q = rw p p
    go false true p q = rw (p, q) q
    go false false p q = rw (p, q) (sym (or-false (able10 status extended)) ∙ (rw (q, p) at some))

-- bit 8 as derived is as fixed
duplex-right : (eight full half : Bool) → eight ≡ not half → (eight || (half || not full)) && (not eight || (full || not half)) ≡ true
duplex-right eight full true e = rw e
duplex-right eight full false e = rw e (or-true full)

module _ (own : Own) (defaults masks : List ℕ) where
  abbrev control : ℕ
  control = word defaults 0

  abbrev status : ℕ
  status = word defaults 1

  abbrev extended : ℕ
  extended = word defaults 15

  abbrev new : Phy
  new = fresh own defaults masks

  fresh-control : ControlBits control status extended → some_ability status extended ≡ true → ControlClauses control status extended
  fresh-control at some =
      record {
        able-speed = rw (at.bit-6, at.bit-13) (fastest-able status extended some);
        negotiation-able = rw at.bit-12 (not-or_self (one 3 status));
        restart-negotiates = rw at.bit-9;
        duplex-fixed = duplex-right (one 8 control) (able_full status extended) (able_half status extended) at.bit-8;
        unidirection-able = rw at.bit-5;
        reserved-clear = rw at.low;
      }

  fresh-clauses : ControlBits control status extended → some_ability status extended ≡ true → one 5 status ≡ false → one 2 status ≡ false → Clauses new
  unfolding registers_stand follower_sound in_own_read
  fresh-clauses at some five two =
      record {
        bank = record {
          registers-stand = each-every _ register_count (λ r l. rw (stands_same (word masks r) (word defaults r)) (or-true (leb r 1)));
          status-stands = stands_same _ status;
          control = fresh-control at some;
          reset-stands = rw at.bit-15;
          complete-negotiates = rw five;
          held-link-up = rw two;
        };
        follower-sound = refl;
        captured-sound = refl;
      }

  -- a fresh PHY whose record passed check 6 is sound
  pub fresh-sound : words_right control status extended ≡ true → phy_sound new ≡ true
  unfolding words_right
  fresh-sound right =
      let clear = both (status_clear status) (extended_clear extended && (some_ability status extended && control_derived control status extended)) right in
      let able = (both (extended_clear extended) (some_ability status extended && control_derived control status extended) clear.1).1 in
      let derived = both (some_ability status extended) (control_derived control status extended) able in
      let five = both (not (one 5 status)) (not (one 4 status) && (not (one 2 status) && not (one 1 status))) clear.0 in
      let four = both (not (one 4 status)) (not (one 2 status) && not (one 1 status)) five.1 in
      let two = both (not (one 2 status)) (not (one 1 status)) four.1 in
      clauses-sound new
      (fresh-clauses (control-bits control status extended derived.1) derived.0 (not-true (one 5 status) five.0) (not-true (one 2 status) two.0))
