-- Document 01, "A sound board", as far as it speaks of one PHY: each clause in the document's order.
use Rattle.std.specs.Prelude.{ℕ, ◌+◌, ◌-◌, ◌/◌, ◌%◌, ◌^◌, Bool, false, not, ◌&&◌, ◌||◌, List, [], replicate, leb, eqb}
use Rattle.verdict.specs.Bits.{bit}
use Rattle.frame.specs.Frame.{header_bits, frame_bits}
use Rattle.wire.specs.declared.Follower.{Follower}
use Rattle.wire.specs.declared.Follower.TheVariants.{Hunting, Inside}
use Rattle.wire.specs.Follower.{header_seen}
use Rattle.phy.specs.declared.own.Own.{Own}
use Rattle.phy.specs.declared.Phy.{Phy}
use Rattle.phy.specs.Abilities.{one, able_full, able_half}
use Rattle.phy.specs.Own.{answers}
use Rattle.phy.specs.Fields.{register_of, default_of, mask_of}
use Rattle.phy.specs.Control.{speed_able}
use Rattle.phy.specs.Clock.{fresh}
use Rattle.phy.specs.Record.{every, register_count, word}

-- the words that the clauses name
abbrev pub control_of : Phy → ℕ
control_of p = register_of 0 p

abbrev pub status_of : Phy → ℕ
status_of p = register_of 1 p

abbrev pub extended_of : Phy → ℕ
extended_of p = register_of 15 p

-- a clause that is asked only where another holds
infixr 15 ◌implies◌
abbrev pub ◌implies◌ : Bool → Bool → Bool
◌implies◌ a b = not a || b

-- the bits outside a mask stand as in another word
unfoldable pub stands_outside : ℕ → ℕ → ℕ → Bool
stands_outside mask value default = every 16 (λ i. one i mask || eqb (bit i value) (bit i default))

-- "bits outside masks stand at default in registers above 1"
unfoldable pub registers_stand : Phy → Bool
registers_stand p =
    every register_count (λ r. leb r 1 || stands_outside (mask_of r p) (register_of r p) (default_of r p))

-- "as do all of register 1 but bits 5, 4, 2, 1"
abbrev pub held_bits : ℕ
held_bits = 2 ^ 5 + 2 ^ 4 + 2 ^ 2 + 2 ^ 1

abbrev pub status_stands : Phy → Bool
status_stands p = stands_outside held_bits (status_of p) (default_of 1 p)

-- Register 0, by its word and those of registers 1 and 15
module _ (control status extended : ℕ) where
  -- "register 0 has an able speed"
  abbrev pub able_speed : Bool
  able_speed = speed_able status extended (one 6 control) (one 13 control)

  -- "12 zero if 1.3 is zero"
  abbrev pub negotiation_able : Bool
  negotiation_able = one 12 control implies one 3 status

  -- "9 zero if 12 is zero"
  abbrev pub restart_negotiates : Bool
  restart_negotiates = one 9 control implies one 12 control

  -- "8 as fixed where one duplex is able"
  abbrev pub duplex_fixed : Bool
  duplex_fixed =
      (one 8 control || (able_half status extended || not (able_full status extended)))
      && (not (one 8 control) || (able_full status extended || not (able_half status extended)))

  -- "5 zero if 1.7 is zero"
  abbrev pub unidirection_able : Bool
  unidirection_able = one 5 control implies one 7 status

  -- "4:0 zero"
  abbrev pub reserved_clear : Bool
  reserved_clear = eqb (control % 2 ^ 5) 0

  abbrev pub control_right : Bool
  control_right =
      able_speed && (negotiation_able && (restart_negotiates && (duplex_fixed && (unidirection_able && reserved_clear))))

unfoldable pub control_sound : Phy → Bool
control_sound p = control_right (control_of p) (status_of p) (extended_of p)

-- "in reset all else stands at default with the link down"
unfoldable pub others_at_default : Phy → Bool
others_at_default p = every register_count (λ r. leb r 0 || eqb (register_of r p) (default_of r p))

abbrev pub reset_stands : Phy → Bool
reset_stands p =
    one 15 (control_of p)
    implies
    (stands_outside (2 ^ 15) (control_of p) (default_of 0 p) && (others_at_default p && not p.link))

-- "1.5 one only with 0.12 one and 0.9 zero"
abbrev pub complete_negotiates : Phy → Bool
complete_negotiates p = one 5 (status_of p) implies (one 12 (control_of p) && not (one 9 (control_of p)))

-- "1.2 one only with the link up"
abbrev pub held_link_up : Phy → Bool
held_link_up p = one 2 (status_of p) implies p.link

-- the first of the bits seen
abbrev pub first_bit : ℕ → ℕ → ℕ
first_bit seen bits = bits / 2 ^ (seen - 1)

-- "hunting with 0 to 32 ones, or inside a frame with 1 to 31 bits, the first 0"; document 02, E2: "may now have a second bit of 0"
unfoldable pub follower_sound : Follower → Bool
follower_sound (Hunting ones) = leb ones 32
follower_sound (Inside seen bits) = leb 1 seen && (leb seen (frame_bits - 1) && eqb (first_bit seen bits) 0)

-- "in an own read of an implemented register from its 14th bit on"
unfoldable pub in_own_read : Own → Follower → Bool
in_own_read own (Hunting ones) = false
in_own_read own (Inside seen bits) = leb header_bits seen && (leb seen (frame_bits - 1) && answers (header_seen seen bits) own)

-- "a captured word, of any value, only in an own read (..), else 0"
abbrev pub captured_sound : Phy → Bool
captured_sound p = in_own_read p.own p.follower || eqb p.captured 0

-- all that "A sound board" asks of one PHY beside its record
unfoldable pub phy_sound : Phy → Bool
phy_sound p =
    registers_stand p
    && (status_stands p
    && (control_sound p
    && (reset_stands p
    && (complete_negotiates p && (held_link_up p && (follower_sound p.follower && captured_sound p))))))

-- "unused places blank (numbers zero, hunting with 0 ones, link down)"
abbrev pub zeros : List ℕ → Bool
zeros words = every register_count (λ r. eqb (word words r) 0)

abbrev pub hunts_fresh : Follower → Bool
hunts_fresh (Hunting ones) = eqb ones 0
hunts_fresh (Inside seen bits) = false

unfoldable pub is_blank : Phy → Bool
is_blank p =
    eqb p.own.address 0
    && (eqb p.own.implemented 0
    && (zeros p.defaults
    && (zeros p.masks
    && (zeros p.registers && (not p.link && (hunts_fresh p.follower && eqb p.captured 0))))))

abbrev pub nobody : Own
nobody = record { address = 0; implemented = 0 }

unfoldable pub blank : Phy
blank = fresh nobody (replicate 32 0) (replicate 32 0)

-- what a list of PHYs reads past its end, where no PHY stands
abbrev pub nowhere : Phy
nowhere = fresh nobody [] []
