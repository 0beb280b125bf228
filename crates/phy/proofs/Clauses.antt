-- A sound PHY by its clauses, so that a law can use one and a proof can give them one by one.
use Prim.Native.Nat.{ℕ}
use mathlib.Core.Bool.{Bool, true, ◌&&◌}
use mathlib.Core.Path.{◌≡◌}
use Rattle.phy.specs.declared.Phy.{Phy}
use Rattle.phy.specs.Sound.{control_of, status_of, extended_of, registers_stand, status_stands, able_speed, negotiation_able, restart_negotiates, duplex_fixed, unidirection_able, reserved_clear, control_sound, reset_stands, complete_negotiates, held_link_up, follower_sound, captured_sound, phy_sound}
use Rattle.phy.proofs.Every.{both}

-- register 0's clauses, by its word and those of registers 1 and 15
pub record ControlClauses (control status extended : ℕ) : Type 0 where
  pub able-speed : able_speed control status extended ≡ true
  pub negotiation-able : negotiation_able control status extended ≡ true
  pub restart-negotiates : restart_negotiates control status extended ≡ true
  pub duplex-fixed : duplex_fixed control status extended ≡ true
  pub unidirection-able : unidirection_able control status extended ≡ true
  pub reserved-clear : reserved_clear control status extended ≡ true

-- the clauses that speak of registers and link
pub record Bank (p : Phy) : Type 0 where
  pub registers-stand : registers_stand p ≡ true
  pub status-stands : status_stands p ≡ true
  pub control : ControlClauses (control_of p) (status_of p) (extended_of p)
  pub reset-stands : reset_stands p ≡ true
  pub complete-negotiates : complete_negotiates p ≡ true
  pub held-link-up : held_link_up p ≡ true

pub record Clauses (p : Phy) : Type 0 where
  pub bank : Bank p
  pub follower-sound : follower_sound p.follower ≡ true
  pub captured-sound : captured_sound p ≡ true

-- six facts joined by `&&`, taken apart
all-six : (a b c d e f : Bool) → a && (b && (c && (d && (e && f)))) ≡ true → (a ≡ true) × (b ≡ true) × (c ≡ true) × (d ≡ true) × (e ≡ true) × (f ≡ true)
all-six a b c d e f h =
    let ha = both a (b && (c && (d && (e && f)))) h in
    let hb = both b (c && (d && (e && f))) ha.1 in
    let hc = both c (d && (e && f)) hb.1 in
    let hd = both d (e && f) hc.1 in
    let he = both e f hd.1 in
    (ha.0, hb.0, hc.0, hd.0, he.0, he.1)

module _ (p : Phy) where
  pub control-clauses : control_sound p ≡ true → ControlClauses (control_of p) (status_of p) (extended_of p)
  unfolding control_sound
  control-clauses h =
      let of : (ℕ → ℕ → ℕ → Bool) → Bool = λ clause. clause (control_of p) (status_of p) (extended_of p) in
      let all = all-six (of able_speed) (of negotiation_able) (of restart_negotiates) (of duplex_fixed) (of unidirection_able) (of reserved_clear) h in
      record {
        able-speed = all.0;
        negotiation-able = all.1;
        restart-negotiates = all.2;
        duplex-fixed = all.3;
        unidirection-able = all.4;
        reserved-clear = all.5;
      }

  pub clauses-control : ControlClauses (control_of p) (status_of p) (extended_of p) → control_sound p ≡ true
  unfolding control_sound
  clauses-control h =
      rw (h.able-speed, h.negotiation-able, h.restart-negotiates, h.duplex-fixed, h.unidirection-able, h.reserved-clear)

  pub sound-clauses : phy_sound p ≡ true → Clauses p
  unfolding phy_sound
  sound-clauses h =
      let later = held_link_up p && (follower_sound p.follower && captured_sound p) in
      let all = all-six (registers_stand p) (status_stands p) (control_sound p) (reset_stands p) (complete_negotiates p) later h in
      let link = both (held_link_up p) (follower_sound p.follower && captured_sound p) all.5 in
      let ends = both (follower_sound p.follower) (captured_sound p) link.1 in
      record {
        bank = record {
          registers-stand = all.0;
          status-stands = all.1;
          control = control-clauses all.2;
          reset-stands = all.3;
          complete-negotiates = all.4;
          held-link-up = link.0;
        };
        follower-sound = ends.0;
        captured-sound = ends.1;
      }

  pub clauses-sound : Clauses p → phy_sound p ≡ true
  unfolding phy_sound
  clauses-sound h =
      rw (
        h.bank.registers-stand,
        h.bank.status-stands,
        clauses-control h.bank.control,
        h.bank.reset-stands,
        h.bank.complete-negotiates,
        h.bank.held-link-up,
        h.follower-sound,
        h.captured-sound,
      )
