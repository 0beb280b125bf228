-- What Rust's types say of a PHY value, and the one sentence of a sound board that a reset rests on.
use Rattle.std.specs.Prelude.{ℕ, ◌^◌, ◌<◌, ◌≡◌, List, length, get_or}
use Rattle.verdict.specs.Bits.{bit}
use Rattle.wire.specs.declared.Follower.{Follower}
use Rattle.wire.specs.declared.Follower.TheVariants.{Hunting, Inside}
use Rattle.phy.specs.declared.own.Own.{Own}
use Rattle.phy.specs.declared.Phy.{Phy}
use Rattle.phy.specs.Fields.{register_of, default_of}

-- n words of 16 bits
pub record Words (n : ℕ) (words : List ℕ) : Type 0 where
  pub long : length words ≡ n
  pub small : (r : ℕ) → get_or words r 0 < 2 ^ 16

abbrev pub TypedFollower : Follower → Type 0
TypedFollower (Hunting ones) = ones < 2 ^ 8
TypedFollower (Inside seen bits) = (seen < 2 ^ 8) × (bits < 2 ^ 32)

pub record TypedOwn (own : Own) : Type 0 where
  pub address : own.address < 2 ^ 8
  pub implemented : own.implemented < 2 ^ 32

pub record TypedWords (phy : Phy) : Type 0 where
  pub defaults : Words 32 phy.defaults
  pub masks : Words 32 phy.masks
  pub registers : Words 32 phy.registers

-- every field within its type
pub record Typed (phy : Phy) : Type 0 where
  pub own : TypedOwn phy.own
  pub words : TypedWords phy
  pub follower : TypedFollower phy.follower
  pub captured : phy.captured < 2 ^ 16

-- "bits outside masks stand at default (..) as do all of register 1 but bits 5, 4, 2, 1"
abbrev pub StatusFixed : Phy → Type 0
StatusFixed phy =
    (i : ℕ) → i < 16 → (i ≡ 5 → ⊥) → (i ≡ 4 → ⊥) → (i ≡ 2 → ⊥) → (i ≡ 1 → ⊥) → bit i (register_of 1 phy) ≡ bit i (default_of 1 phy)

-- what reads, writes and events rest on, whatever the follower does: the words are words, and register 1 is fixed
pub record Steady (phy : Phy) : Type 0 where
  pub words : TypedWords phy
  pub fixed : StatusFixed phy
