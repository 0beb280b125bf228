-- Document 01, "The PHY's follower": "Own read of an implemented register: (..) drives 0 for bit 16, the word for bits 17 to 32. (..) Own write: (..)". Who a frame is for, by what a PHY knows of itself.
use Rattle.std.specs.Prelude.{ℕ, Bool, ◌&&◌, cond, eqb, ltb}
use Rattle.frame.specs.List.{read, write}
use Rattle.wire.specs.declared.Drive.{Drive}
use Rattle.wire.specs.declared.Drive.TheVariants.{Released}
use Rattle.wire.specs.declared.Follower.{Follower}
use Rattle.wire.specs.declared.Follower.TheVariants.{Hunting, Inside}
use Rattle.wire.specs.declared.Header.{Header}
use Rattle.wire.specs.Follower.{our_start, header_seen, answering}
use Rattle.phy.specs.declared.own.Own.{Own}
use Rattle.phy.specs.Abilities.{one}

-- which addresses a PHY takes frames to
unfoldable pub takes : ℕ → Own → Bool
takes address own = eqb address own.address

-- whether a header is an own one with this op. Document 02, E2: "after a start of 00 the follower passes over the other 30 bits, driving and storing nothing"
abbrev pub is_own : ℕ → Header → Own → Bool
is_own op header own = eqb header.start our_start && (eqb header.op op && takes header.address own)

-- "registers 0 to 31": bit r of the mask for register r
unfoldable pub implements : ℕ → Own → Bool
implements r own = ltb r 32 && one r own.implemented

-- "Own read of an implemented register"
unfoldable pub answers : Header → Own → Bool
answers header own = is_own read header own && implements header.register own

-- "Own write"
unfoldable pub stores : Header → Own → Bool
stores header own = is_own write header own

-- what is driven in the next clock, by a PHY's follower and its captured word
unfoldable pub drives_in : Follower → ℕ → Own → Drive
drives_in (Hunting ones) captured own = Released
drives_in (Inside seen bits) captured own = cond (answers (header_seen seen bits) own) (answering seen captured) Released
