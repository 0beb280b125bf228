-- A clock by the lines alone: what is heard of them is what the PHYs drive, and where none acts they follow by themselves.
use Prim.Native.Nat.{ℕ, zero, suc, ◌+◌, ◌*◌, ◌/◌, ◌%◌, ◌^◌}
use mathlib.Core.Path.{◌≡◌, refl, sym, ap, ap₂, ◌∙◌}
use mathlib.Core.Bool.{Bool, true, false, ◌&&◌, ◌||◌, cond, and-true, and_assoc}
use mathlib.Core.List.{List, [], ◌∷◌, map}
use native.Mathlib.Omega.{arith}
use lib.Dec.{leb, eqb}
use borrow.Author.Tests.{le-leb, eqb-true}
use Rattle.verdict.proofs.Elements.{map-then}
use Rattle.wire.specs.declared.Drive.{Drive}
use Rattle.wire.specs.declared.Drive.TheVariants.{Released, Driven}
use Rattle.wire.specs.declared.Follower.{Follower}
use Rattle.wire.specs.declared.Follower.TheVariants.{Hunting, Inside}
use Rattle.wire.specs.declared.Header.{Header}
use Rattle.wire.specs.Follower.{one_more, follow, header_of, header_seen}
use Rattle.wire.specs.Wire.{level_of, drivers}
use Rattle.phy.specs.declared.Phy.{Phy}
use Rattle.phy.specs.Fields.{with_line, with_follower, with_captured}
use Rattle.phy.specs.Own.{is_own, answers}
use Rattle.phy.specs.Clock.{enough, drives, after_frame, at_header, acts, clock}
use Rattle.phy.specs.Clock.{acts_in as Phy·acts_in}
use Rattle.phy.proofs.Headers.{unanswered, unstored, same-header, after_frame-silent}
use Rattle.wire_machine.specs.declared.line.Line.{Line}
use Rattle.wire_machine.specs.declared.hear.Heard.{Heard}
use Rattle.wire_machine.specs.Log.{is_driving, marked, mask_from, clock_record}
use Rattle.board.specs.Record.{addresses_of}
use Rattle.wire_machine.specs.Lines.{line_of, line_drives, acts_in, line_acts, captures, line_follows, onto, heard_station, hears_drive, hears, heard_from, record_of}

-- Of one PHY
-- a PHY without its line
abbrev pub bare : Phy → Phy
bare phy = with_line (Hunting 0) 0 phy

-- a line put back where nothing else changed
pub put_back : (p q : Phy) → bare q ≡ bare p → onto (line_of p) q ≡ p
put_back p q same = ap (with_line p.follower p.captured) same

same-frame : (bits : ℕ) (level : Bool) → header_seen 32 (one_more bits level) ≡ header_seen 32 (one_more bits false)
same-frame bits false = refl
same-frame bits true =
    let m = bits % 2 ^ 31 in
    let h : (m * 2 + 1) / 2 ^ 18 ≡ (m * 2) / 2 ^ 18 = omega arith in
    ap header_of h

header-silent : (header : Header) (phy : Phy) → answers header phy.own ≡ false → at_header header phy ≡ phy
unfolding at_header
header-silent header phy silent = rw silent

-- where a PHY does not act, its follower moves, and a frame's end captures nothing any more
pub quiet-clock : (level : Bool) (phy : Phy) → line_acts (line_of phy) ≡ false → clock level phy ≡ with_line (follow (enough phy) level phy.follower) (captures phy.follower phy.captured) phy
unfolding clock acts acts_in
quiet-clock level phy quiet = ap (with_follower (follow (enough phy) level phy.follower)) (go phy.follower quiet)
  where
    at-header : (bits : ℕ) → is_own 2 (header_seen 14 (one_more bits false)) phy.own ≡ false → at_header (header_seen 14 (one_more bits level)) phy ≡ phy
    at-header bits other = header-silent (header_seen 14 (one_more bits level)) phy (unanswered _ phy.own (same-header bits level 2 phy.own ∙ other))

    at-frame : (bits : ℕ) → is_own 1 (header_seen 32 (one_more bits false)) phy.own ≡ false → after_frame (header_seen 32 (one_more bits level)) (one_more bits level % 2 ^ 16) phy ≡ phy
    at-frame bits other = after_frame-silent _ phy _ (unstored _ phy.own (ap (λ h. is_own 1 h phy.own) (same-frame bits level) ∙ other))

    none_both : (seen : ℕ) {A : Type 0} → eqb seen 13 ≡ true → eqb seen 31 ≡ true → A
    none_both seen a b = absurd (omega (arith, eqb-true seen 13 a, eqb-true seen 31 b))

    by : (seen bits : ℕ) (a b : Bool) → cond a (is_own 2 (header_seen 14 (one_more bits false)) phy.own) (cond b (is_own 1 (header_seen 32 (one_more bits false)) phy.own) false) ≡ false → eqb seen 13 ≡ a → eqb seen 31 ≡ b → acts seen (one_more bits level) phy ≡ with_captured (cond b 0 phy.captured) phy
    by seen bits true true other e13 e31 = none_both seen e13 e31
    by seen bits true false other e13 e31 = rw e13 (at-header bits other)
    by seen bits false true other e13 e31 = rw (e13, e31) (ap (with_captured 0) (at-frame bits other))
    by seen bits false false other e13 e31 = rw (e13, e31)

    go : (f : Follower) → acts_in f (line_of phy) ≡ false → Phy·acts_in f level phy ≡ with_captured (captures f phy.captured) phy
    go (Hunting ones) e = refl
    go (Inside seen bits) e = by seen bits (eqb seen 13) (eqb seen 31) e refl refl

module _ (level : Bool) (phy : Phy) (quiet : line_acts (line_of phy) ≡ false) where
  pub quiet_line : line_follows level (line_of phy) ≡ line_of (clock level phy)
  unfolding line_follows enough
  quiet_line = sym (ap line_of (quiet-clock level phy quiet))

  pub quiet-bare : bare (clock level phy) ≡ bare phy
  quiet-bare = ap bare (quiet-clock level phy quiet)

-- Of all PHYs
level-from : (heard : Heard) (lines : List Line) → (heard_from heard lines).level ≡ heard.level && level_of (map line_drives lines)
unfolding heard_from hears_drive
level-from heard [] = sym (and-true heard.level)
level-from heard (line ∷ lines) = level-from (hears line heard) lines ∙ go (line_drives line)
  where
    go : (drive : Drive) → (hears_drive line.own.address drive heard).level && level_of (map line_drives lines) ≡ heard.level && level_of (drive ∷ map line_drives lines)
    go Released = refl
    go (Driven level) = and_assoc heard.level level (level_of (map line_drives lines))

station-from : (heard : Heard) (lines : List Line) → (heard_from heard lines).station ≡ heard.station
unfolding heard_from hears_drive
station-from heard [] = refl
station-from heard (line ∷ lines) = station-from (hears line heard) lines ∙ go (line_drives line)
  where
    go : (drive : Drive) → (hears_drive line.own.address drive heard).station ≡ heard.station
    go Released = refl
    go (Driven level) = refl

mask-from : (heard : Heard) (lines : List Line) → (heard_from heard lines).mask ≡ mask_from heard.mask (map (λ line. line.own.address) lines) (map line_drives lines)
unfolding heard_from hears_drive mask_from
mask-from heard [] = refl
mask-from heard (line ∷ lines) = mask-from (hears line heard) lines ∙ ap (λ m. mask_from m (map (λ line. line.own.address) lines) (map line_drives lines)) (go (line_drives line))
  where
    go : (drive : Drive) → (hears_drive line.own.address drive heard).mask ≡ marked heard.mask line.own.address drive
    go Released = refl
    go (Driven level) = refl

two-of : (k : ℕ) → leb 2 k || leb 1 k ≡ leb 2 (suc k)
two-of zero = refl
two-of (suc zero) = refl
two-of (suc (suc k)) = rw (le-leb 2 (suc (suc k)) (omega arith), le-leb 2 (suc (suc (suc k))) (omega arith))

several-from : (k : ℕ) (heard : Heard) (lines : List Line) → heard.some ≡ leb 1 k → heard.several ≡ leb 2 k → (heard_from heard lines).several ≡ leb 2 (k + drivers (map line_drives lines))
unfolding heard_from hears_drive
several-from k heard [] some several = several ∙ ap (leb 2) (let e : k ≡ k + 0 = omega arith in e)
several-from k heard (line ∷ lines) some several = go (line_drives line) (λ k heard. several-from k heard lines)
  where
    go : (drive : Drive) → ((k : ℕ) (heard : Heard) → heard.some ≡ leb 1 k → heard.several ≡ leb 2 k → (heard_from heard lines).several ≡ leb 2 (k + drivers (map line_drives lines)))
        → (heard_from (hears_drive line.own.address drive heard) lines).several ≡ leb 2 (k + drivers (drive ∷ map line_drives lines))
    go Released rest = rest k _ some several
    go (Driven level) rest =
        let one : true ≡ leb 1 (suc k) = sym (le-leb 1 (suc k) (omega arith)) in
        let two : heard.several || heard.some ≡ leb 2 (suc k) = ap₂ ◌||◌ several some ∙ two-of k in
        let e : suc k + drivers (map line_drives lines) ≡ k + suc (drivers (map line_drives lines)) = omega arith in
        rest (suc k) _ one two ∙ ap (leb 2) e

module _ (station : Drive) (phys : List Phy) where
  same-drives : map line_drives (map line_of phys) ≡ map drives phys
  same-drives = map-then line_drives line_of drives (λ phy. refl) phys

  same-addresses : map (λ line. line.own.address) (map line_of phys) ≡ addresses_of phys
  same-addresses = map-then (λ line. line.own.address) line_of (λ phy. phy.own.address) (λ phy. refl) phys

  abbrev pub heard_of : Heard
  heard_of = heard_from (heard_station station) (map line_of phys)

  -- the level is heard
  pub heard-level : heard_of.level ≡ level_of (station ∷ map drives phys)
  heard-level = level-from (heard_station station) (map line_of phys) ∙ ap (λ ds. (heard_station station).level && level_of ds) same-drives ∙ go station
    where
      go : (d : Drive) → (heard_station d).level && level_of (map drives phys) ≡ level_of (d ∷ map drives phys)
      go Released = refl
      go (Driven level) = refl

  heard-station : heard_of.station ≡ is_driving station
  heard-station = station-from (heard_station station) (map line_of phys) ∙ go station
    where
      go : (d : Drive) → (heard_station d).station ≡ is_driving d
      go Released = refl
      go (Driven level) = refl

  heard-several : heard_of.several ≡ leb 2 (drivers (station ∷ map drives phys))
  heard-several = go station ∙ ap (λ ds. leb 2 (drivers (station ∷ ds))) same-drives
    where
      go : (d : Drive) → (heard_from (heard_station d) (map line_of phys)).several ≡ leb 2 (drivers (d ∷ map line_drives (map line_of phys)))
      go Released = several-from 0 (heard_station Released) (map line_of phys) refl refl ∙ ap (leb 2) (let e : 0 + drivers (map line_drives (map line_of phys)) ≡ drivers (map line_drives (map line_of phys)) = omega arith in e)
      go (Driven level) = several-from 1 (heard_station (Driven level)) (map line_of phys) refl refl ∙ ap (leb 2) (let e : 1 + drivers (map line_drives (map line_of phys)) ≡ suc (drivers (map line_drives (map line_of phys))) = omega arith in e)

  heard-mask : heard_of.mask ≡ mask_from 0 (addresses_of phys) (map drives phys)
  heard-mask = mask-from (heard_station station) (map line_of phys) ∙ go station ∙ ap₂ (mask_from 0) same-addresses same-drives
    where
      go : (d : Drive) → mask_from (heard_station d).mask (map (λ line. line.own.address) (map line_of phys)) (map line_drives (map line_of phys)) ≡ mask_from 0 (map (λ line. line.own.address) (map line_of phys)) (map line_drives (map line_of phys))
      go Released = refl
      go (Driven level) = refl

  -- and the record that is written is the clock's
  pub heard-record : record_of heard_of ≡ clock_record (addresses_of phys) (station ∷ map drives phys)
  unfolding record_of clock_record
  heard-record = rw (heard-level, heard-station, heard-several, heard-mask)
