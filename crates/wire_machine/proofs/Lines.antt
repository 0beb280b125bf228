-- What a line tells of its PHY in a clock, the place of the line that has an address, and a step and a mask bit by bit.
use Prim.Native.Nat.{ℕ, zero, suc, ◌+◌, ◌*◌, ◌%◌, ◌^◌, ◌<◌}
use mathlib.Core.Path.{◌≡◌, refl, sym, ap, ◌∙◌}
use mathlib.Core.Bool.{Bool, false, cond}
use mathlib.Core.List.{List}
use lib.ListN.{length}
use borrow.Author.Tests.{lt-ltb}
use Rattle.std.specs.Prelude.{Option, Some}
use Rattle.std.specs.List.{position, position_or_len}
use native.Mathlib.Nat.{mod-eq_of_lt, one-mul}
use native.Mathlib.Omega.{arith}
use Rattle.std.proofs.lemmas.List.Recursion.{is_position_or_len}
use lib.Bits.{bit_or}
use lib.Dec.{eqb}
use lib.Pow.{pow-lt}
use Rattle.wire.specs.declared.Drive.TheVariants.{Released}
use Rattle.wire.specs.declared.Follower.{Follower}
use Rattle.wire.specs.declared.Follower.TheVariants.{Hunting, Inside}
use Rattle.wire.specs.Wire.{station_drive}
use Rattle.wire.specs.Follower.{one_more, header_seen}
use Rattle.phy.specs.Words.{set_bit}
use Rattle.phy.specs.Own.{is_own}
use Rattle.phy.proofs.Words.{or-bit}
use Rattle.wire_machine.specs.declared.line.Line.{Line}
use Rattle.between.specs.Happened.{first_of, found_at}
use Rattle.wire_machine.specs.Lines.{place_in, acts_in, line_acts}

-- whether the PHY acts in the next clock: never while its follower hunts
pub acts-hunting : (line : Line) (ones : ℕ) → line.follower ≡ Hunting ones → line_acts line ≡ false
unfolding acts_in
acts-hunting line ones e = ap (λ (f : Follower). acts_in f line) e

-- and inside a frame where the 14th bit ends an own read's header or the 32nd ends an own write
pub acts-inside : (line : Line) (seen bits : ℕ) → line.follower ≡ Inside seen bits → line_acts line ≡ cond (eqb seen 13) (is_own 2 (header_seen 14 (one_more bits false)) line.own) (cond (eqb seen 31) (is_own 1 (header_seen 32 (one_more bits false)) line.own) false)
unfolding acts_in
acts-inside line seen bits e = ap (λ (f : Follower). acts_in f line) e

-- a step that is neither 0 nor 1 drives nothing
pub station-released : (step : ℕ) → (step ≡ 0 → ⊥) → (step ≡ 1 → ⊥) → Released ≡ station_drive step
station-released zero n0 n1 = absurd (n0 refl)
station-released (suc zero) n0 n1 = absurd (n1 refl)
station-released (suc (suc step)) n0 n1 = refl

-- a mask of 32 bits with one bit more
pub mark_set : (mask address : ℕ) → address < 32 → bit_or mask (1 * 2 ^ address % 2 ^ 32) ≡ set_bit address mask
mark_set mask address h =
    let small : 2 ^ address < 2 ^ 32 = pow-lt h in
    let shifted : 1 * 2 ^ address % 2 ^ 32 ≡ 2 ^ address = ap (λ n. n % 2 ^ 32) (one-mul (2 ^ address)) ∙ mod-eq_of_lt small in
    ap (bit_or mask) shifted ∙ or-bit address mask

-- the first line that has an address, as a search finds it
module _ (address : ℕ) where
  abbrev asks : Line → Bool
  asks line = eqb address line.own.address

  first-position : (lines : List Line) → first_of asks lines ≡ position_or_len asks lines
  unfolding first_of
  first-position = is_position_or_len (first_of asks) asks refl (λ line lines. let next : suc (first_of asks lines) ≡ 1 + first_of asks lines = omega arith in ap (cond (asks line) 0) next)

  pub place-found : (lines : List Line) → position asks lines ≡ found_at (place_in lines address) lines
  place-found lines = ap (λ place. found_at place lines) (sym (first-position lines))

-- a place that is one of the list's is found
pub found-within : {A : Type 0} (place : ℕ) (xs : List A) (found : Option ℕ) → found ≡ found_at place xs → place < length xs → found ≡ Some place
found-within place xs found is within = is ∙ rw (lt-ltb place (length xs) within)
