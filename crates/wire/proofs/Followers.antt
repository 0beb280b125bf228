-- The follower goes by the levels alone: a frame is 32 bits, whoever it is for and however it starts.
use Prim.Native.Nat.{ℕ, suc, ◌+◌, ◌-◌, ◌/◌, ◌^◌, ◌≤◌, ◌<◌, min}
use mathlib.Core.Path.{◌≡◌, refl, ap, sym, subst, ◌∙◌}
use mathlib.Core.Bool.{Bool, true, false, cond}
use mathlib.Core.List.{List, [], ◌∷◌}
use native.Mathlib.Omega.{arith}
use native.Mathlib.Nat.{lt_of_lt_of_le}
use lib.Dec.{leb}
use lib.ListN.{length}
use lib.Pow.{pow_mono, shr-shr}
use borrow.Author.Tests.{leb-false, lt-leb}
use Rattle.wire.specs.declared.Follower.{Follower}
use Rattle.wire.specs.declared.Follower.TheVariants.{Hunting, Inside}
use Rattle.wire.specs.Follower.{one_more, follow, header_of, header_seen}

-- One bit more behind bits that leave room for it: those before it are as they were
module _ (k bits : ℕ) (fits : bits < 2 ^ k) (room : k ≤ 31) (level : Bool) where
  below : bits < 2 ^ 31
  below = lt_of_lt_of_le fits (pow_mono room)

  half : (level : Bool) → one_more bits level / 2 ≡ bits
  half true = omega (arith, below)
  half false = omega (arith, below)

  pub more-fits : one_more bits level < 2 ^ suc k
  more-fits = omega (arith, half level)

  -- a header stays what it is while the frame goes on
  pub header-stays : (seen : ℕ) → 14 ≤ seen → header_seen (suc seen) (one_more bits level) ≡ header_seen seen bits
  header-stays seen from =
      let place : suc seen - 14 ≡ 1 + (seen - 14) = omega arith in
      ap header_of
      (ap (λ (n : ℕ). one_more bits level / 2 ^ n) place
      ∙ sym (shr-shr (one_more bits level) 1 (seen - 14))
      ∙ ap (λ (x : ℕ). x / 2 ^ (seen - 14)) (half level))

-- what a clock makes of a follower: a fresh hunt, a frame's first bit, ones up to 32, or one bit more of a frame
pub follow-keeps : (P : Follower → Type 0) → P (Hunting 0) → P (Inside 1 0) → ((ones : ℕ) → P (Hunting (min (ones + 1) 32)))
    → ((level : Bool) (seen bits : ℕ) → P (Inside seen bits) → seen < 31 → P (Inside (seen + 1) (one_more bits level)))
    → (n : ℕ) (level : Bool) (f : Follower) → P f → P (follow n level f)
unfolding follow
follow-keeps P hunts starts ones more n true (Hunting k) p = ones k
follow-keeps P hunts starts ones more n false (Hunting k) p = go (leb n k)
  where
    go : (b : Bool) → P (cond b (Inside 1 0) (Hunting 0))
    go true = starts
    go false = hunts
follow-keeps P hunts starts ones more n level (Inside seen bits) p = go (leb 31 seen) refl
  where
    go : (b : Bool) → leb 31 seen ≡ b → P (cond b (Hunting 0) (Inside (seen + 1) (one_more bits level)))
    go true e = hunts
    go false e = more level seen bits p (leb-false 31 seen e)

-- "hunting with 0 to 32 ones, or inside a frame with 1 to 31 bits"
abbrev pub Within : Follower → Type 0
Within (Hunting ones) = ones ≤ 32
Within (Inside seen bits) = (1 ≤ seen) × (seen ≤ 31)

-- never more than 32 ones, never a 32nd bit inside
pub follow-within : (n : ℕ) (level : Bool) (f : Follower) → Within f → Within (follow n level f)
follow-within =
    follow-keeps Within (omega arith) (omega arith, omega arith) (λ ones. omega arith) (λ level seen bits h l. (omega arith, omega arith))

-- inside a frame each level is one bit more, and its last one ends it
pub goes_on : (n : ℕ) (level : Bool) (seen bits : ℕ) → seen < 31 → follow n level (Inside seen bits) ≡ Inside (seen + 1) (one_more bits level)
unfolding follow
goes_on n level seen bits more = rw (lt-leb 31 seen more)

pub ends : (n : ℕ) (level : Bool) (bits : ℕ) → follow n level (Inside 31 bits) ≡ Hunting 0
unfolding follow
ends n level bits = refl

-- a follower after some levels
pub follows : ℕ → List Bool → Follower → Follower
follows n [] f = f
follows n (level ∷ levels) f = follows n levels (follow n level f)

-- the bits seen after some more levels
abbrev pub shown : ℕ → List Bool → ℕ
shown bits [] = bits
shown bits (level ∷ levels) = shown (one_more bits level) levels

pub shown-fits : (levels : List Bool) (k bits : ℕ) → bits < 2 ^ k → k + length levels ≤ 32 → shown bits levels < 2 ^ (k + length levels)
shown-fits [] k bits fits room =
    let none : k ≡ k + 0 = omega arith in
    subst (λ (n : ℕ). bits < 2 ^ n) none fits
shown-fits (level ∷ levels) k bits fits room =
    let all : suc k + length levels ≡ k + suc (length levels) = omega arith in
    subst (λ (n : ℕ). shown (one_more bits level) levels < 2 ^ n) all
    (shown-fits levels (suc k) (one_more bits level) (more-fits k bits fits (omega arith) level) (omega arith))

-- no level of a frame starts another one, however few ones are enough: up to its last bit it is followed
pub stays-inside : (n : ℕ) (levels : List Bool) (seen bits : ℕ) → seen + length levels ≤ 31
    → follows n levels (Inside seen bits) ≡ Inside (seen + length levels) (shown bits levels)
unfolding follows
stays-inside n [] seen bits most =
    let none : seen ≡ seen + 0 = omega arith in
    ap (λ (k : ℕ). Inside k bits) none
stays-inside n (level ∷ levels) seen bits most =
    let one_more_lem : seen + 1 + length levels ≡ seen + suc (length levels) = omega arith in
    ap (follows n levels) (goes_on n level seen bits (omega arith))
    ∙ stays-inside n levels (seen + 1) (one_more bits level) (omega arith)
    ∙ ap (λ (k : ℕ). Inside k (shown (one_more bits level) levels)) one_more_lem

-- "A frame runs 32 bits, then hunting with 0 ones"
pub frame-ends : (n : ℕ) (levels : List Bool) (seen bits : ℕ) → seen ≤ 31 → seen + length levels ≡ 32
    → follows n levels (Inside seen bits) ≡ Hunting 0
unfolding follows
frame-ends n [] seen bits most all = absurd (omega arith)
frame-ends n (level ∷ []) seen bits most all =
    let last : seen ≡ 31 = omega arith in
    ap (λ (k : ℕ). follow n level (Inside k bits)) last ∙ ends n level bits
frame-ends n (level ∷ next ∷ levels) seen bits most all =
    ap (follows n (next ∷ levels)) (goes_on n level seen bits (omega arith))
    ∙ frame-ends n (next ∷ levels) (seen + 1) (one_more bits level) (omega arith) (omega arith)

-- so a frame is 32 bits whoever it is for and however it starts: its first bit, and any 31 more
pub frame-32 : (n : ℕ) (levels : List Bool) → length levels ≡ 31 → follows n levels (Inside 1 0) ≡ Hunting 0
frame-32 n levels e = frame-ends n levels 1 0 (omega arith) (omega arith)
