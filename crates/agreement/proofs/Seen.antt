-- Bits on the wire: what the station sends is what is heard and seen.
use Prim.Native.Nat.{ℕ, zero, suc, ◌+◌, ◌*◌, ◌-◌, ◌^◌, ◌≤◌, ◌<◌}
use mathlib.Core.Path.{◌≡◌, refl, ap, ap₂, ◌∙◌}
use mathlib.Core.Bool.{Bool, true, false, cond, and-true}
use mathlib.Core.List.{List, [], ◌∷◌, map}
use native.Mathlib.Omega.{arith}
use native.Mathlib.Nat.{lt_of_lt_of_le}
use lib.ListN.{length, replicate}
use lib.Dec.{eqb}
use lib.Pow.{pow_mono}
use borrow.Author.Tests.{le-leb, ne_eqb}
use Rattle.verdict.specs.Bits.{bit, bits, shift_in}
use Rattle.verdict.specs.Lists.{All}
use Rattle.wire.specs.declared.Drive.{Drive}
use Rattle.wire.specs.declared.Drive.TheVariants.{Released, Driven}
use Rattle.wire.specs.Wire.{drivers, station_drive}
use Rattle.wire.specs.Follower.{one_more, answering}
use Rattle.wire.proofs.Followers.{shown}
use Rattle.agreement.specs.Levels.{ones}
use Rattle.agreement.proofs.Phase.{hears, Fits}

-- the station sends a row of bits while nobody answers: the row is heard
pub hears-row : (word n : ℕ) (row : List ℕ) → All (λ b. b < 2) row → hears false word n (map station_drive row) ≡ ones row
hears-row word n [] small = refl
hears-row word n (zero ∷ row) small = ap (λ ls. false ∷ ls) (hears-row word (suc n) row small.1)
hears-row word n (suc zero ∷ row) small = ap (λ ls. true ∷ ls) (hears-row word (suc n) row small.1)
hears-row word n (suc (suc b) ∷ row) small = absurd (omega (arith, small.0))

-- the station is silent while one party answers a word: the word is heard
pub hears-word : (word n k : ℕ) → n + k ≡ 32 → k ≤ 16 → hears true word n (replicate k Released) ≡ ones (bits k word)
unfolding answering bits
hears-word word n zero place few = refl
hears-word word n (suc k) place few =
    let here : 31 - n ≡ k = omega arith in
    rw (ne_eqb n 15 (omega arith), le-leb 16 n (omega arith), le-leb n 31 (omega arith), here)
    (ap₂ (λ l ls. l ∷ ls) (and-true (eqb (bit k word) 1)) (hears-word word (suc n) k (omega arith) (omega arith)))

-- a row of bits comes in behind the bits seen
pub shown-row : (k bits : ℕ) (row : List ℕ) → All (λ b. b < 2) row → bits < 2 ^ k → k + length row ≤ 32 → shown bits (ones row) ≡ shift_in bits row
unfolding shift_in
shown-row k bits [] small fits room = refl
shown-row k bits (b ∷ row) small fits room =
    ap (λ w. shown w (ones row)) (comes b small.0 (lt_of_lt_of_le fits (pow_mono {i = k} {j = 31} (omega arith))))
    ∙ shown-row (suc k) (bits * 2 + b) row small.1 (omega (arith, small.0)) (omega arith)
  where
    comes : (b : ℕ) → b < 2 → bits < 2 ^ 31 → one_more bits (eqb b 1) ≡ bits * 2 + b
    comes zero s l = omega arith
    comes (suc zero) s l = omega arith
    comes (suc (suc b)) s l = absurd (omega arith)

-- who may drive beside the station
pub nobody-fits : (ds : List Drive) → All (Fits false) ds
nobody-fits [] = tt
nobody-fits (Released ∷ ds) = (λ said. omega arith, nobody-fits ds)
nobody-fits (Driven l ∷ ds) = (λ said. omega arith, nobody-fits ds)

pub silent-fits : (someone : Bool) (k : ℕ) → All (Fits someone) (replicate k Released)
silent-fits someone zero = tt
silent-fits someone (suc k) = (alone someone, silent-fits someone k)
  where
    alone : (someone : Bool) (said : Drive) → drivers (Released ∷ cond someone said Released ∷ []) ≤ 1
    alone true Released = omega arith
    alone true (Driven l) = omega arith
    alone false said = omega arith

-- a read on the wire: turnaround and data of the one that answers, or of nobody
pub hears-read : (someone : Bool) (word : ℕ) → hears someone word 14 (replicate 18 Released) ≡ cond someone (true ∷ false ∷ ones (bits 16 word)) (replicate 18 true)
unfolding answering
hears-read true word = ap (λ ls. true ∷ false ∷ ls) (hears-word word 16 16 refl (omega arith))
hears-read false word = refl
