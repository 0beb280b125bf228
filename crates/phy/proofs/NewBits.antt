-- The new bits of register 0 are bits, and the speed that two bits ask for is told by the mask of both.
use Prim.Native.Nat.{ℕ, zero, suc, ◌+◌, ◌-◌, ◌*◌, ◌^◌, ◌<◌}
use mathlib.Core.Path.{◌≡◌, refl, sym, ap, ◌∙◌}
use mathlib.Core.Bool.{Bool, true, false, not, cond, beq, true≢false, false≢true}
use mathlib.Core.List.{[], ◌∷◌}
use native.Mathlib.Omega.{arith}
use native.Mathlib.Nat.{zero-mul}
use lib.ListN.{get_or}
use lib.Dec.{eqb}
use lib.Bits.{bit_and}
use Rattle.verdict.specs.Bits.{bit, shift_in}
use Rattle.phy.specs.Abilities.{one, able_full, able_half}
use Rattle.phy.specs.Control.{duplex_bit, speed_from, new_bits, new_control, new_bit12, new_bit9, new_bit8, new_bit5}
use Rattle.phy.proofs.Words.{bit-lt, and-bit, and-mask-of, has-no-bit, row-bit}

-- a bit that is stored where another word has one, else zero
pub stored-where : (i j status word : ℕ) → cond (eqb (bit_and status (2 ^ i)) 0) 0 (bit_and word (2 ^ j)) ≡ cond (one i status) (bit j word) 0 * 2 ^ j
stored-where i j status word =
    ap (λ (t : Bool). cond t 0 (bit_and word (2 ^ j))) (has-no-bit i status) ∙ go (one i status)
  where
    go : (t : Bool) → cond (not t) 0 (bit_and word (2 ^ j)) ≡ cond t (bit j word) 0 * 2 ^ j
    go true = and-bit j word
    go false = sym (zero-mul (2 ^ j))

cond-lt : (test : Bool) (a b : ℕ) → a < 2 → b < 2 → cond test a b < 2
cond-lt true a b h l = h
cond-lt false a b h l = l

pub new_bit12-lt : (status word : ℕ) → new_bit12 status word < 2
unfolding new_bit12
new_bit12-lt status word = cond-lt (one 3 status) (bit 12 word) 0 (bit-lt 12 word) (omega arith)

pub new_bit9-lt : (status old word : ℕ) → new_bit9 status old word < 2
unfolding new_bit9
new_bit9-lt status old word =
    cond-lt (eqb (new_bit12 status word) 0) 0 (cond (one 9 word) 1 (bit 9 old)) (omega arith)
    (cond-lt (one 9 word) 1 (bit 9 old) (omega arith) (bit-lt 9 old))

duplex-lt : (full half : Bool) (b : ℕ) → b < 2 → duplex_bit full half b < 2
duplex-lt true false b h = omega arith
duplex-lt false true b h = omega arith
duplex-lt true true b h = h
duplex-lt false false b h = h

pub new_bit8-lt : (status extended word : ℕ) → new_bit8 status extended word < 2
unfolding new_bit8
new_bit8-lt status extended word = duplex-lt (able_full status extended) (able_half status extended) (bit 8 word) (bit-lt 8 word)

pub new_bit5-lt : (status word : ℕ) → new_bit5 status word < 2
unfolding new_bit5
new_bit5-lt status word = cond-lt (one 7 status) (bit 5 word) 0 (bit-lt 5 word) (omega arith)

-- what `word & SPEED` says of bits 6 and 13
two-bits : (x y a b : ℕ) → x < 2 → y < 2 → a < 2 → b < 2 → y * 8192 + (x * 64 + 0) ≡ b * 8192 + a * 64 → (x ≡ a) × (y ≡ b)
two-bits x zero a zero hx hy ha hb e = (omega arith, refl)
two-bits x zero a (suc b) hx hy ha hb e = absurd (omega arith)
two-bits x (suc y) a zero hx hy ha hb e = absurd (omega arith)
two-bits x (suc zero) a (suc zero) hx hy ha hb e = (omega arith, refl)
two-bits x (suc (suc y)) a (suc b) hx hy ha hb e = absurd (omega arith)
two-bits x (suc zero) a (suc (suc b)) hx hy ha hb e = absurd (omega arith)

pub speed-bits : (word a b : ℕ) → a < 2 → b < 2 → bit_and word 8256 ≡ b * 8192 + a * 64 → (one 6 word ≡ eqb a 1) × (one 13 word ≡ eqb b 1)
speed-bits word a b h l e =
    let both = two-bits (bit 6 word) (bit 13 word) a b (bit-lt 6 word) (bit-lt 13 word) h l (sym (and-mask-of (13 ∷ 6 ∷ []) word tt) ∙ e) in
    (ap (λ (x : ℕ). eqb x 1) both.0, ap (λ (x : ℕ). eqb x 1) both.1)

pub speed-eleven : (word : ℕ) → (bit_and word 8256 ≡ 0 → ⊥) → (bit_and word 8256 ≡ 8192 → ⊥) → (bit_and word 8256 ≡ 64 → ⊥)
    → (one 6 word ≡ true) × (one 13 word ≡ true)
speed-eleven word ten hundred thousand =
    go (bit 6 word) (bit 13 word) (bit-lt 6 word) (bit-lt 13 word) (and-mask-of (13 ∷ 6 ∷ []) word tt)
  where
    go : (x y : ℕ) → x < 2 → y < 2 → bit_and word 8256 ≡ y * 8192 + (x * 64 + 0) → (eqb x 1 ≡ true) × (eqb y 1 ≡ true)
    go zero zero hx hy e = absurd (ten e)
    go zero (suc zero) hx hy e = absurd (hundred e)
    go (suc zero) zero hx hy e = absurd (thousand e)
    go (suc zero) (suc zero) hx hy e = (refl, refl)
    go (suc (suc x)) y hx hy e = absurd (omega arith)
    go zero (suc (suc y)) hx hy e = absurd (omega arith)
    go (suc zero) (suc (suc y)) hx hy e = absurd (omega arith)

-- "else stored": a bit that both duplexes or none are able to have
pub duplex-stored : (full half : Bool) (b : ℕ) → full ≡ half → duplex_bit full half b ≡ b
duplex-stored true true b h = refl
duplex-stored false false b h = refl
duplex-stored true false b h = absurd (true≢false h)
duplex-stored false true b h = absurd (false≢true h)

-- "fixed if only one duplex is able": by full
pub duplex-fixed : (full half : Bool) (b : ℕ) → beq full half ≡ false → duplex_bit full half b ≡ cond full 1 0
duplex-fixed true false b h = refl
duplex-fixed false true b h = refl
duplex-fixed true true b h = absurd (true≢false h)
duplex-fixed false false b h = absurd (true≢false h)

-- the parts that the code adds up are the new word, which fits
pub control_parts : (status extended old word : ℕ)
    → (bit_and word 19584
    + (bit 13 (speed_from status extended old word) * 8192 + bit 6 (speed_from status extended old word) * 64)
    + new_bit12 status word * 4096 + new_bit9 status old word * 512 + new_bit8 status extended word * 256
    + new_bit5 status word * 32
    ≡ new_control status extended old word)
    × (new_control status extended old word < 65536)
unfolding new_control shift_in
control_parts status extended old word =
    let stored = and-mask-of (14 ∷ 11 ∷ 10 ∷ 7 ∷ []) word tt in
    let b12 = new_bit12-lt status word in
    let b9 = new_bit9-lt status old word in
    let b8 = new_bit8-lt status extended word in
    let b5 = new_bit5-lt status word in
    (omega arith, omega arith)

-- each bit of the new word stands in the row of its bits
pub new_control-bit : (status extended old word i : ℕ) → i < 16
    → bit i (new_control status extended old word) ≡ get_or (new_bits status extended old word) (15 - i) 0
unfolding new_control
new_control-bit status extended old word i below =
    let speed = speed_from status extended old word in
    let none : 0 < 2 = omega arith in
    let place : 16 - (i + 1) ≡ 15 - i = omega arith in
    row-bit 0 (new_bits status extended old word) (
      none,
      (
        bit-lt 14 word,
        (
          bit-lt 13 speed,
          (
            new_bit12-lt status word,
            (
              bit-lt 11 word,
              (
                bit-lt 10 word,
                (
                  new_bit9-lt status old word,
                  (
                    new_bit8-lt status extended word,
                    (bit-lt 7 word, (bit-lt 6 speed, (new_bit5-lt status word, (none, (none, (none, (none, (none, tt)))))))),
                  ),
                ),
              ),
            ),
          ),
        ),
      ),
    )
    i below
    ∙ ap (λ (j : ℕ). get_or (new_bits status extended old word) j 0) place
