-- The code's masks (`&`, `|`) as bits of a word: a mask is taken apart from its highest bit down.
use Prim.Native.Nat.{ℕ, zero, suc, ◌+◌, ◌-◌, ◌*◌, ◌/◌, ◌%◌, ◌^◌, ◌≤◌, ◌<◌}
use mathlib.Core.Path.{◌≡◌, refl, sym, ap, ap₂, ◌∙◌}
use mathlib.Core.Bool.{Bool, true, false, not, ◌&&◌, ◌||◌, cond, or_assoc, or-false, not-not}
use mathlib.Core.List.{List, [], ◌∷◌}
use native.Mathlib.Omega.{arith}
use lib.ListN.{length, get_or}
use native.Mathlib.Nat.{zero-mul, zero-add, one-mul, add-zero, mod-lt, mod-one, mod-eq_of_lt, pow-suc, add_comm, mul_assoc, div-one}
use native.Mathlib.Numerals.{add-one}
use native.Mathlib.Decide.{ℕ_discrete}
use lib.Dec.{T, eqb, ltb, ltb→lt}
use lib.Pow.{pow_pos, pow-lt, split, high, low, field, mod-mod-pow, mod-pow-add, shr-shr}
use lib.Bits.{bit_and, bit_or, and_block, and_mask, and_zero_r, and_le_l, or_add_and, or_lt}
use borrow.Author.Tests.{ne_eqb}
use Rattle.std.proofs.lemmas.Nat.{and-not, and_comm, and_assoc}
use Rattle.std.proofs.lemmas.Grind.{and-not_self}
use Rattle.verdict.specs.Bits.{bit, shift_in}
use Rattle.phy.specs.Abilities.{one}
use Rattle.phy.specs.Words.{word_of, set_bit, clear_bit}

pub bit-lt : (i w : ℕ) → bit i w < 2
bit-lt i w = mod-lt (w / 2 ^ i) (omega arith)

-- a mask below bit i looks only below bit i
and_low : (i m w : ℕ) → m < 2 ^ i → bit_and w m ≡ bit_and (w % 2 ^ i) m
and_low i m w below =
    ap₂ bit_and (sym (split w i)) (sym (ap (λ (x : ℕ). x + m) (zero-mul (2 ^ i)) ∙ zero-add m))
    ∙ and_block i (w / 2 ^ i) 0 (w % 2 ^ i) m (mod-lt w (pow_pos i)) below
    ∙ ap (λ (x : ℕ). x * 2 ^ i + bit_and (w % 2 ^ i) m) (and_zero_r (w / 2 ^ i))
    ∙ ap (λ (x : ℕ). x + bit_and (w % 2 ^ i) m) (zero-mul (2 ^ i))
    ∙ zero-add (bit_and (w % 2 ^ i) m)

-- a mask's highest bit and the rest
pub and-cons : (i m w : ℕ) → m < 2 ^ i → bit_and w (2 ^ i + m) ≡ bit i w * 2 ^ i + bit_and w m
and-cons i m w below =
    ap₂ bit_and (sym (split w i)) (ap (λ (x : ℕ). x + m) (sym (one-mul (2 ^ i))))
    ∙ and_block i (w / 2 ^ i) 1 (w % 2 ^ i) m (mod-lt w (pow_pos i)) below
    ∙ ap₂ (λ (x y : ℕ). x * 2 ^ i + y) (and_mask (w / 2 ^ i) 1) (sym (and_low i m w below))

-- a mask of one bit
pub and-bit : (i w : ℕ) → bit_and w (2 ^ i) ≡ bit i w * 2 ^ i
and-bit i w =
    ap (bit_and w) (sym (add-zero (2 ^ i))) ∙ and-cons i 0 w (pow_pos i)
    ∙ ap (λ (x : ℕ). bit i w * 2 ^ i + x) (and_zero_r w) ∙ add-zero (bit i w * 2 ^ i)

-- `word & !mask`: what the mask does not keep
pub and_rest : (m w : ℕ) → m < 2 ^ 16 → w < 2 ^ 16 → bit_and w (65535 - m) ≡ w - bit_and w m
and_rest m w h l = omega (arith, and-not 16 m w h l, and_comm w (65535 - m), and_comm w m)

-- `word | bit` and `word - (word & bit)`
pub or-bit : (i w : ℕ) → bit_or w (2 ^ i) ≡ set_bit i w
or-bit i w = go (bit i w) (bit-lt i w) (or_add_and w (2 ^ i)) (and-bit i w)
  where
    go : (b : ℕ) → b < 2 → bit_or w (2 ^ i) + bit_and w (2 ^ i) ≡ w + 2 ^ i → bit_and w (2 ^ i) ≡ b * 2 ^ i → bit_or w (2 ^ i) ≡ w + (1 - b) * 2 ^ i
    go zero h sum and = simp one-mul (omega (arith, and ∙ zero-mul (2 ^ i)))
    go (suc zero) h sum and = simp zero-mul (omega (arith, and ∙ one-mul (2 ^ i)))
    go (suc (suc b)) h sum and = absurd (omega arith)

pub clear-bit : (i w : ℕ) → w - bit_and w (2 ^ i) ≡ clear_bit i w
clear-bit i w = ap (λ (x : ℕ). w - x) (and-bit i w)

-- `word & !bit`
pub clear-rest : (i w : ℕ) → 2 ^ i < 2 ^ 16 → w < 2 ^ 16 → bit_and w (65535 - 2 ^ i) ≡ clear_bit i w
clear-rest i w h l = and_rest (2 ^ i) w h l ∙ clear-bit i w

-- the tests `word & bit != 0` and `word & bit == 0`
pub one-true : (i w : ℕ) → (bit_and w (2 ^ i) ≡ 0 → ⊥) → one i w ≡ true
one-true i w some = go (bit i w) (bit-lt i w) (and-bit i w)
  where
    go : (b : ℕ) → b < 2 → bit_and w (2 ^ i) ≡ b * 2 ^ i → eqb b 1 ≡ true
    go zero h and = absurd (some (and ∙ zero-mul (2 ^ i)))
    go (suc zero) h and = refl
    go (suc (suc b)) h and = absurd (omega arith)

pub one-false : (i w : ℕ) → bit_and w (2 ^ i) ≡ 0 → one i w ≡ false
one-false i w none = go (bit i w) (bit-lt i w) (and-bit i w)
  where
    go : (b : ℕ) → b < 2 → bit_and w (2 ^ i) ≡ b * 2 ^ i → eqb b 1 ≡ false
    go zero h and = refl
    go (suc zero) h and = absurd (omega (arith, and ∙ one-mul (2 ^ i), none, pow_pos i))
    go (suc (suc b)) h and = absurd (omega arith)

-- a mask by its bits, highest first; each is above the mask of those after it
abbrev pub mask_of : List ℕ → ℕ
mask_of [] = 0
mask_of (i ∷ is) = 2 ^ i + mask_of is

abbrev pub falling : List ℕ → Bool
falling [] = true
falling (i ∷ is) = ltb (mask_of is) (2 ^ i) && falling is

-- the bits of a word that a mask keeps
abbrev pub kept_of : List ℕ → ℕ → ℕ
kept_of [] w = 0
kept_of (i ∷ is) w = bit i w * 2 ^ i + kept_of is w

abbrev pub any_or : List ℕ → ℕ → Bool → Bool
any_or [] w x = x
any_or (i ∷ is) w x = one i w || any_or is w x

split-falling : (a b : Bool) → T (a && b) → T a × T b
split-falling true b t = (tt, t)
split-falling false b t = absurd t

-- `word & mask`
pub and-mask-of : (is : List ℕ) (w : ℕ) → T (falling is) → bit_and w (mask_of is) ≡ kept_of is w
and-mask-of [] w t = and_zero_r w
and-mask-of (i ∷ is) w t =
    let parts = split-falling (ltb (mask_of is) (2 ^ i)) (falling is) t in
    and-cons i (mask_of is) w (ltb→lt (mask_of is) (2 ^ i) parts.0)
    ∙ ap (λ (x : ℕ). bit i w * 2 ^ i + x) (and-mask-of is w parts.1)

-- `word & mask != 0`, or something else
pub has-any : (is : List ℕ) (w : ℕ) (x : Bool) → T (falling is) → (not (eqb (bit_and w (mask_of is)) 0) || x) ≡ any_or is w x
has-any is w x t = ap (λ (n : ℕ). not (eqb n 0) || x) (and-mask-of is w t) ∙ go is
  where
    bit-or : (i n b : ℕ) → b < 2 → not (eqb (b * 2 ^ i + n) 0) ≡ (eqb b 1 || not (eqb n 0))
    bit-or i n zero h = simp (zero-mul, zero-add)
    bit-or i n (suc zero) h = rw (one-mul, ne_eqb (2 ^ i + n) 0 (λ none. omega (arith, none, pow_pos i)))
    bit-or i n (suc (suc b)) h = absurd (omega arith)

    go : (is : List ℕ) → (not (eqb (kept_of is w) 0) || x) ≡ any_or is w x
    go [] = refl
    go (i ∷ is) =
        ap (λ (b : Bool). b || x) (bit-or i (kept_of is w) (bit i w) (bit-lt i w))
        ∙ or_assoc (one i w) (not (eqb (kept_of is w) 0)) x
        ∙ ap (λ (b : Bool). one i w || b) (go is)

-- a mask alone
pub has-these : (is : List ℕ) (w : ℕ) → T (falling is) → not (eqb (bit_and w (mask_of is)) 0) ≡ any_or is w false
has-these is w t = sym (or-false (not (eqb (bit_and w (mask_of is)) 0))) ∙ has-any is w false t

pub has-bit : (i w : ℕ) → not (eqb (bit_and w (2 ^ i)) 0) ≡ one i w
has-bit i w = ap (λ (x : ℕ). not (eqb x 0)) (and-bit i w) ∙ go (bit i w) (bit-lt i w)
  where
    go : (b : ℕ) → b < 2 → not (eqb (b * 2 ^ i) 0) ≡ eqb b 1
    go zero h = simp zero-mul
    go (suc zero) h = rw (one-mul, ne_eqb (2 ^ i) 0 (λ none. omega (arith, none, pow_pos i)))
    go (suc (suc b)) h = absurd (omega arith)

-- where a mask finds a bit, no other word is asked; where it finds none, the other word says
module _ (is : List ℕ) (w : ℕ) (x : Bool) (t : T (falling is)) where
  pub has-first : (bit_and w (mask_of is) ≡ 0 → ⊥) → any_or is w x ≡ true
  has-first some = sym (has-any is w x t) ∙ rw (ne_eqb (bit_and w (mask_of is)) 0 some)

  pub has-rest : bit_and w (mask_of is) ≡ 0 → any_or is w x ≡ x
  has-rest none = sym (has-any is w x t) ∙ rw none

-- and the other way round, `word & mask == 0`
abbrev pub none_of : List ℕ → ℕ → Bool
none_of [] w = true
none_of (i ∷ is) w = not (one i w) && none_of is w

pub has-none : (is : List ℕ) (w : ℕ) → T (falling is) → eqb (bit_and w (mask_of is)) 0 ≡ none_of is w
has-none is w t = sym (not-not (eqb (bit_and w (mask_of is)) 0)) ∙ ap not (has-these is w t) ∙ go is
  where
    not-or : (a b : Bool) → not (a || b) ≡ (not a && not b)
    not-or true b = refl
    not-or false b = refl

    go : (is : List ℕ) → not (any_or is w false) ≡ none_of is w
    go [] = refl
    go (i ∷ is) = not-or (one i w) (any_or is w false) ∙ ap (λ (b : Bool). not (one i w) && b) (go is)

pub has-no-bit : (i w : ℕ) → eqb (bit_and w (2 ^ i)) 0 ≡ not (one i w)
has-no-bit i w = sym (not-not (eqb (bit_and w (2 ^ i)) 0)) ∙ ap not (has-bit i w)

-- Words bit by bit
pub word_of-lt : (n : ℕ) (f : ℕ → ℕ) → ((i : ℕ) → f i < 2) → word_of n f < 2 ^ n
unfolding word_of
word_of-lt zero f h = omega arith
word_of-lt (suc n) f h = rw pow-suc (go (f n) (h n) (word_of-lt n f h))
  where
    go : (b : ℕ) → b < 2 → word_of n f < 2 ^ n → b * 2 ^ n + word_of n f < 2 ^ n * 2
    go zero k l = rw zero-mul (omega arith)
    go (suc zero) k l = rw one-mul (omega arith)
    go (suc (suc b)) k l = absurd (omega arith)

-- "masked bits take the data, others stay": one bit more
mod-suc : (n w : ℕ) → w % 2 ^ suc n ≡ bit n w * 2 ^ n + w % 2 ^ n
mod-suc n w = ap (λ (k : ℕ). w % 2 ^ k) (sym (add-one n) ∙ add_comm n 1) ∙ mod-pow-add w 1 n

module _ (mask old word : ℕ) where
  abbrev pick : ℕ → ℕ
  pick i = cond (one i mask) (bit i word) (bit i old)

  merge : (n : ℕ) → old % 2 ^ n - bit_and old (mask % 2 ^ n) + bit_and word (mask % 2 ^ n) ≡ word_of n pick
  unfolding word_of
  merge zero = simp (mod-one, and_zero_r)
  merge (suc n) =
      rw (mod-suc n old, mod-suc n mask) (go (bit n mask) (bit-lt n mask) ∙ ap (λ (x : ℕ). pick n * 2 ^ n + x) (merge n))
    where
      below : mask % 2 ^ n < 2 ^ n
      below = mod-lt mask (pow_pos n)

      inside : bit_and old (mask % 2 ^ n) ≤ old % 2 ^ n
      inside = rw (and_low n (mask % 2 ^ n) old below) (and_le_l (old % 2 ^ n) (mask % 2 ^ n))

      go : (b : ℕ) → b < 2 → bit n old * 2 ^ n + old % 2 ^ n - bit_and old (b * 2 ^ n + mask % 2 ^ n) + bit_and word (b * 2 ^ n + mask % 2 ^ n)
          ≡ cond (eqb b 1) (bit n word) (bit n old) * 2 ^ n + (old % 2 ^ n - bit_and old (mask % 2 ^ n) + bit_and word (mask % 2 ^ n))
      go zero h = simp (zero-mul, zero-add) (omega (arith, inside))
      go (suc zero) h =
          rw (one-mul (2 ^ n), and-cons n (mask % 2 ^ n) old below, and-cons n (mask % 2 ^ n) word below) (omega arith)
      go (suc (suc b)) h = absurd (omega arith)

  -- `old - (old & mask) + (word & mask)`
  pub merge-word : (n : ℕ) → mask < 2 ^ n → old < 2 ^ n → old - bit_and old mask + bit_and word mask ≡ word_of n pick
  merge-word n m o =
      ap₂ (λ (x y : ℕ). x - bit_and old y + bit_and word y) (sym (mod-eq_of_lt o)) (sym (mod-eq_of_lt m)) ∙ merge n

  -- what a mask keeps of one word and leaves of another has no bit in common
  apart : mask < 2 ^ 16 → bit_and (bit_and old (65535 - mask)) (bit_and word mask) ≡ 0
  apart m =
      ap (bit_and (bit_and old (65535 - mask))) (and_comm word mask)
      ∙ sym (and_assoc word (bit_and old (65535 - mask)) mask)
      ∙ ap (λ (x : ℕ). bit_and x word) (and-not_self old 65535 mask mask refl (omega arith) refl)
      ∙ and_comm 0 word ∙ and_zero_r word

  -- the code's `old & !mask | word & mask`
  pub merge_word : mask < 2 ^ 16 → old < 2 ^ 16 → bit_or (bit_and old (65535 - mask)) (bit_and word mask) ≡ word_of 16 pick
  merge_word m o =
      let sum : bit_or (bit_and old (65535 - mask)) (bit_and word mask) ≡ old - bit_and old mask + bit_and word mask = omega (arith, or_add_and (bit_and old (65535 - mask)) (bit_and word mask), apart m, and_rest mask old m o) in
      sum ∙ merge-word 16 m o

  pub pick-lt : (i : ℕ) → pick i < 2
  pick-lt i = go (one i mask)
    where
      go : (t : Bool) → cond t (bit i word) (bit i old) < 2
      go true = bit-lt i word
      go false = bit-lt i old

  pub picked-lt : (n : ℕ) → word_of n pick < 2 ^ n
  picked-lt n = word_of-lt n pick pick-lt

-- One bit changed: the change of bit i + 1 is that of bit i in the word without its lowest bit
bit-suc : (j w : ℕ) → bit (suc j) w ≡ bit j (w / 2)
bit-suc j w = ap (λ (x : ℕ). x % 2) (ap (λ (k : ℕ). w / 2 ^ k) (sym (add-one j) ∙ add_comm j 1) ∙ sym (shr-shr w 1 j))

bit-zero : (w : ℕ) → bit 0 w ≡ w % 2
bit-zero w = ap (λ (x : ℕ). x % 2) (div-one w)

bit_le : (i w : ℕ) → bit i w * 2 ^ i ≤ w
bit_le i w = rw and-bit at (and_le_l w (2 ^ i))

module _ (change : ℕ → ℕ → ℕ) (halves : (i w : ℕ) → change (suc i) w ≡ change i (w / 2) * 2 + w % 2) where
  other-bit : ((w : ℕ) → change 0 w / 2 ≡ w / 2) → (i j w : ℕ) → (j ≡ i → ⊥) → bit j (change i w) ≡ bit j w
  other-bit first zero zero w h = absurd (h refl)
  other-bit first zero (suc j) w h = rw (bit-suc j (change 0 w), bit-suc j w, first w)
  other-bit first (suc i) zero w h = rw (bit-zero, bit-zero, halves i w) (omega arith)
  other-bit first (suc i) (suc j) w h =
      bit-suc j (change (suc i) w)
      ∙ ap (bit j) (ap (λ (x : ℕ). x / 2) (halves i w) ∙ digits-half (change i (w / 2)) w)
      ∙ other-bit first i j (w / 2) (λ e. h (ap suc e))
      ∙ sym (bit-suc j w)
    where
      digits-half : (a b : ℕ) → (a * 2 + b % 2) / 2 ≡ a
      digits-half a b = omega arith

  same_bit : (v : ℕ) → ((w : ℕ) → change 0 w % 2 ≡ v) → (i w : ℕ) → bit i (change i w) ≡ v
  same_bit v first zero w = bit-zero (change 0 w) ∙ first w
  same_bit v first (suc i) w =
      bit-suc i (change (suc i) w)
      ∙ ap (bit i) (ap (λ (x : ℕ). x / 2) (halves i w) ∙ digits-half (change i (w / 2)) w)
      ∙ same_bit v first i (w / 2)
    where
      digits-half : (a b : ℕ) → (a * 2 + b % 2) / 2 ≡ a
      digits-half a b = omega arith

set-halves : (i w : ℕ) → set_bit (suc i) w ≡ set_bit i (w / 2) * 2 + w % 2
set-halves i w = rw (bit-suc i w, pow-suc 2 i, ← mul_assoc) (omega arith)

clear_halves : (i w : ℕ) → clear_bit (suc i) w ≡ clear_bit i (w / 2) * 2 + w % 2
clear_halves i w = rw (bit-suc i w, pow-suc 2 i, ← mul_assoc) (omega (arith, bit_le i (w / 2)))

pub set_other : (i j w : ℕ) → (j ≡ i → ⊥) → bit j (set_bit i w) ≡ bit j w
set_other = other-bit set_bit set-halves (λ w. omega arith)

pub clear-other : (i j w : ℕ) → (j ≡ i → ⊥) → bit j (clear_bit i w) ≡ bit j w
clear-other = other-bit clear_bit clear_halves (λ w. omega arith)

pub set_same : (i w : ℕ) → bit i (set_bit i w) ≡ 1
set_same = same_bit set_bit set-halves 1 (λ w. omega arith)

pub clear-same : (i w : ℕ) → bit i (clear_bit i w) ≡ 0
clear-same = same_bit clear_bit clear_halves 0 (λ w. omega arith)

-- a word stays a word
pub clear-lt : (i n w : ℕ) → w < 2 ^ n → clear_bit i w < 2 ^ n
clear-lt i n w h = omega arith

pub set-lt : (i n w : ℕ) → i < n → w < 2 ^ n → set_bit i w < 2 ^ n
set-lt i n w h l = rw or-bit at (or_lt n w (2 ^ i) l (pow-lt h))

-- the bits of a word told bit by bit
bit-mod : (i k w : ℕ) → bit i (w % 2 ^ (k + 1 + i)) ≡ bit i w
bit-mod i k w = ap (λ (x : ℕ). x % 2) (field w (k + 1) i) ∙ mod-mod-pow (w / 2 ^ i) k 1

bit-low : (i n a l : ℕ) → i < n → l < 2 ^ n → bit i (a * 2 ^ n + l) ≡ bit i l
bit-low i n a l below small =
    let size : n - (i + 1) + 1 + i ≡ n = omega arith in
    sym (bit-mod i (n - (i + 1)) (a * 2 ^ n + l))
    ∙ ap (λ (k : ℕ). bit i ((a * 2 ^ n + l) % 2 ^ k)) size
    ∙ ap (bit i) (low a n small)

pub bit-word_of : (n : ℕ) (f : ℕ → ℕ) → ((i : ℕ) → f i < 2) → (i : ℕ) → i < n → bit i (word_of n f) ≡ f i
unfolding word_of
bit-word_of zero f h i l = absurd (omega arith)
bit-word_of (suc n) f h i l = go (ℕ_discrete i n) (bit-word_of n f h i)
  where
    go : Dec (i ≡ n) → (i < n → bit i (word_of n f) ≡ f i) → bit i (f n * 2 ^ n + word_of n f) ≡ f i
    go (yes e) earlier =
        rw e (ap (λ (x : ℕ). x % 2) (high (f n) n (word_of-lt n f h)) ∙ mod-eq_of_lt (h n))
    go (no e) earlier = bit-low i n (f n) (word_of n f) (omega arith) (word_of-lt n f h) ∙ earlier (omega arith)

-- the bits of a row, high bit first
abbrev pub Row : List ℕ → Type 0
Row [] = Unit
Row (b ∷ bs) = (b < 2) × Row bs

above-row : (i x : ℕ) (bs : List ℕ) → Row bs → bit (i + length bs) (shift_in x bs) ≡ bit i x
unfolding shift_in
above-row i x [] row = ap (λ (k : ℕ). bit k x) (add-zero i)
above-row i x (b ∷ bs) row =
    let place : i + suc (length bs) ≡ suc i + length bs = omega arith in
    let half : (x * 2 + b) / 2 ≡ x = omega arith in
    ap (λ (k : ℕ). bit k (shift_in (x * 2 + b) bs)) place
    ∙ above-row (suc i) (x * 2 + b) bs row.1
    ∙ bit-suc i (x * 2 + b)
    ∙ ap (bit i) half

pub row-bit : (x : ℕ) (bs : List ℕ) → Row bs → (i : ℕ) → i < length bs → bit i (shift_in x bs) ≡ get_or bs (length bs - (i + 1)) 0
unfolding shift_in
row-bit x [] row i below = absurd (omega arith)
row-bit x (b ∷ bs) row i below = go (ℕ_discrete i (length bs)) (row-bit (x * 2 + b) bs row.1 i)
  where
    go : Dec (i ≡ length bs) → (i < length bs → bit i (shift_in (x * 2 + b) bs) ≡ get_or bs (length bs - (i + 1)) 0)
        → bit i (shift_in (x * 2 + b) bs) ≡ get_or (b ∷ bs) (suc (length bs) - (i + 1)) 0
    go (yes e) later =
        let first : suc (length bs) - (i + 1) ≡ 0 = omega arith in
        let last : (x * 2 + b) % 2 ≡ b = omega arith in
        let place : i ≡ 0 + length bs = omega arith in
        ap (λ (k : ℕ). bit k (shift_in (x * 2 + b) bs)) place
        ∙ above-row 0 (x * 2 + b) bs row.1 ∙ bit-zero (x * 2 + b) ∙ last
        ∙ sym (ap (λ (k : ℕ). get_or (b ∷ bs) k 0) first)
    go (no e) later =
        let next : suc (length bs) - (i + 1) ≡ suc (length bs - (i + 1)) = omega arith in
        later (omega arith) ∙ sym (ap (λ (k : ℕ). get_or (b ∷ bs) k 0) next)
