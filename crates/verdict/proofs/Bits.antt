-- Rows of bits: how long they are, what stands where, and what they say.
use Prim.Native.Nat.{ℕ, zero, suc, ◌+◌, ◌*◌, ◌-◌, ◌%◌, ◌^◌, ◌<◌}
use mathlib.Core.Path.{◌≡◌, refl, ap, ◌∙◌}
use mathlib.Core.List.{List, [], ◌∷◌, ◌++◌}
use native.Mathlib.Omega.{arith}
use native.Mathlib.Nat.{mod-eq_of_lt, pow-suc}
use lib.ListN.{length, get_or}
use lib.Pow.{mod-pow-add}
use Rattle.verdict.specs.Bits.{bit, bits, shift_in, value_of}
use Rattle.verdict.specs.Lists.{All}

pub length-bits : (n word : ℕ) → length (bits n word) ≡ n
unfolding bits
length-bits zero word = refl
length-bits (suc n) word = ap suc (length-bits n word)

-- "high bit first": the bit at place i, from 0, is bit n - 1 - i of the word
pub get_or-bits : (n word d i : ℕ) → i < n → get_or (bits n word) i d ≡ bit (n - (i + 1)) word
unfolding bits
get_or-bits zero word d i h = absurd (omega arith)
get_or-bits (suc n) word d zero h = ap (λ k. bit k word) (let e : n ≡ suc n - (0 + 1) = omega arith in e)
get_or-bits (suc n) word d (suc i) h =
    let e : n - (i + 1) ≡ suc n - (suc i + 1) = omega arith in
    get_or-bits n word d i (omega arith) ∙ ap (λ k. bit k word) e

pub bits_small : (n word : ℕ) → All (λ b. b < 2) (bits n word)
unfolding bits
bits_small zero word = tt
bits_small (suc n) word = (omega arith, bits_small n word)

pub shift_in-append : (number : ℕ) (xs ys : List ℕ) → shift_in number (xs ++ ys) ≡ shift_in (shift_in number xs) ys
unfolding shift_in
shift_in-append number [] ys = refl
shift_in-append number (x ∷ xs) ys = shift_in-append (number * 2 + x) xs ys

-- one more bit behind a row doubles what the row says
pub value-more : (word : ℕ) (row : List ℕ) (b : ℕ) → shift_in word (row ++ (b ∷ [])) ≡ shift_in word row * 2 + b
unfolding shift_in
value-more word row b = shift_in-append word row (b ∷ [])

-- n bits of a word come in behind a number
pub shift_in-bits : (n number word : ℕ) → shift_in number (bits n word) ≡ number * 2 ^ n + word % 2 ^ n
unfolding bits shift_in
shift_in-bits zero number word = omega arith
shift_in-bits (suc n) number word =
    let step : shift_in (number * 2 + bit n word) (bits n word) ≡ (number * 2 + bit n word) * 2 ^ n + word % 2 ^ n = shift_in-bits n (number * 2 + bit n word) word in
    let e : suc n ≡ 1 + n = omega arith in
    let top : word % 2 ^ suc n ≡ bit n word * 2 ^ n + word % 2 ^ n = ap (λ k. word % 2 ^ k) e ∙ mod-pow-add word 1 n in
    let double : number * 2 ^ suc n ≡ number * (2 ^ n * 2) = ap (λ k. number * k) (pow-suc 2 n) in
    omega arith

-- a number of n bits is what its bits say
pub value-of-bits : (n word : ℕ) → word < 2 ^ n → value_of (bits n word) ≡ word
value-of-bits n word fits = shift_in-bits n 0 word ∙ omega (arith, mod-eq_of_lt fits)
