-- Bits outside a mask stand as in another word exactly if the bits that differ are all in the mask: digit by digit.
use Prim.Native.Nat.{ℕ, zero, suc, ◌+◌, ◌*◌, ◌/◌, ◌%◌, ◌^◌, ◌<◌, max}
use mathlib.Core.Bool.{Bool, ◌&&◌, ◌||◌}
use mathlib.Core.Path.{◌≡◌, refl, ap, ap₂, sym, ◌∙◌}
use native.Mathlib.Omega.{arith}
use native.Mathlib.Nat.{pow-suc, div-one, add_comm, div-add-mod'}
use native.Mathlib.Numerals.{add-one}
use native.Mathlib.Decide.{ℕ_discrete}
use lib.Bits.{bit_or, bit_xor, or_step, xor_shr, xor_mod}
use lib.Pow.{shr-shr}
use lib.Dec.{eqb}
use borrow.Author.Tests.{eq-eqb, ne_eqb}
use Rattle.verdict.specs.Bits.{bit}
use Rattle.phy.specs.Abilities.{one}
use Rattle.phy.specs.Record.{every}
use Rattle.phy.specs.Sound.{stands_outside}
use Rattle.phy.proofs.Every.{every-cons, every-ext}

-- two numbers of two digits, the lower one binary
eqb-digits : (a b c d : ℕ) → b < 2 → d < 2 → eqb (a * 2 + b) (c * 2 + d) ≡ eqb b d && eqb a c
eqb-digits a b c d hb hd = go (ℕ_discrete b d) (ℕ_discrete a c)
  where
    go : Dec (b ≡ d) → Dec (a ≡ c) → eqb (a * 2 + b) (c * 2 + d) ≡ eqb b d && eqb a c
    go (yes p) (yes q) = rw (p, q, eq-eqb d d refl, eq-eqb c c refl) (eq-eqb (c * 2 + d) (c * 2 + d) refl)
    go (yes p) (no q) = rw (eq-eqb b d p, ne_eqb a c q) (ne_eqb (a * 2 + b) (c * 2 + d) (λ e. q (omega arith)))
    go (no p) q = rw (ne_eqb b d p) (ne_eqb (a * 2 + b) (c * 2 + d) (λ e. p (omega arith)))

-- the rule at one digit
digit : (m v d : ℕ) → m < 2 → v < 2 → d < 2 → eqb (max (bit_xor v d) m) m ≡ eqb m 1 || eqb v d
digit zero zero zero hm hv hd = refl
digit zero zero (suc zero) hm hv hd = refl
digit zero (suc zero) zero hm hv hd = refl
digit zero (suc zero) (suc zero) hm hv hd = refl
digit (suc zero) zero zero hm hv hd = refl
digit (suc zero) zero (suc zero) hm hv hd = refl
digit (suc zero) (suc zero) zero hm hv hd = refl
digit (suc zero) (suc zero) (suc zero) hm hv hd = refl
digit (suc (suc m)) v d hm hv hd = absurd (omega arith)
digit zero (suc (suc v)) d hm hv hd = absurd (omega arith)
digit (suc zero) (suc (suc v)) d hm hv hd = absurd (omega arith)
digit zero zero (suc (suc d)) hm hv hd = absurd (omega arith)
digit zero (suc zero) (suc (suc d)) hm hv hd = absurd (omega arith)
digit (suc zero) zero (suc (suc d)) hm hv hd = absurd (omega arith)
digit (suc zero) (suc zero) (suc (suc d)) hm hv hd = absurd (omega arith)

-- a higher digit is the digit of the half
bit-half : (i w : ℕ) → bit (suc i) w ≡ bit i (w / 2)
bit-half i w = ap (λ (x : ℕ). x % 2) (sym (shr-shr w 1 i ∙ ap (λ (k : ℕ). w / 2 ^ k) (add_comm 1 i ∙ add-one i)))

-- bit 0 is the digit itself
bit-zero : (w : ℕ) → bit 0 w ≡ w % 2
bit-zero w = ap (λ (x : ℕ). x % 2) (div-one w)

-- whether bit i is in the mask or stands
stands : ℕ → ℕ → ℕ → ℕ → Bool
stands m v d i = one i m || eqb (bit i v) (bit i d)

stands-zero : (m v d : ℕ) → stands m v d 0 ≡ eqb (m % 2) 1 || eqb (v % 2) (d % 2)
unfolding stands
stands-zero m v d = rw (bit-zero m, bit-zero v, bit-zero d)

stands-half : (m v d i : ℕ) → stands m v d (suc i) ≡ stands (m / 2) (v / 2) (d / 2) i
unfolding stands
stands-half m v d i = rw (bit-half i m, bit-half i v, bit-half i d)

outside : (n m v d : ℕ) → m < 2 ^ n → v < 2 ^ n → d < 2 ^ n → eqb (bit_or (bit_xor v d) m) m ≡ every n (stands m v d)
unfolding every
outside zero m v d hm hv hd =
    let m0 : m ≡ 0 = omega arith in
    let v0 : v ≡ 0 = omega arith in
    let d0 : d ≡ 0 = omega arith in
    rw (m0, v0, d0)
outside (suc n) m v d hm hv hd =
    let double : 2 ^ suc n ≡ 2 ^ n * 2 = pow-suc 2 n in
    let low : ℕ = bit_xor v d % 2 in
    let within : low < 2 = omega arith in
    let digits = max low (m % 2) in
    let split : eqb (bit_or (bit_xor v d) m) m ≡ eqb (bit_or (bit_xor v d / 2) (m / 2) * 2 + digits) (m / 2 * 2 + m % 2) =
    ap₂ eqb (or_step (bit_xor v d) m) (sym (div-add-mod' m 2)) in
    let here : eqb digits (m % 2) ≡ stands m v d 0 =
    rw (xor_mod v d 1) (digit (m % 2) (v % 2) (d % 2) (omega arith) (omega arith) (omega arith)) ∙ sym (stands-zero m v d) in
    let above : eqb (bit_or (bit_xor v d / 2) (m / 2)) (m / 2) ≡ every n (λ i. stands m v d (suc i)) =
    rw (xor_shr v d 1) (outside n (m / 2) (v / 2) (d / 2) (omega arith) (omega arith) (omega arith))
    ∙ every-ext n _ _ (λ i l. sym (stands-half m v d i)) in
    split
    ∙ eqb-digits (bit_or (bit_xor v d / 2) (m / 2)) digits (m / 2) (m % 2) (omega arith) (omega arith)
    ∙ ap₂ ◌&&◌ here above
    ∙ sym (every-cons n (stands m v d))

pub stands-outside : (m v d : ℕ) → m < 2 ^ 16 → v < 2 ^ 16 → d < 2 ^ 16 → eqb (bit_or (bit_xor v d) m) m ≡ stands_outside m v d
unfolding stands_outside stands
stands-outside m v d hm hv hd = outside 16 m v d hm hv hd
