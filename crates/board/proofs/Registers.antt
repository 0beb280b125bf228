-- Words of registers that are compared at once: `==` is the test of every place.
use Prim.Native.Nat.{ℕ, zero, suc, ◌+◌, ◌-◌}
use mathlib.Core.Bool.{◌&&◌, ◌||◌}
use mathlib.Core.List.{List, [], ◌∷◌}
use mathlib.Core.Path.{◌≡◌, refl, ap, sym, ◌∙◌}
use native.Mathlib.Omega.{arith}
use lib.Dec.{eqb, leb, leb-suc-zero}
use lib.ListN.{length, take, drop, replicate, length-drop, length-replicate, get_or-replicate}
use Rattle.std.proofs.lemmas.List.{take_all}
use lib.Pointwise.{pointwise}
use lib.Seq.{get_or-drop}
use Rattle.phy.specs.Record.{every, word}
use Rattle.phy.specs.Sound.{zeros}
use Rattle.phy.proofs.Every.{every-cons, every-ext}

pub same-words : (n : ℕ) (xs ys : List ℕ) → length xs ≡ n → length ys ≡ n → pointwise eqb xs ys ≡ every n (λ r. eqb (word xs r) (word ys r))
unfolding every
same-words zero [] [] p q = refl
same-words zero [] (y ∷ ys) p q = absurd (omega arith)
same-words zero (x ∷ xs) ys p q = absurd (omega arith)
same-words (suc n) [] ys p q = absurd (omega arith)
same-words (suc n) (x ∷ xs) [] p q = absurd (omega arith)
same-words (suc n) (x ∷ xs) (y ∷ ys) p q =
    ap (λ b. eqb x y && b) (same-words n xs ys (omega arith) (omega arith))
    ∙ sym (every-cons n (λ r. eqb (word (x ∷ xs) r) (word (y ∷ ys) r)))

pub all_zero : (words : List ℕ) → length words ≡ 32 → pointwise eqb words (replicate 32 0) ≡ zeros words
all_zero words long =
    same-words 32 words (replicate 32 0) long (length-replicate {A = ℕ} 32 0)
    ∙ every-ext 32 _ _ (λ r within. ap (eqb (word words r)) (get_or-replicate {A = ℕ} 32 r 0 0 within))

suc-one : (r : ℕ) → 1 + r ≡ suc r
suc-one r = omega arith

-- all but the first, as a slice from there on
pub rest : (xs : List ℕ) → take (length xs - 1) (drop 1 xs) ≡ drop 1 xs
rest xs = take_all (length xs - 1) (drop 1 xs) (rw length-drop (omega arith))

pub others-same : (xs ys : List ℕ) → length xs ≡ 32 → length ys ≡ 32
    → pointwise eqb (drop 1 xs) (drop 1 ys) ≡ every 32 (λ r. leb r 0 || eqb (word xs r) (word ys r))
others-same xs ys p q =
    same-words 31 (drop 1 xs) (drop 1 ys) (rw length-drop (omega arith)) (rw length-drop (omega arith))
    ∙ every-ext 31 _ _ (λ r within. rw (get_or-drop 1 xs r 0, get_or-drop 1 ys r 0, leb-suc-zero r, suc-one r))
    ∙ sym (every-cons 31 (λ r. leb r 0 || eqb (word xs r) (word ys r)))
