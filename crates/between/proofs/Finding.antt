-- The first element that passes a test: it passes, none before it does, and where no two pass it is the only one. So an event is made at one place: that of the PHY at its address.
use Prim.Native.Nat.{ℕ, zero, suc, ◌≤◌, ◌<◌}
use mathlib.Core.Path.{◌≡◌, refl, sym, ap, ap₂, ◌∙◌}
use mathlib.Core.Bool.{Bool, true, false, cond}
use mathlib.Core.List.{List, [], ◌∷◌, map}
use native.Mathlib.Omega.{arith}
use native.Mathlib.Numerals.{one-add}
use lib.ListN.{length, length-map, get_or, set}
use lib.Dec.{ltb}
use borrow.Author.Tests.{ltb-true, ltb-false}
use Rattle.std.specs.Prelude.{Some, None}
use Rattle.std.specs.List.{position}
use Rattle.std.proofs.lemmas.List.Recursion.{is_position_or_len}
use Rattle.between.specs.Happened.{first_of, found_at}
use Rattle.between.proofs.Places.{unchanged, changed-at}

never : {A : Type 0} → true ≡ false → A
never e = absurd (let z : ◌≡◌ {A = ℕ} 0 1 = cc in omega arith)

-- what a place says that is found, and what one says that is not
module _ {A : Type 0} (xs : List A) (place : ℕ) where
  pub found-some : {i : ℕ} → found_at place xs ≡ Some i → (i ≡ place) × (place < length xs)
  found-some {i} = go (ltb place (length xs)) refl
    where
      go : (b : Bool) → ltb place (length xs) ≡ b → cond b (Some place) None ≡ Some i → (i ≡ place) × (place < length xs)
      go true e some = (cc, ltb-true _ _ e)
      go false e some = cc

  pub found-none : found_at place xs ≡ None → length xs ≤ place
  found-none = go (ltb place (length xs)) refl
    where
      go : (b : Bool) → ltb place (length xs) ≡ b → cond b (Some place) None ≡ None → length xs ≤ place
      go true e none = absurd (let z : ◌≡◌ {A = ℕ} 0 1 = cc in omega arith)
      go false e none = ltb-false _ _ e

module _ {A : Type 0} (test : A → Bool) where
  pub first-at : (xs : List A) (d : A) → first_of test xs < length xs → test (get_or xs (first_of test xs) d) ≡ true
  unfolding first_of
  first-at [] d h = absurd (omega arith)
  first-at (x ∷ xs) d h = go (test x) refl h (first-at xs d)
    where
      go : (b : Bool) → test x ≡ b → cond b 0 (suc (first_of test xs)) < length (x ∷ xs) → (first_of test xs < length xs → test (get_or xs (first_of test xs) d) ≡ true) → test (get_or (x ∷ xs) (cond b 0 (suc (first_of test xs))) d) ≡ true
      go true e h rest = e
      go false e h rest = rest (omega arith)

  -- one that passes is not before it
  pub first-reaches : (xs : List A) (d : A) (j : ℕ) → j < length xs → test (get_or xs j d) ≡ true → first_of test xs ≤ j
  unfolding first_of
  first-reaches [] d j h e = absurd (omega arith)
  first-reaches (x ∷ xs) d j h e = go (test x) refl j h e (first-reaches xs d)
    where
      go : (b : Bool) → test x ≡ b → (j : ℕ) → j < length (x ∷ xs) → test (get_or (x ∷ xs) j d) ≡ true → ((j : ℕ) → j < length xs → test (get_or xs j d) ≡ true → first_of test xs ≤ j) → cond b 0 (suc (first_of test xs)) ≤ j
      go true p j h e rest = omega arith
      go false p zero h e rest = never (sym e ∙ p)
      go false p (suc j) h e rest = omega (arith, rest j (omega arith) e)

  -- where none passes it is the place past the last, and never further
  pub first-within : (xs : List A) → first_of test xs ≤ length xs
  unfolding first_of
  first-within [] = omega arith
  first-within (x ∷ xs) = go (test x) (first-within xs)
    where
      go : (b : Bool) → first_of test xs ≤ length xs → cond b 0 (suc (first_of test xs)) ≤ length (x ∷ xs)
      go true rest = omega arith
      go false rest = omega arith

  -- found among what is made of each
  pub first-map : {B : Type 0} (g : B → A) (xs : List B) → first_of test (map g xs) ≡ first_of (λ x. test (g x)) xs
  unfolding first_of
  first-map g [] = refl
  first-map g (x ∷ xs) = ap (λ i. cond (test (g x)) 0 (suc i)) (first-map g xs)

  pub found-map : {B : Type 0} (g : B → A) (xs : List B) → found_at (first_of test (map g xs)) (map g xs) ≡ found_at (first_of (λ x. test (g x)) xs) xs
  found-map g xs = ap₂ (λ i n. cond (ltb i n) (Some i) None) (first-map g xs) (length-map xs g)

  -- a test that says the same finds the same
  pub first-same : (other : A → Bool) → ((x : A) → test x ≡ other x) → (xs : List A) → first_of test xs ≡ first_of other xs
  unfolding first_of
  first-same other same [] = refl
  first-same other same (x ∷ xs) = ap₂ (λ b i. cond b 0 (suc i)) (same x) (first-same other same xs)

  -- it is what the library's search for a place says
  pub first-position : (xs : List A) → position test xs ≡ found_at (first_of test xs) xs
  unfolding first_of
  first-position xs = ap (λ i. found_at i xs) (sym (is_position_or_len (first_of test) test refl (λ x rest. ap (cond (test x) 0) (sym (one-add (first_of test rest)))) xs))

  -- A change of what passes, where no two pass: it is made at the place that is found, or nowhere
  module _ (f : A → A) (passes-by : (x : A) → test x ≡ false → f x ≡ x) (xs : List A) (d : A) (alone : (i j : ℕ) → i < length xs → j < length xs → test (get_or xs i d) ≡ true → test (get_or xs j d) ≡ true → i ≡ j) where
    pub changed-there : first_of test xs < length xs → map f xs ≡ set xs (first_of test xs) (f (get_or xs (first_of test xs) d))
    changed-there h = changed-at f (first_of test xs) xs d h (λ j l other. go j l other (test (get_or xs j d)) refl)
      where
        go : (j : ℕ) → j < length xs → (j ≡ first_of test xs → ⊥) → (b : Bool) → test (get_or xs j d) ≡ b → f (get_or xs j d) ≡ get_or xs j d
        go j l other true e = absurd (other (alone j (first_of test xs) l h e (first-at xs d h)))
        go j l other false e = passes-by (get_or xs j d) e

    pub changed-nowhere : length xs ≤ first_of test xs → map f xs ≡ xs
    changed-nowhere h = unchanged f xs d (λ j l. go j l (test (get_or xs j d)) refl)
      where
        go : (j : ℕ) → j < length xs → (b : Bool) → test (get_or xs j d) ≡ b → f (get_or xs j d) ≡ get_or xs j d
        go j l true e = absurd (omega (arith, first-reaches xs d j l e))
        go j l false e = passes-by (get_or xs j d) e
