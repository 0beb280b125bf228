-- What is said of the elements of a list (`All`, `count`), element by element.
use Prim.Native.Nat.{ℕ, zero, suc, ◌≤◌, ◌<◌}
use mathlib.Core.Path.{◌≡◌, refl, ap₂, sym, ◌∙◌}
use mathlib.Core.Bool.{Bool, true, false, cond}
use mathlib.Core.List.{List, [], ◌∷◌, ◌++◌, map}
use native.Mathlib.Omega.{arith}
use lib.ListN.{length, get_or}
use Rattle.verdict.specs.Lists.{All, count}

module _ {A : Type 0} where
  pub all_append : (Q : A → Type 0) (xs ys : List A) → All Q xs → All Q ys → All Q (xs ++ ys)
  all_append Q [] ys h l = l
  all_append Q (x ∷ xs) ys h l = (h.0, all_append Q xs ys h.1 l)

  -- what holds of anything holds of every element
  pub all_of : (Q : A → Type 0) (xs : List A) → ((x : A) → Q x) → All Q xs
  all_of Q [] h = tt
  all_of Q (x ∷ xs) h = (h x, all_of Q xs h)

  -- what holds at every place
  pub all-places : (Q : A → Type 0) (xs : List A) (d : A) → ((i : ℕ) → i < length xs → Q (get_or xs i d)) → All Q xs
  all-places Q [] d h = tt
  all-places Q (x ∷ xs) d h = (h 0 (omega arith), all-places Q xs d (λ i within. h (suc i) (omega arith)))

  -- what holds of every element, at a place; and past the end, where it holds of the default
  pub all-at : (Q : A → Type 0) (xs : List A) (i : ℕ) (d : A) → i < length xs → All Q xs → Q (get_or xs i d)
  all-at Q [] i d h all = absurd (omega arith)
  all-at Q (x ∷ xs) zero d h all = all.0
  all-at Q (x ∷ xs) (suc i) d h all = all-at Q xs i d (omega arith) all.1

  pub all-or : (Q : A → Type 0) (xs : List A) (i : ℕ) (d : A) → Q d → All Q xs → Q (get_or xs i d)
  all-or Q [] i d base all = base
  all-or Q (x ∷ xs) zero d base all = all.0
  all-or Q (x ∷ xs) (suc i) d base all = all-or Q xs i d base all.1

  -- from one fact on every element to another
  pub all_then : (Q R : A → Type 0) (xs : List A) → ((x : A) → Q x → R x) → All Q xs → All R xs
  all_then Q R [] h l = tt
  all_then Q R (x ∷ xs) h l = (h x l.0, all_then Q R xs h l.1)

  -- two facts on every element
  pub all_both : (Q R S : A → Type 0) (xs : List A) → ((x : A) → Q x → R x → S x) → All Q xs → All R xs → All S xs
  all_both Q R S [] h q r = tt
  all_both Q R S (x ∷ xs) h q r = (h x q.0 r.0, all_both Q R S xs h q.1 r.1)

module _ {A B : Type 0} where
  pub all_map : (Q : A → Type 0) (R : B → Type 0) (f : A → B) (xs : List A) → ((x : A) → Q x → R (f x)) → All Q xs → All R (map f xs)
  all_map Q R f [] h l = tt
  all_map Q R f (x ∷ xs) h l = (h x l.0, all_map Q R f xs h l.1)

  pub all-map-of : (R : B → Type 0) (f : A → B) (xs : List A) → ((x : A) → R (f x)) → All R (map f xs)
  all-map-of R f [] h = tt
  all-map-of R f (x ∷ xs) h = (h x, all-map-of R f xs h)

  -- two maps that agree on every element
  pub map_same : (f g : A → B) (xs : List A) → All (λ x. f x ≡ g x) xs → map f xs ≡ map g xs
  map_same f g [] h = refl
  map_same f g (x ∷ xs) h = ap₂ (λ (y : B) (ys : List B). y ∷ ys) h.0 (map_same f g xs h.1)

module _ {A B C : Type 0} where
  -- one map after another that together are a third
  pub map-then : (f : B → C) (g : A → B) (h : A → C) → ((x : A) → f (g x) ≡ h x) → (xs : List A) → map f (map g xs) ≡ map h xs
  map-then f g h same [] = refl
  map-then f g h same (x ∷ xs) = ap₂ (λ (y : C) (ys : List C). y ∷ ys) (same x) (map-then f g h same xs)

module _ {A : Type 0} where
  -- two maps of which either may come first
  pub map-past : (f g : A → A) → ((x : A) → g (f x) ≡ f (g x)) → (xs : List A) → map g (map f xs) ≡ map f (map g xs)
  map-past f g same xs = map-then g f (λ x. f (g x)) same xs ∙ sym (map-then f g (λ x. f (g x)) (λ x. refl) xs)

  -- a map that changes nothing
  pub map-stays : (f : A → A) → ((x : A) → f x ≡ x) → (xs : List A) → map f xs ≡ xs
  map-stays f same [] = refl
  map-stays f same (x ∷ xs) = ap₂ (λ (y : A) (ys : List A). y ∷ ys) (same x) (map-stays f same xs)

  -- a map that keeps the test keeps the count
  pub count_kept : (test : A → Bool) (f : A → A) → ((x : A) → test (f x) ≡ test x) → (xs : List A) → count test (map f xs) ≡ count test xs
  count_kept test f kept [] = refl
  count_kept test f kept (x ∷ xs) = rw (kept x, count_kept test f kept xs)

  -- where none is counted none passes, and the other way round
  pub none_pass : (test : A → Bool) (xs : List A) → count test xs ≡ 0 → All (λ x. test x ≡ false) xs
  none_pass test [] none = tt
  none_pass test (x ∷ xs) none = go (test x) refl none (none_pass test xs)
    where
      go : (b : Bool) → test x ≡ b → cond b (suc (count test xs)) (count test xs) ≡ 0 → (count test xs ≡ 0 → All (λ y. test y ≡ false) xs) → (test x ≡ false) × All (λ y. test y ≡ false) xs
      go true e none rest = absurd (omega arith)
      go false e none rest = (e, rest none)

  pub count_none : (test : A → Bool) (xs : List A) → ((x : A) → test x ≡ false) → count test xs ≡ 0
  count_none test [] fails = refl
  count_none test (x ∷ xs) fails = rw (fails x) (count_none test xs fails)

  -- where no place passes none is counted, and where no two places pass at most one is
  count-zero : (test : A → Bool) (xs : List A) (d : A) → ((i : ℕ) → i < length xs → test (get_or xs i d) ≡ true → ⊥) → count test xs ≡ 0
  count-zero test [] d fails = refl
  count-zero test (x ∷ xs) d fails = go (test x) refl (count-zero test xs d (λ i within. fails (suc i) (omega arith)))
    where
      go : (b : Bool) → test x ≡ b → count test xs ≡ 0 → cond b (suc (count test xs)) (count test xs) ≡ 0
      go true e none = absurd (fails 0 (omega arith) e)
      go false e none = none

  pub count-one : (test : A → Bool) (xs : List A) (d : A) →
      ((i j : ℕ) → i < j → j < length xs → test (get_or xs i d) ≡ true → test (get_or xs j d) ≡ true → ⊥) → count test xs ≤ 1
  count-one test [] d apart = omega arith
  count-one test (x ∷ xs) d apart = go (test x) refl (count-one test xs d (λ i j before within. apart (suc i) (suc j) (omega arith) (omega arith)))
    where
      go : (b : Bool) → test x ≡ b → count test xs ≤ 1 → cond b (suc (count test xs)) (count test xs) ≤ 1
      go true e few =
          let none : count test xs ≡ 0 = count-zero test xs d (λ j within. apart 0 (suc j) (omega arith) (omega arith) e) in
          omega arith
      go false e few = few
