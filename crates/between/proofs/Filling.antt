-- Arrays filled place by place: what a turn reads, and what all turns leave.
use Prim.Native.Nat.{ℕ, zero, suc, ◌≤◌, ◌<◌}
use mathlib.Core.Path.{◌≡◌, refl, sym, ap, ◌∙◌}
use mathlib.Core.List.{List, [], ◌∷◌, map, append-nil}
use native.Mathlib.Omega.{arith}
use lib.ListN.{length, get_or, take, drop, drop_of_length-le, length-map, get_or-map}
use lib.Seq.{drop-cons, get_or_at, length-take-le, take_all, get_or-take}
use Rattle.verdict.specs.Output.{tabulate}
use Rattle.verdict.proofs.Lists.{length-tabulate, tabulate-of, map-tabulate}
use Rattle.verdict.proofs.Outputs.{filled}

module _ {A : Type 0} where
  -- within a list it makes no difference what is read past its end
  pub within : (xs : List A) (i : ℕ) (d e : A) → i < length xs → get_or xs i d ≡ get_or xs i e
  within [] i d e h = absurd (omega arith)
  within (x ∷ xs) zero d e h = refl
  within (x ∷ xs) (suc i) d e h = within xs i d e (omega arith)

  -- the place that is filled next still holds what it held
  pub next_place : (f : ℕ → A) (old xs : List A) (i : ℕ) (d : A) → i < length old → xs ≡ filled f old i → get_or xs i d ≡ get_or old i d
  next_place f old xs i d h so_far =
      rw (so_far, drop-cons old i d h) (get_or_at (tabulate i f) (get_or old i d) (drop (suc i) old) d i (length-tabulate i f))

  -- the first n elements, one by one
  pub tabulate-take : (n : ℕ) (xs : List A) (d : A) → n ≤ length xs → tabulate n (λ i. get_or xs i d) ≡ take n xs
  tabulate-take n xs d h = sym (tabulate-of n (λ i. get_or xs i d) (take n xs) d (length-take-le n xs h) (λ i l. get_or-take n xs i d l))

-- what a map makes of the element at a place
pub map_at : {A B : Type 0} (f : A → B) (xs : List A) (i : ℕ) (d : A) (e : B) → i < length xs → get_or (map f xs) i e ≡ f (get_or xs i d)
map_at f xs i d e h = within (map f xs) i e (f d) (omega (arith, length-map xs f)) ∙ get_or-map f xs i d

-- and what is made of each
pub tabulate-map : {A B : Type 0} (g : A → B) (n : ℕ) (xs : List A) (d : A) → n ≤ length xs → tabulate n (λ i. g (get_or xs i d)) ≡ map g (take n xs)
tabulate-map g n xs d h = sym (map-tabulate g n (λ i. get_or xs i d)) ∙ ap (map g) (tabulate-take n xs d h)

-- a whole array filled with what is made of each element of another
pub filled-map : {A B : Type 0} (g : A → B) (xs : List A) (d : A) (old : List B) (n : ℕ) → length xs ≡ n → length old ≡ n → filled (λ i. g (get_or xs i d)) old n ≡ map g xs
filled-map g xs d old n long same =
    let none : drop n old ≡ [] = drop_of_length-le old {i = n} (omega arith) in
    let all : take n xs ≡ xs = take_all n xs (omega arith) in
    rw (none, append-nil, tabulate-map g n xs d (omega arith), all)
