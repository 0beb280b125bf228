-- The PHYs of a board and the board with others in their places; how a loop replaces one after the other, and how a change is made at one place.
use Prim.Native.Nat.{ℕ, zero, suc, ◌+◌, ◌≤◌, ◌<◌}
use mathlib.Core.Path.{◌≡◌, refl, ap, ap₂, ◌∙◌}
use mathlib.Core.List.{List, [], ◌∷◌, ◌++◌, map}
use native.Mathlib.Omega.{arith}
use native.Mathlib.Numerals.{add-one}
use lib.ListN.{length, get_or, take, drop, set, take-append-drop, length-append, length-map, length-take, length-drop}
use Rattle.phy.specs.declared.Phy.{Phy}
use Rattle.board.specs.declared.Board.{Board}
use Rattle.between.specs.Outcome.{phys_of, with_phys}

pub take-map : {A B : Type 0} (f : A → B) (n : ℕ) (xs : List A) → take n (map f xs) ≡ map f (take n xs)
take-map f zero xs = refl
take-map f (suc n) [] = refl
take-map f (suc n) (x ∷ xs) = ap (λ ys. f x ∷ ys) (take-map f n xs)

module _ {A : Type 0} (f : A → A) where
  -- the first i elements replaced, the others as they stood
  abbrev pub replaced : ℕ → List A → List A
  replaced i xs = map f (take i xs) ++ drop i xs

  turn : (i : ℕ) (xs : List A) (d : A) → i < length xs → set (replaced i xs) i (f (get_or (replaced i xs) i d)) ≡ replaced (suc i) xs
  turn i [] d h = absurd (omega arith)
  turn zero (x ∷ xs) d h = refl
  turn (suc i) (x ∷ xs) d h = ap (λ (ys : List A). f x ∷ ys) (turn i xs d (omega arith))

  -- one more
  pub replace-next : (i : ℕ) (xs ys : List A) (d v : A) → i < length xs → ys ≡ replaced i xs → v ≡ f (get_or ys i d) → set ys i v ≡ replaced (i + 1) xs
  replace-next i xs ys d v within so_far here = rw (here, so_far, add-one) (turn i xs d within)

  -- what stands at a place afterwards
  pub at-replaced : (n k : ℕ) (xs : List A) (d : A) → k < n → k < length xs → get_or (replaced n xs) k d ≡ f (get_or xs k d)
  at-replaced n k [] d h l = absurd (omega arith)
  at-replaced zero k (x ∷ xs) d h l = absurd (omega arith)
  at-replaced (suc n) zero (x ∷ xs) d h l = refl
  at-replaced (suc n) (suc k) (x ∷ xs) d h l = at-replaced n k xs d (omega arith) (omega arith)

  pub length-replaced : (n : ℕ) (xs : List A) → length (replaced n xs) ≡ length xs
  length-replaced n xs = simp (length-append, length-map, length-take, length-drop) (omega arith)

  pub past-replaced : (n k : ℕ) (xs : List A) (d : A) → n ≤ k → get_or (replaced n xs) k d ≡ get_or xs k d
  past-replaced zero k xs d h = refl
  past-replaced (suc n) k [] d h = refl
  past-replaced (suc n) zero (x ∷ xs) d h = absurd (omega arith)
  past-replaced (suc n) (suc k) (x ∷ xs) d h = past-replaced n k xs d (omega arith)

  -- A change that leaves every element but one
  pub unchanged : (xs : List A) (d : A) → ((j : ℕ) → j < length xs → f (get_or xs j d) ≡ get_or xs j d) → map f xs ≡ xs
  unchanged [] d stay = refl
  unchanged (x ∷ xs) d stay = ap₂ (λ (y : A) ys. y ∷ ys) (stay 0 (omega arith)) (unchanged xs d (λ j l. stay (suc j) (omega arith)))

  pub changed-at : (i : ℕ) (xs : List A) (d : A) → i < length xs → ((j : ℕ) → j < length xs → (j ≡ i → ⊥) → f (get_or xs j d) ≡ get_or xs j d) → map f xs ≡ set xs i (f (get_or xs i d))
  changed-at i [] d h stay = absurd (omega arith)
  changed-at zero (x ∷ xs) d h stay = ap (λ (ys : List A). f x ∷ ys) (unchanged xs d (λ j l. stay (suc j) (omega arith) (λ e. omega arith)))
  changed-at (suc i) (x ∷ xs) d h stay =
      ap₂ (λ (y : A) ys. y ∷ ys) (stay 0 (omega arith) (λ e. omega arith)) (changed-at i xs d (omega arith) (λ j l other. stay (suc j) (omega arith) (λ e. other (omega arith))))

module _ {A : Type 0} where
  -- where as many stand in front as n elements were, they are the first n, and the others are those after n
  front : (n : ℕ) (xs ys : List A) → length ys ≡ length (take n xs) → take n (ys ++ drop n xs) ≡ ys
  front zero xs [] same = refl
  front zero xs (y ∷ ys) same = absurd (omega arith)
  front (suc n) [] [] same = refl
  front (suc n) [] (y ∷ ys) same = absurd (omega arith)
  front (suc n) (x ∷ xs) [] same = absurd (omega arith)
  front (suc n) (x ∷ xs) (y ∷ ys) same = ap (λ (zs : List A). y ∷ zs) (front n xs ys (omega arith))

  back : (n : ℕ) (xs ys : List A) → length ys ≡ length (take n xs) → drop n (ys ++ drop n xs) ≡ drop n xs
  back zero xs [] same = refl
  back zero xs (y ∷ ys) same = absurd (omega arith)
  back (suc n) [] [] same = refl
  back (suc n) [] (y ∷ ys) same = absurd (omega arith)
  back (suc n) (x ∷ xs) [] same = absurd (omega arith)
  back (suc n) (x ∷ xs) (y ∷ ys) same = back n xs ys (omega arith)

module _ (board : Board) where
  -- the board with its own PHYs in their places
  pub with-own : with_phys board (phys_of board) ≡ board
  with-own = λ i. record { count = board.count; phys = take-append-drop board.count board.phys i }

  module _ (phys : List Phy) (same : length phys ≡ length (phys_of board)) where
    -- PHYs that were put in their places stand there
    pub phys-of-with : phys_of (with_phys board phys) ≡ phys
    phys-of-with = front board.count board.phys phys same

    -- and those behind them stay
    pub behind-with : drop board.count (with_phys board phys).phys ≡ drop board.count board.phys
    behind-with = back board.count board.phys phys same

    -- and others come into the same places
    pub with-with : (others : List Phy) → with_phys (with_phys board phys) others ≡ with_phys board others
    with-with others =
        λ i. record { count = board.count; phys = others ++ behind-with i }

-- one change of the PHYs after another
pub with-then : (board after : Board) (phys : List Phy) (change : List Phy → List Phy) → length phys ≡ length (phys_of board) → after ≡ with_phys board phys → with_phys after (change (phys_of after)) ≡ with_phys board (change phys)
with-then board after phys change same e =
    ap (λ b. with_phys b (change (phys_of b))) e
    ∙ ap (λ ps. with_phys (with_phys board phys) (change ps)) (phys-of-with board phys same)
    ∙ with-with board phys same (change phys)
