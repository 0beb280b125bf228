-- What is said of the elements of a list.
use Rattle.std.specs.Prelude.{ℕ, suc, Bool, cond, List, [], ◌∷◌}

module _ {A : Type 0} where
  -- it holds of every element
  abbrev pub All : (A → Type 0) → List A → Type 0
  All Q [] = Unit {0}
  All Q (x ∷ xs) = Q x × All Q xs

  -- how many elements pass a test
  abbrev pub count : (A → Bool) → List A → ℕ
  count test [] = 0
  count test (x ∷ xs) = cond (test x) (suc (count test xs)) (count test xs)
