-- What an array holds that a closure makes.
use Prim.Native.Nat.{ℕ, zero, suc, ◌+◌, ◌<◌}
use mathlib.Core.Path.{◌≡◌, sym, ap, subst, ◌∙◌}
use mathlib.Core.List.{List, map}
use native.Mathlib.Omega.{arith}
use denote.Param.Members.{Mut, Called}
use lib.ListN.{length, get_or}
use lib.Seq.{take_all}
use Rattle.std.specs.Array.{IsFromFnResultFrom, IsFromFnResult}
use Rattle.verdict.proofs.Lists.{tabulate-of}
use Rattle.between.proofs.Filling.{tabulate-map}

-- An array made by a closure that stays as it is: at each index it has what the closure gives there
module _ {F B : Type 0} {g : Mut F (ℕ × Unit {0}) B} {f : F} (ys : List B) (want : ℕ → B) (gives : (i : ℕ) (y : B) (q : F) → Called g f (i, tt) y q → (q ≡ f) × (y ≡ want i)) where
  made_from : (n i j k : ℕ) (d : B) → IsFromFnResultFrom g f ys i n → i + k ≡ j → k < n → get_or ys j d ≡ want j
  made_from zero i j k d each at within = absurd (omega arith)
  made_from (suc n) i j zero d each at within =
      let same : i ≡ j = omega arith in
      ap (λ m. get_or ys m d) (sym same) ∙ each.2.1 d ∙ (gives i each.1 each.0 each.3).1 ∙ ap want same
  made_from (suc n) i j (suc k) d each at within =
      made_from n (i + 1) j k d (subst (λ p. IsFromFnResultFrom g p ys (i + 1) n) (gives i each.1 each.0 each.3).0 each.4) (omega arith) (omega arith)

  pub made_at : {n : ℕ} → IsFromFnResult g f ys n → (j : ℕ) (d : B) → j < n → get_or ys j d ≡ want j
  made_at {n} made j d within = made_from n 0 j j d made.each (omega arith) within

-- an array that has at each index what is made of another's element there
pub made-of : {A B : Type 0} (h : A → B) (xs : List A) (ys : List B) (d : A) (e : B) → length ys ≡ length xs → ((i : ℕ) → i < length xs → get_or ys i e ≡ h (get_or xs i d)) → ys ≡ map h xs
made-of h xs ys d e long each =
    tabulate-of (length xs) (λ i. h (get_or xs i d)) ys e long each
    ∙ tabulate-map h (length xs) xs d (omega arith)
    ∙ ap (map h) (take_all (length xs) xs (omega arith))
