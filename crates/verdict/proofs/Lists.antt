-- Lists given by their elements (`tabulate`) and lists one after the other (`join`).
use Prim.Native.Nat.{ℕ, zero, suc, ◌+◌, ◌*◌, ◌≤◌, ◌<◌}
use mathlib.Core.Path.{◌≡◌, refl, ap, ap₂, sym, ◌∙◌}
use mathlib.Core.List.{List, [], ◌∷◌, ◌++◌, map, map-append, append_assoc, append-nil}
use native.Mathlib.Omega.{arith}
use native.Mathlib.Nat.{zero-mul, suc-mul, mul-le-mul_right}
use native.Mathlib.Decide.{ℕ_discrete}
use lib.ListN.{length, get_or, length-append, get_or-append}
use lib.Seq.{get_or_at, get_or-append-add, ext_get_or}
use Rattle.verdict.specs.Lists.{All}
use Rattle.verdict.specs.Output.{tabulate, join}
use Rattle.verdict.proofs.Elements.{all_append}

module _ {A : Type 0} where
  pub length-tabulate : (n : ℕ) (f : ℕ → A) → length (tabulate n f) ≡ n
  unfolding tabulate
  length-tabulate zero f = refl
  length-tabulate (suc n) f = simp (length-append, length-tabulate n f) (omega arith)

  pub get_or-tabulate : (n : ℕ) (f : ℕ → A) (d : A) (i : ℕ) → i < n → get_or (tabulate n f) i d ≡ f i
  unfolding tabulate
  get_or-tabulate zero f d i h = absurd (omega arith)
  get_or-tabulate (suc n) f d i h = go (ℕ_discrete i n) (get_or-tabulate n f d i)
    where
      go : Dec (i ≡ n) → (i < n → get_or (tabulate n f) i d ≡ f i) → get_or (tabulate n f ++ (f n ∷ [])) i d ≡ f i
      go (yes p) earlier = get_or_at (tabulate n f) (f n) [] d i (length-tabulate n f ∙ sym p) ∙ ap f (sym p)
      go (no p) earlier =
          let below : i < n = omega arith in
          let within : i < length (tabulate n f) = rw length-tabulate below in
          get_or-append (tabulate n f) (f n ∷ []) d i within ∙ earlier below

  -- only the values below n count
  pub tabulate-ext : (n : ℕ) (f g : ℕ → A) → ((i : ℕ) → i < n → f i ≡ g i) → tabulate n f ≡ tabulate n g
  unfolding tabulate
  tabulate-ext zero f g h = refl
  tabulate-ext (suc n) f g h =
      ap₂ (λ (xs : List A) (x : A). xs ++ (x ∷ [])) (tabulate-ext n f g (λ i l. h i (omega arith))) (h n (omega arith))

  -- a list is told by its elements
  pub tabulate-of : (n : ℕ) (f : ℕ → A) (xs : List A) (d : A) → length xs ≡ n → ((i : ℕ) → i < n → get_or xs i d ≡ f i) → xs ≡ tabulate n f
  tabulate-of n f xs d long same =
      ext_get_or d xs (tabulate n f) (long ∙ sym (length-tabulate n f)) (λ i l. same i (omega arith) ∙ sym (get_or-tabulate n f d i (omega arith)))

  -- from the front
  pub tabulate-cons : (n : ℕ) (f : ℕ → A) → tabulate (suc n) f ≡ f 0 ∷ tabulate n (λ i. f (suc i))
  unfolding tabulate
  tabulate-cons zero f = refl
  tabulate-cons (suc n) f = ap (λ (xs : List A). xs ++ (f (suc n) ∷ [])) (tabulate-cons n f)

  -- what holds of each value holds of the list
  pub all-tabulate : (Q : A → Type 0) (n : ℕ) (f : ℕ → A) → ((i : ℕ) → i < n → Q (f i)) → All Q (tabulate n f)
  unfolding tabulate
  all-tabulate Q zero f h = tt
  all-tabulate Q (suc n) f h = all_append Q (tabulate n f) (f n ∷ []) (all-tabulate Q n f (λ i l. h i (omega arith))) (h n (omega arith), tt)

  pub join-append : (xss yss : List (List A)) → join (xss ++ yss) ≡ join xss ++ join yss
  unfolding join
  join-append [] yss = refl
  join-append (xs ∷ xss) yss = ap (λ (zs : List A). xs ++ zs) (join-append xss yss) ∙ sym (append_assoc xs (join xss) (join yss))

  -- what holds of every element of every list
  pub all_join : (Q : A → Type 0) (xss : List (List A)) → All (All Q) xss → All Q (join xss)
  unfolding join
  all_join Q [] h = tt
  all_join Q (xs ∷ xss) h = all_append Q xs (join xss) h.0 (all_join Q xss h.1)

  -- pieces of one size, one after the other
  pub length-pieces : (w n : ℕ) (piece : ℕ → List A) → ((k : ℕ) → length (piece k) ≡ w) → length (join (tabulate n piece)) ≡ n * w
  unfolding tabulate join
  length-pieces w zero piece size = sym (zero-mul w)
  length-pieces w (suc n) piece size =
      simp (join-append, length-append, length-pieces w n piece size, append-nil, size n, suc-mul)

  -- the value at place i of piece k
  pub get_or-pieces : (w n : ℕ) (piece : ℕ → List A) → ((k : ℕ) → length (piece k) ≡ w) → (d : A) (k i : ℕ) → k < n → i < w → get_or (join (tabulate n piece)) (k * w + i) d ≡ get_or (piece k) i d
  unfolding tabulate join
  get_or-pieces w zero piece size d k i h l = absurd (omega arith)
  get_or-pieces w (suc n) piece size d k i h l = rw (join-append (tabulate n piece) (piece n ∷ []), append-nil) (go (ℕ_discrete k n) (get_or-pieces w n piece size d k i))
    where
      all : List A
      all = join (tabulate n piece)

      go : Dec (k ≡ n) → (k < n → i < w → get_or all (k * w + i) d ≡ get_or (piece k) i d) → get_or (all ++ piece n) (k * w + i) d ≡ get_or (piece k) i d
      go (yes e) earlier =
          let place : k * w + i ≡ length all + i = ap (λ m. m * w + i) e ∙ ap (λ m. m + i) (sym (length-pieces w n piece size)) in
          rw (place, get_or-append-add all (piece n), e)
      go (no e) earlier =
          let below : k < n = omega arith in
          let rows : suc k * w ≤ n * w = mul-le-mul_right w below in
          let within : k * w + i < length all = omega (arith, rows, suc-mul k w, length-pieces w n piece size) in
          get_or-append all (piece n) d (k * w + i) within ∙ earlier below l

pub map-tabulate : {A B : Type 0} (g : A → B) (n : ℕ) (f : ℕ → A) → map g (tabulate n f) ≡ tabulate n (λ i. g (f i))
unfolding tabulate
map-tabulate g zero f = refl
map-tabulate g (suc n) f = map-append g (tabulate n f) (f n ∷ []) ∙ ap (λ xs. xs ++ (g (f n) ∷ [])) (map-tabulate g n f)
