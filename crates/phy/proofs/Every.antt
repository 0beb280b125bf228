-- Tests of all the numbers below n: what they say of each one, and how a loop over them goes.
use Prim.Native.Nat.{ℕ, zero, suc, ◌+◌, ◌<◌}
use mathlib.Core.Bool.{Bool, true, false, not, ◌&&◌, ◌||◌, and-true, and_assoc, not-not}
use mathlib.Core.Path.{◌≡◌, refl, ap, ap₂, sym, ◌∙◌}
use native.Mathlib.Omega.{arith}
use native.Mathlib.Numerals.{add-one}
use native.Mathlib.Decide.{ℕ_discrete}
use borrow.Author.Tests.{not-true, not-false}
use Rattle.phy.specs.Record.{every, any}

-- both sides of `&&` where it is true
pub both : (a b : Bool) → a && b ≡ true → (a ≡ true) × (b ≡ true)
both true b h = (refl, h)
both false b h = absurd (let z : ◌≡◌ {A = ℕ} 0 1 = cc in omega arith)

-- both sides of `||` where it is false
pub neither : (a b : Bool) → a || b ≡ false → (a ≡ false) × (b ≡ false)
neither false b h = (refl, h)
neither true b h = absurd (let z : ◌≡◌ {A = ℕ} 0 1 = cc in omega arith)

module _ (test : ℕ → Bool) where
  -- where all pass, each one passes
  pub every-each : (n : ℕ) → every n test ≡ true → (i : ℕ) → i < n → test i ≡ true
  unfolding every
  every-each zero h i l = absurd (omega arith)
  every-each (suc n) h i l = go (ℕ_discrete i n) (both (every n test) (test n) h).1 (every-each n (both (every n test) (test n) h).0 i)
    where
      go : Dec (i ≡ n) → test n ≡ true → (i < n → test i ≡ true) → test i ≡ true
      go (yes p) here earlier = ap test p ∙ here
      go (no p) here earlier = earlier (omega arith)

  pub each-every : (n : ℕ) → ((i : ℕ) → i < n → test i ≡ true) → every n test ≡ true
  unfolding every
  each-every zero h = refl
  each-every (suc n) h = rw (each-every n (λ i l. h i (omega arith)), h n (omega arith))

  -- one that fails is enough
  pub every-fails : (n i : ℕ) → i < n → test i ≡ false → every n test ≡ false
  every-fails n i l fails = go (every n test) refl
    where
      go : (b : Bool) → every n test ≡ b → b ≡ false
      go false e = refl
      go true e =
          let passes : test i ≡ true = every-each n e i l in
          cc

  -- a turn of a loop that found no failure yet
  pub every-next : (k : ℕ) → every k test ≡ true → test k ≡ true → every (k + 1) test ≡ true
  unfolding every
  every-next k so_far here = rw (add-one, so_far, here)

  -- a turn of a loop that found none yet
  pub any_next : (k : ℕ) → any k test ≡ false → test k ≡ false → any (k + 1) test ≡ false
  unfolding any
  any_next k so_far here = rw (add-one, so_far, here)

-- none passes exactly if each one fails
any-not : (n : ℕ) (test : ℕ → Bool) → any n test ≡ not (every n (λ i. not (test i)))
unfolding any every
any-not zero test = refl
any-not (suc n) test = rw (any-not n test) (de-morgan (every n (λ i. not (test i))) (test n))
  where
    de-morgan : (a b : Bool) → not a || b ≡ not (a && not b)
    de-morgan false b = refl
    de-morgan true b = sym (not-not b)

module _ (test : ℕ → Bool) where
  -- where none passes, each one fails
  pub any_none : (n : ℕ) → any n test ≡ false → (i : ℕ) → i < n → test i ≡ false
  any_none n h i l = not-true _ (every-each (λ i. not (test i)) n (not-false _ (sym (any-not n test) ∙ h)) i l)

  -- one that passes is enough
  pub any-passes : (n i : ℕ) → i < n → test i ≡ true → any n test ≡ true
  any-passes n i l passes = any-not n test ∙ ap not (every-fails (λ i. not (test i)) n i l (ap not passes))

-- only the numbers below n count
pub any-ext : (n : ℕ) (test test' : ℕ → Bool) → ((i : ℕ) → i < n → test i ≡ test' i) → any n test ≡ any n test'
unfolding any
any-ext zero test test' h = refl
any-ext (suc n) test test' h = ap₂ ◌||◌ (any-ext n test test' (λ i l. h i (omega arith))) (h n (omega arith))

pub every-ext : (n : ℕ) (test test' : ℕ → Bool) → ((i : ℕ) → i < n → test i ≡ test' i) → every n test ≡ every n test'
unfolding every
every-ext zero test test' h = refl
every-ext (suc n) test test' h = ap₂ ◌&&◌ (every-ext n test test' (λ i l. h i (omega arith))) (h n (omega arith))

-- from the front
pub every-cons : (n : ℕ) (test : ℕ → Bool) → every (suc n) test ≡ test 0 && every n (λ i. test (suc i))
unfolding every
every-cons zero test = sym (and-true (test 0))
every-cons (suc n) test = ap (λ b. b && test (suc n)) (every-cons n test) ∙ and_assoc (test 0) (every n (λ i. test (suc i))) (test (suc n))
