-- The table of the addresses that are taken: none at first, one more with each PHY, and what it says at an address.
use Prim.Native.Nat.{ℕ, zero, suc, ◌+◌, ◌≤◌, ◌<◌}
use mathlib.Core.Bool.{Bool, true, false, or-true, or-false}
use mathlib.Core.List.{List}
use mathlib.Core.Path.{◌≡◌, refl, sym, ◌∙◌}
use native.Mathlib.Decide.{ℕ_discrete}
use native.Mathlib.Omega.{arith}
use lib.ListN.{length, get_or, set, replicate, length-replicate, get_or-replicate, length-set, get_or-eq_default}
use lib.Seq.{get_or-set_same, get_or-set_other}
use lib.Dec.{eqb, ltb}
use borrow.Author.Tests.{eq-eqb, ne_eqb, ltb-true, ltb-false}
use Rattle.verdict.specs.Output.{tabulate}
use Rattle.verdict.proofs.Lists.{length-tabulate, get_or-tabulate, tabulate-of}
use Rattle.phy.specs.Record.{any}
use Rattle.board.specs.Record.{taken_by}
use Rattle.board.proofs.Turns.{any-turn}

module _ (address : ℕ → ℕ) where
  pub taken_none : replicate 256 false ≡ taken_by address 0
  unfolding taken_by any
  taken_none = tabulate-of 256 _ (replicate 256 false) false (length-replicate 256 false) (λ a within. get_or-replicate 256 a false false within)

  pub taken_at : (n a : ℕ) → a < 256 → get_or (taken_by address n) a false ≡ any n (λ i. eqb (address i) a)
  unfolding taken_by
  taken_at n a within = get_or-tabulate 256 _ false a within

  -- and at any number, where each address is a byte
  pub taken-anywhere : (n : ℕ) → ((i : ℕ) → i < n → address i < 256) → (a : ℕ) → get_or (taken_by address n) a false ≡ any n (λ i. eqb (address i) a)
  unfolding taken_by any
  taken-anywhere n bytes a = go (ltb a 256) refl
    where
      none : (m : ℕ) → m ≤ n → 256 ≤ a → any m (λ i. eqb (address i) a) ≡ false
      none zero h past = refl
      none (suc m) h past = rw (none m (omega arith) past, ne_eqb (address m) a (λ e. omega (arith, bytes m (omega arith), e)))

      go : (b : Bool) → ltb a 256 ≡ b → get_or (tabulate 256 (λ x. any n (λ i. eqb (address i) x))) a false ≡ any n (λ i. eqb (address i) a)
      go true e = taken_at n a (ltb-true a 256 e)
      go false e =
          let past = ltb-false a 256 e in
          get_or-eq_default (tabulate 256 (λ x. any n (λ i. eqb (address i) x))) false (rw length-tabulate past)
          ∙ sym (none n (omega arith) past)

  pub taken_next : (n : ℕ) → address n < 256 → set (taken_by address n) (address n) true ≡ taken_by address (n + 1)
  unfolding taken_by
  taken_next n within =
      tabulate-of 256 _ (set table (address n) true) false (length-set table (address n) true ∙ long) (λ a below. at a below (ℕ_discrete a (address n)))
    where
      table : List Bool
      table = tabulate 256 (λ a. any n (λ i. eqb (address i) a))

      long : length table ≡ 256
      long = length-tabulate 256 (λ a. any n (λ i. eqb (address i) a))

      at : (a : ℕ) → a < 256 → Dec (a ≡ address n) → get_or (set table (address n) true) a false ≡ any (n + 1) (λ i. eqb (address i) a)
      at a below (yes here) = rw (here, any-turn _ n, eq-eqb (address n) (address n) refl, or-true) (get_or-set_same table (address n) true false (rw long within))
      at a below (no other) = rw (any-turn _ n, ne_eqb (address n) a (λ e. other (sym e)), or-false) (get_or-set_other table (address n) a true false other ∙ get_or-tabulate 256 _ false a below)
