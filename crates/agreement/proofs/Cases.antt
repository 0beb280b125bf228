-- The starred bench cases: the checker computes the whole table, and one law turns that into each row's claim.
use mathlib.Core.Path.{◌≡◌, refl, ap₂}
use mathlib.Core.Bool.{Bool, true, false, ◌&&◌, false≢true}
use mathlib.Core.List.{List, [], ◌∷◌}
use Prim.Native.Nat.{ℕ}
use lib.Dec.{eqb}
use borrow.Author.Tests.{eqb-true}
use Rattle.verdict.specs.Lists.{All}
use Rattle.machines.specs.Computing.{computing}
use Rattle.agreement.specs.Cases.{Row, table, Holds, same, right, all_right}

-- the one statement: every row of the table is right
pub table-right : all_right table ≡ true
unfolding computing same all_right
table-right = refl

both : (a b : Bool) → (a && b) ≡ true → (a ≡ true) × (b ≡ true)
both true b e = (refl, e)
both false b e = absurd (false≢true e)

same-is : (xs ys : List ℕ) → same xs ys ≡ true → xs ≡ ys
unfolding same
same-is [] [] e = refl
same-is [] (y ∷ ys) e = absurd (false≢true e)
same-is (x ∷ xs) [] e = absurd (false≢true e)
same-is (x ∷ xs) (y ∷ ys) e =
    let split = both (eqb x y) (same xs ys) e in
    ap₂ ◌∷◌ (eqb-true x y split.0) (same-is xs ys split.1)

-- a row that tests right holds
pub right-holds : (r : Row) → right r ≡ true → Holds r
right-holds r e =
    let split = both _ _ e in
    let plain = both _ _ split.1 in
    let wire = both _ _ plain.1 in
    record {
      accepted = eqb-true _ 0 split.0;
      plain = same-is _ _ plain.0;
      wire = same-is _ _ wire.0;
      frames = same-is _ _ wire.1;
    }

all_hold : (rows : List Row) → all_right rows ≡ true → All Holds rows
unfolding all_right
all_hold [] e = tt
all_hold (r ∷ rows) e = let split = both (right r) (all_right rows) e in (right-holds r split.0, all_hold rows split.1)

-- cases 1 to 12, on the plain machine and on the wire
pub bench-cases : All Holds table
bench-cases = all_hold table table-right
