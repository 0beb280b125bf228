-- Rust's types give `Typed`: what the logic knows of a PHY value that a function takes. Each fact is found by the field that it speaks of, so a field more changes none of these.
use Prim.Native.Nat.{ℕ, zero, suc, ◌^◌, ◌<◌}
use mathlib.Core.Path.{◌≡◌, sym, ◌∙◌}
use mathlib.Core.List.{List, [], ◌∷◌, map}
use native.Mathlib.Omega.{arith}
use borrow.Author.Rules.{rules}
use lib.ListN.{length, get_or, length-map}
use mir.Syntax.{w16}
use mir.Val.{Val, Fits}
use denote.Laws.{Is}
use denote.Array.{each, Array}
use denote.Shadow.{shadow}
use denote.Struct.Declared.{row}
use Rattle.wire.specs.contracts.Follower.{the_field as follower-field}
use Rattle.wire.specs.declared.Follower.{Follower}
use Rattle.wire.specs.declared.Follower.TheVariants.{Hunting, Inside}
use Rattle.phy.specs.declared.Phy.{Phy}
use Rattle.phy.specs.Typed.{TypedFollower, Typed}
use Rattle.phy.specs.contracts.Phy.{the_type, the_field as phy-field}

below : {word : ℕ} → Fits w16 word → word < 2 ^ 16
below fits = fits.fits

followers : (f : Follower) (vs : List Val) → Is follower-field.row (follower-field.into f) vs → TypedFollower f
followers (Hunting ones) vs good = search rules
followers (Inside seen bits) vs good = (search rules, search rules)

-- a parameter `self` has `typed-value self _ c.good.0`, and a PHY in an array what `denote.Array.each` says of it
pub typed-value : (phy : Phy) (vs : List Val) → Is (row the_type) phy vs → Typed phy
typed-value phy vs good =
    record {
      own = record { address = search rules; implemented = search rules };
      words = record {
        defaults = record { long = search rules; small = λ r. below (search rules) };
        masks = record { long = search rules; small = λ r. below (search rules) };
        registers = record { long = search rules; small = λ r. below (search rules) };
      };
      follower = search followers;
      captured = search rules;
    }

-- a field of 32 PHYs, as a board has one
each_typed : (ps : List Phy) (us : List Val) → shadow (each phy-field.row.Denot phy-field.row.own_val (map phy-field.into ps) us)
    → (i : ℕ) (d : Phy) → i < length ps → Typed (get_or ps i d)
each_typed [] us e i d h = absurd (omega arith)
each_typed (p ∷ ps) [] e i d h = absurd e
each_typed (p ∷ ps) (u ∷ us) e zero d h = typed-value p (u ∷ []) e.0
each_typed (p ∷ ps) (u ∷ us) e (suc i) d h = each_typed ps us e.1 i d (omega arith)

pub typed-array : (n : ℕ) (ps : List Phy) (vs : List Val) → Is (Array phy-field.row n) (map phy-field.into ps) vs
    → (length ps ≡ n) × ((i : ℕ) (d : Phy) → i < length ps → Typed (get_or ps i d))
typed-array n ps vs good = (sym (length-map ps phy-field.into) ∙ good.1.0.1, each_typed ps good.0 good.1.1)
