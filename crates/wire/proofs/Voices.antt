-- Of many parties at most one speaks: the wire hears that one, or nobody.
use Prim.Native.Nat.{suc}
use mathlib.Core.Path.{◌≡◌, refl, ap}
use mathlib.Core.Bool.{Bool, true, false, ◌&&◌, cond}
use mathlib.Core.List.{List, [], ◌∷◌, map}
use native.Mathlib.Omega.{arith}
use Rattle.verdict.specs.Lists.{count}
use Rattle.wire.specs.declared.Drive.{Drive}
use Rattle.wire.specs.declared.Drive.TheVariants.{Released, Driven}
use Rattle.wire.specs.Wire.{level_of, drivers, as_bit}

-- alike on the wire: the same level, and as many drive
pub record Alike (ds es : List Drive) : Type 0 where
  pub level : level_of ds ≡ level_of es
  pub number : drivers ds ≡ drivers es

pub alike-cons : (d : Drive) (ds es : List Drive) → Alike ds es → Alike (d ∷ ds) (d ∷ es)
alike-cons Released ds es same = record { level = same.level; number = same.number }
alike-cons (Driven l) ds es same = record { level = ap (λ k. l && k) same.level; number = ap suc same.number }

module _ {A : Type 0} (speaker : A → Bool) (said : Drive) where
  -- what each party does: the speaker says it, the others release the wire
  abbrev pub says : A → Drive
  says p = cond (speaker p) said Released

  nobody : (ps : List A) → count speaker ps ≡ 0 → Alike (map says ps) []
  nobody [] e = record { level = refl; number = refl }
  nobody (p ∷ ps) e = go (speaker p) e (nobody ps)
    where
      go : (b : Bool) → cond b (suc (count speaker ps)) (count speaker ps) ≡ 0 → (count speaker ps ≡ 0 → Alike (map says ps) []) → Alike (cond b said Released ∷ map says ps) []
      go true e rest = absurd (omega arith)
      go false e rest = record { level = (rest e).level; number = (rest e).number }

  one : (ps : List A) → count speaker ps ≡ 1 → Alike (map says ps) (said ∷ [])
  one [] e = absurd (omega arith)
  one (p ∷ ps) e = go (speaker p) e (one ps)
    where
      go : (b : Bool) → cond b (suc (count speaker ps)) (count speaker ps) ≡ 1 → (count speaker ps ≡ 1 → Alike (map says ps) (said ∷ [])) → Alike (cond b said Released ∷ map says ps) (said ∷ [])
      go true e rest = alike-cons said (map says ps) [] (nobody ps (omega arith))
      go false e rest = record { level = (rest e).level; number = (rest e).number }

  pub one-voice : (someone : Bool) (ps : List A) → count speaker ps ≡ as_bit someone → Alike (map says ps) (cond someone said Released ∷ [])
  one-voice true ps e = one ps e
  one-voice false ps e = record { level = (nobody ps e).level; number = (nobody ps e).number }
