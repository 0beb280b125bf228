-- What a record's parse says of its checks' finding, and who has an address.
use Prim.Native.Nat.{ℕ, zero, suc, ◌≤◌}
use mathlib.Core.Path.{◌≡◌, refl, ap, ◌∙◌}
use mathlib.Core.List.{List}
use native.Mathlib.Omega.{arith}
use lib.Dec.{eqb}
use lib.ListN.{length, get_or, take, length-map, get_or-map}
use Rattle.std.proofs.lemmas.List.{length-take-le, get_or-take}
use Rattle.verdict.specs.Refusal.{Good, Bad, judged_by, refusal_of}
use Rattle.phy.specs.declared.Phy.{Phy}
use Rattle.phy.specs.Record.{any}
use Rattle.phy.specs.Sound.{nowhere}
use Rattle.phy.proofs.Every.{any-ext}
use Rattle.board.specs.Record.{has_address, addresses_of}

module _ {A : Type 0} where
  -- the number that was found
  pub refusal-judged : (finding : ℕ) (own : A) → refusal_of (judged_by finding own) ≡ finding
  refusal-judged zero own = refl
  refusal-judged (suc c) own = refl

  -- a good record is the one that was judged
  pub good-own : (finding : ℕ) (own good : A) → judged_by finding own ≡ Good good → good ≡ own
  good-own zero own good e = cc
  good-own (suc c) own good e = cc

  -- and it passed its checks
  pub good-passes : (finding : ℕ) (own good : A) → judged_by finding own ≡ Good good → (finding ≡ 0) × (good ≡ own)
  good-passes zero own good e = (refl, cc)
  good-passes (suc number) own good e = absurd (let z : ◌≡◌ {A = ℕ} 0 1 = cc in omega arith)

  -- a bad one has the number that they found, and none is 0
  pub bad-fails : (finding number : ℕ) (own : A) → judged_by finding own ≡ Bad number → (c : ℕ) × (finding ≡ suc c) × (number ≡ suc c)
  bad-fails zero number own e = absurd (let z : ◌≡◌ {A = ℕ} 0 1 = cc in omega arith)
  bad-fails (suc c) number own e = (c, refl, cc)

-- who has an address is told by the addresses alone
pub among-is : (phys : List Phy) (n address : ℕ) → any n (λ i. eqb (get_or (addresses_of phys) i 0) address) ≡ has_address phys n address
unfolding has_address
among-is phys n address = any-ext n _ _ (λ i l. ap (λ x. eqb x address) (get_or-map (λ (phy : Phy). phy.own.address) phys i nowhere))

-- and of the first n PHYs by the first n
pub among-first : (phys : List Phy) (n address : ℕ) → n ≤ length phys
    → any (length (take n (addresses_of phys))) (λ i. eqb (get_or (take n (addresses_of phys)) i 0) address) ≡ has_address phys n address
unfolding has_address
among-first phys n address few =
    let addresses = addresses_of phys in
    let long : n ≤ length addresses = rw length-map few in
    rw (length-take-le n addresses long)
    (any-ext n _ _ (λ i below. ap (λ a. eqb a address) (get_or-take n addresses i 0 below ∙ get_or-map (λ (phy : Phy). phy.own.address) phys i nowhere)))
