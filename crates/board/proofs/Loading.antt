-- A turn of the load: what it finds of its record is what the file's checks say of it, and the PHYs loaded so far are those of the records before it.
use Prim.Native.Nat.{ℕ, ◌<◌, ◌≤◌}
use native.Mathlib.Omega.{arith}
use mathlib.Core.Bool.{Bool, false}
use mathlib.Core.List.{List}
use mathlib.Core.Path.{◌≡◌, ap, ap₂, ◌∙◌}
use lib.ListN.{get_or, drop, get_or-append}
use lib.Dec.{eqb}
use Rattle.verdict.proofs.Lists.{length-tabulate, get_or-tabulate}
use Rattle.verdict.proofs.Outputs.{filled}
use Rattle.verdict.specs.Output.{tabulate}
use Rattle.phy.specs.declared.Phy.{Phy}
use Rattle.phy.specs.Fields.{PhyRecord}
use Rattle.phy.specs.Clock.{fresh}
use Rattle.phy.specs.Sound.{nowhere}
use Rattle.phy.proofs.Every.{any-ext}
use Rattle.board.specs.Record.{has_address, taken_by, fault_of}
use Rattle.board.specs.Load.{address_at, zero_byte_at, record_at, phy_at, used_before, record_fault}
use Rattle.board.proofs.Taken.{taken_at}

module _ (file : List ℕ) (old : List Phy) (n : ℕ) where
  -- a PHY that stands already, where n are loaded
  pub loaded_at : (i : ℕ) → i < n → get_or (filled (phy_at file) old n) i nowhere ≡ phy_at file i
  loaded_at i l =
      get_or-append (tabulate n (phy_at file)) (drop n old) nowhere i (rw length-tabulate l)
      ∙ get_or-tabulate n (phy_at file) nowhere i l

  pub used-before : (k : ℕ) → k ≤ n → has_address (filled (phy_at file) old n) k (address_at file k) ≡ used_before file k
  unfolding has_address used_before phy_at
  used-before k h =
      any-ext k _ _ (λ i l. ap (λ (p : Phy). eqb p.own.address (address_at file k)) (loaded_at i (omega arith)))

-- what is read of the record at index k, once it is what the file says
module _ (file : List ℕ) (k : ℕ) (read : PhyRecord) (as-file : read ≡ record_at file k) where
  -- its checks are the file's, however it is known whether an earlier record has the address
  pub fault-found : (used : Bool) → used ≡ used_before file k → fault_of (zero_byte_at file k) used read ≡ record_fault file k
  unfolding record_fault
  fault-found used u = rw (u, as-file)

  -- as by the table
  pub found-fault : (taken : List Bool) → taken ≡ taken_by (address_at file) k → address_at file k < 256
      → fault_of (zero_byte_at file k) (get_or taken read.own.address false) read ≡ record_fault file k
  unfolding used_before
  found-fault taken so_far byte =
      let address = ap (λ (r : PhyRecord). r.own.address) as-file in
      fault-found _ (ap₂ (λ (table : List Bool) (a : ℕ). get_or table a false) so_far address ∙ taken_at (address_at file) k (address_at file k) byte)

  -- and the PHY that is made of it is the record's
  pub found-phy : fresh read.own read.defaults read.masks ≡ phy_at file k
  unfolding phy_at
  found-phy = rw as-file
