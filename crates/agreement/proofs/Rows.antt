-- The table's rows on the wire: preamble and start, then the twelve bits that say the header, then turnaround and data.
use Prim.Native.Nat.{ℕ, zero, suc, ◌+◌, ◌*◌, ◌/◌, ◌%◌, ◌^◌, ◌≤◌, ◌<◌}
use mathlib.Core.Path.{◌≡◌, refl, ap, ◌∙◌}
use mathlib.Core.Bool.{Bool, true, false}
use mathlib.Core.List.{List, [], ◌∷◌, ◌++◌, map, map-append, append-nil}
use native.Mathlib.Omega.{arith}
use native.Mathlib.Nat.{mod-eq_of_lt}
use lib.ListN.{length, replicate, length-append, length-map}
use borrow.Author.Tests.{eqb-true}
use Rattle.verdict.specs.Bits.{bits, shift_in}
use Rattle.verdict.specs.Lists.{All}
use Rattle.verdict.specs.Output.{join}
use Rattle.verdict.proofs.Bits.{length-bits, bits_small, shift_in-append, shift_in-bits}
use Rattle.verdict.proofs.Elements.{all_append}
use Rattle.verdict.proofs.Lists.{join-append}
use Rattle.frame.specs.declared.list.Transaction.{Transaction}
use Rattle.frame.specs.List.{is_read}
use Rattle.frame.specs.Steps.{drive_one, release, start_steps, op_steps, turnaround_steps, data_steps, table}
use Rattle.wire.specs.declared.Drive.TheVariants.{Released, Driven}
use Rattle.wire.specs.Wire.{station_drive}
use Rattle.wire.specs.Follower.{header_of, header_seen}
use Rattle.wire.specs.Machines.{header_for}
use Rattle.wire.proofs.Followers.{shown}
use Rattle.agreement.specs.Levels.{ones}
use Rattle.agreement.specs.Agrees.{Accepted, station_for}
use Rattle.agreement.proofs.Phase.{hears}
use Rattle.agreement.proofs.Seen.{hears-row, shown-row}

-- the steps of op, address and register, and those of turnaround and data
abbrev header_rows : Transaction → List (List ℕ)
header_rows t = op_steps (is_read t) ∷ bits 5 t.address ∷ bits 5 t.register ∷ []

abbrev frame_rows : Transaction → List (List ℕ)
frame_rows t = turnaround_steps (is_read t) ∷ data_steps (is_read t) t.«data» ∷ []

abbrev pub header_row : Transaction → List ℕ
header_row t = join (header_rows t)

abbrev pub frame_row : Transaction → List ℕ
frame_row t = join (frame_rows t)

-- what the station does, row by row
pub station-rows : (m : ℕ) (t : Transaction) →
    station_for m t ≡ (replicate m (Driven true) ++ (Driven false ∷ Driven true ∷ [])) ++ (map station_drive (header_row t) ++ (map station_drive (frame_row t) ++ (Released ∷ [])))
unfolding join
station-rows m t = ap (map station_drive) rows ∙ simp (map-append, ones-driven)
  where
    start : List (List ℕ)
    start = replicate m drive_one ∷ start_steps ∷ []

    idle : List (List ℕ)
    idle = (release ∷ []) ∷ []

    rows : join (table m t) ≡ (replicate m drive_one ++ start_steps) ++ (header_row t ++ (frame_row t ++ (release ∷ [])))
    rows =
        join-append start (header_rows t ++ (frame_rows t ++ idle))
        ∙ ap (λ xs. join start ++ xs) (join-append (header_rows t) (frame_rows t ++ idle) ∙ ap (λ xs. header_row t ++ xs) (join-append (frame_rows t) idle))

    ones-driven : (m : ℕ) → map station_drive (replicate m drive_one) ≡ replicate m (Driven true)
    ones-driven zero = refl
    ones-driven (suc m) = ap (λ ds. Driven true ∷ ds) (ones-driven m)

module _ (t : Transaction) where
  pub row_small : All (λ b. b < 2) (header_row t)
  unfolding join
  row_small =
      all_append (λ b. b < 2) (op_steps (is_read t)) (bits 5 t.address ++ (bits 5 t.register ++ [])) (op-small (is_read t))
      (all_append (λ b. b < 2) (bits 5 t.address) (bits 5 t.register ++ []) (bits_small 5 t.address)
      (all_append (λ b. b < 2) (bits 5 t.register) [] (bits_small 5 t.register) tt))
    where
      op-small : (b : Bool) → All (λ b. b < 2) (op_steps b)
      op-small true = (omega arith, (omega arith, tt))
      op-small false = (omega arith, (omega arith, tt))

  pub row-long : length (header_row t) ≡ 12
  unfolding join
  row-long = simp (length-append, length-bits)

module _ (t : Transaction) (accepted : Accepted t) where
  -- the fourteen bits that the header says
  abbrev pub header_word : ℕ
  header_word = ((4 + t.op) * 32 + t.address) * 32 + t.register

  pub op-is : (t.op ≤ 2) × (shift_in 1 (op_steps (is_read t)) ≡ 4 + t.op)
  unfolding shift_in
  op-is = go (is_read t) refl
    where
      go : (b : Bool) → is_read t ≡ b → (t.op ≤ 2) × (shift_in 1 (op_steps b) ≡ 4 + t.op)
      go true e = let two : t.op ≡ 2 = eqb-true t.op 2 e in (omega arith, omega arith)
      go false e = let one : t.op ≡ 1 = accepted.op e in (omega arith, omega arith)

  pub row-says : shift_in 1 (header_row t) ≡ header_word
  unfolding join
  row-says =
      shift_in-append 1 (op_steps (is_read t)) (bits 5 t.address ++ (bits 5 t.register ++ []))
      ∙ simp (shift_in-append, shift_in-bits, append-nil)
      (omega (arith, op-is, mod-eq_of_lt accepted.address, mod-eq_of_lt accepted.register))

  pub header-long : length (map station_drive (header_row t)) ≡ 12
  header-long = length-map (header_row t) station_drive ∙ row-long t

  pub header-heard : hears false 0 2 (map station_drive (header_row t)) ≡ ones (header_row t)
  header-heard = hears-row 0 2 (header_row t) (row_small t)

  pub header-shown : shown 1 (hears false 0 2 (map station_drive (header_row t))) ≡ header_word
  header-shown = ap (shown 1) header-heard ∙ shown-row 1 1 (header_row t) (row_small t) (omega arith) (omega (arith, row-long t)) ∙ row-says

  pub header-fits : header_word < 2 ^ 14
  header-fits = omega (arith, op-is, accepted.address, accepted.register)

  pub header-says : header_seen 14 header_word ≡ header_for t
  unfolding header_of
  header-says =
      let start : header_word / 2 ^ 0 / 2 ^ 12 % 4 ≡ 1 = omega (arith, op-is, accepted.address, accepted.register) in
      let op : header_word / 2 ^ 0 / 2 ^ 10 % 4 ≡ t.op = omega (arith, op-is, accepted.address, accepted.register) in
      let address : header_word / 2 ^ 0 / 2 ^ 5 % 32 ≡ t.address = omega (arith, op-is, accepted.address, accepted.register) in
      let register : header_word / 2 ^ 0 % 32 ≡ t.register = omega (arith, op-is, accepted.address, accepted.register) in
      λ i. record { start = start i; op = op i; address = address i; register = register i }
