-- The levels that an answer makes decode to that answer.
use Prim.Native.Nat.{ℕ, zero, suc, ◌+◌, ◌-◌, ◌^◌, ◌≤◌, ◌<◌}
use mathlib.Core.Path.{◌≡◌, refl, ap, ap₂, sym, ◌∙◌}
use mathlib.Core.Bool.{Bool, true, false, cond}
use mathlib.Core.List.{List, [], ◌∷◌, ◌++◌}
use native.Mathlib.Omega.{arith}
use lib.ListN.{length, get_or, replicate, length-append, length-map, length-replicate, get_or-append}
use lib.Seq.{get_or-append-add}
use lib.Dec.{eqb}
use Rattle.verdict.specs.Bits.{bits, value_of}
use Rattle.verdict.specs.Lists.{All}
use Rattle.verdict.specs.Output.{tabulate, join}
use Rattle.verdict.proofs.Bits.{length-bits, bits_small, value-of-bits}
use Rattle.verdict.proofs.Lists.{tabulate-of, tabulate-ext}
use Rattle.frame.specs.declared.list.Transaction.{Transaction}
use Rattle.frame.specs.declared.answer.Answer.{Answer}
use Rattle.frame.specs.List.{is_read}
use Rattle.frame.specs.Steps.{start_steps, op_steps}
use Rattle.frame.specs.Answers.{sent, answered, silent, answer_to, read_answer}
use Rattle.wire.specs.Wire.{as_bit}
use Rattle.wire.specs.Machines.{clocks_with, clocks_of}
use Rattle.agreement.proofs.Rows.{header_row, row-long}
use Rattle.agreement.specs.Levels.{ones, at, heard, heard_all, answer_levels, levels_of}

-- behind preamble and header stands the answer
module _ (m : ℕ) (t : Transaction) (a : Answer) where
  at-answer : (i clock : ℕ) → clock ≡ m + 15 + i → at (levels_of m t a) clock ≡ as_bit (get_or (answer_levels a ++ (true ∷ [])) i true)
  unfolding levels_of join
  at-answer i clock e =
      let header : List Bool = ones (join (start_steps ∷ op_steps (is_read t) ∷ bits 5 t.address ∷ bits 5 t.register ∷ [])) in
      let long : length header ≡ 14 = ap (λ n. suc (suc n)) (length-map (header_row t) (λ b. eqb b 1) ∙ row-long t) in
      let place : clock - 1 ≡ length (replicate m true) + (length header + i) = rw (length-replicate m true) (omega arith) in
      ap as_bit
      (ap (λ k. get_or (levels_of m t a) k true) place
      ∙ get_or-append-add (replicate m true) (header ++ (answer_levels a ++ (true ∷ []))) (length header + i) true
      ∙ get_or-append-add header (answer_levels a ++ (true ∷ [])) i true)

-- a bit of a row, from its level
bit-of : (row : List ℕ) (i : ℕ) → All (λ b. b < 2) row → i < length row → as_bit (get_or (ones row ++ (true ∷ [])) i true) ≡ get_or row i 0
bit-of [] i small within = absurd (omega arith)
bit-of (zero ∷ row) zero small within = refl
bit-of (suc zero ∷ row) zero small within = refl
bit-of (suc (suc b) ∷ row) zero small within = absurd (omega (arith, small.0))
bit-of (b ∷ row) (suc i) small within = bit-of row i small.1 (omega arith)

-- a read's answer is heard
pub heard-read : (m : ℕ) (t : Transaction) (someone : Bool) (word : ℕ) → word < 2 ^ 16 → is_read t ≡ true →
    let a = cond someone (answer_to t answered word) (answer_to t silent 0) in heard m t (at (levels_of m t a)) ≡ a
heard-read m t true word fits read =
    rw (read, at-answer m t (answer_to t answered word) 1 (m + 16) (omega arith), ← row, value-of-bits 16 word fits)
  where
    bit_at : (i : ℕ) → i < 16 → at (levels_of m t (answer_to t answered word)) (m + 17 + i) ≡ get_or (bits 16 word) i 0
    bit_at i h =
        at-answer m t (answer_to t answered word) (suc (suc i)) (m + 17 + i) (omega arith)
        ∙ bit-of (bits 16 word) i (bits_small 16 word) (rw length-bits h)

    row : bits 16 word ≡ tabulate 16 (λ i. at (levels_of m t (answer_to t answered word)) (m + 17 + i))
    row = tabulate-of 16 _ (bits 16 word) 0 (length-bits 16 word) (λ i h. sym (bit_at i h))
heard-read m t false word fits read = rw (read, at-answer m t (answer_to t silent 0) 1 (m + 16) (omega arith))

-- the decoder looks at no level but the turnaround's second and those of the data
pub heard-same : (m : ℕ) (t : Transaction) (level other : ℕ → ℕ) → level (m + 16) ≡ other (m + 16) →
    ((i : ℕ) → i < 16 → level (m + 17 + i) ≡ other (m + 17 + i)) → heard m t level ≡ heard m t other
heard-same m t level other second word =
    ap₂ (λ l row. cond (is_read t) (read_answer t (record { second = l }) (value_of row)) (answer_to t sent t.«data»)) second (tabulate-ext 16 (λ i. level (m + 17 + i)) (λ i. other (m + 17 + i)) word)

pub levels-long : (m : ℕ) (t : Transaction) (a : Answer) → length (levels_of m t a) ≡ clocks_with m
unfolding levels_of join
levels-long m t a = simp (length-append, length-replicate, length-map, length-bits, answer-long) (omega arith)
  where
    answer-long : (b : Bool) → length (cond b (replicate 18 true) (true ∷ false ∷ ones (bits 16 a.«data»))) ≡ 18
    answer-long true = refl
    answer-long false = ap (λ n. suc (suc n)) (length-map (bits 16 a.«data») (λ b. eqb b 1) ∙ length-bits 16 a.«data»)

-- nor, in a list, at any past its last clock
pub heard-all-same : (m n : ℕ) (ts : List Transaction) (level other : ℕ → ℕ) →
    ((clock : ℕ) → 1 ≤ clock → clock ≤ clocks_of m n ts → level clock ≡ other clock) → heard_all m n ts level ≡ heard_all m n ts other
unfolding heard_all clocks_of
heard-all-same m n [] level other same = refl
heard-all-same m n (t ∷ ts) level other same =
    ap₂ (λ a answers. a ∷ answers)
    (heard-same m t level other (same (m + 16) (omega arith) (omega arith)) (λ i h. same (m + 17 + i) (omega arith) (omega arith)))
    (heard-all-same n n ts (λ clock. level (clocks_with m + clock)) (λ clock. other (clocks_with m + clock)) (λ clock low high. same (clocks_with m + clock) (omega arith) (omega arith)))

-- levels and later ones: a clock among the first, or behind them
module _ (levels later : List Bool) where
  pub at_first : (clock : ℕ) → 1 ≤ clock → clock ≤ length levels → at (levels ++ later) clock ≡ at levels clock
  at_first clock low high = ap as_bit (get_or-append levels later true (clock - 1) (omega arith))

  pub at-later : (clock k : ℕ) → 1 ≤ clock → k ≡ length levels → at (levels ++ later) (k + clock) ≡ at later clock
  at-later clock k low long =
      let place : k + clock - 1 ≡ length levels + (clock - 1) = omega arith in
      ap as_bit (ap (λ i. get_or (levels ++ later) i true) place ∙ get_or-append-add levels later (clock - 1) true)
