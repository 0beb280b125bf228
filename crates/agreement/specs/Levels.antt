-- The levels of a transaction, and what the decoder hears in them. Document 01, "Records": "a read is answered exactly if the level at its clock 48 is 0, with the levels of clocks 49-64 as data."
use Rattle.std.specs.Prelude.{ℕ, ◌+◌, ◌-◌, Bool, true, false, cond, List, [], ◌∷◌, ◌++◌, map, get_or, replicate, eqb}
use Rattle.verdict.specs.Bits.{bits, value_of}
use Rattle.verdict.specs.Output.{tabulate, join}
use Rattle.frame.specs.declared.list.Transaction.{Transaction}
use Rattle.frame.specs.declared.answer.Answer.{Answer}
use Rattle.frame.specs.List.{is_read}
use Rattle.frame.specs.Steps.{start_steps, op_steps}
use Rattle.frame.specs.Answers.{silent, answer_by}
use Rattle.wire.specs.Wire.{as_bit}
use Rattle.wire.specs.Machines.{clocks_with}

-- the decoder's rule after a preamble of m ones, over the level at each clock, the first being 1
abbrev pub heard : ℕ → Transaction → (ℕ → ℕ) → Answer
heard m t level = answer_by t (record { second = level (m + 16) }) (value_of (tabulate 16 (λ i. level (m + 17 + i))))

-- the same of a list, the first transaction with a preamble of m ones and each later one with n
unfoldable pub heard_all : ℕ → ℕ → List Transaction → (ℕ → ℕ) → List Answer
heard_all m n [] level = []
heard_all m n (t ∷ ts) level = heard m t level ∷ heard_all n n ts (λ clock. level (clocks_with m + clock))

-- the level at a clock, from 1
abbrev pub at : List Bool → ℕ → ℕ
at levels clock = as_bit (get_or levels (clock - 1) true)

-- the levels of bits, high bit first
abbrev pub ones : List ℕ → List Bool
ones row = map (λ b. eqb b 1) row

-- the levels of turnaround and data: of a silent read nobody's, else 1 0 and the word, whoever drives them
abbrev pub answer_levels : Answer → List Bool
answer_levels a = cond (eqb a.status silent) (replicate 18 true) (true ∷ false ∷ ones (bits 16 a.«data»))

-- the levels of a transaction with this answer: preamble; start, op, address, register; turnaround and data; idle
unfoldable pub levels_of : ℕ → Transaction → Answer → List Bool
levels_of m t a =
    replicate m true
    ++ (ones (join (start_steps ∷ op_steps (is_read t) ∷ bits 5 t.address ∷ bits 5 t.register ∷ []))
    ++ (answer_levels a ++ (true ∷ [])))

-- the levels of a list with these answers
unfoldable pub levels_of_all : ℕ → ℕ → List Transaction → List Answer → List Bool
levels_of_all m n [] answers = []
levels_of_all m n (t ∷ ts) [] = []
levels_of_all m n (t ∷ ts) (a ∷ answers) = levels_of m t a ++ levels_of_all n n ts answers
