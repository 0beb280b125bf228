-- The table by position: each row's clocks are those after the rows before it.
use Prim.Native.Nat.{ℕ, zero, suc, ◌+◌, ◌-◌, ◌≤◌, ◌<◌}
use mathlib.Core.Path.{◌≡◌, refl, ap, sym, ◌∙◌}
use mathlib.Core.Bool.{Bool, true, false}
use mathlib.Core.List.{List, [], ◌∷◌, ◌++◌}
use native.Mathlib.Omega.{arith}
use native.Mathlib.Numerals.{add-one}
use native.Mathlib.Decide.{ℕ_discrete}
use lib.ListN.{length, get_or, replicate, length-append, get_or-replicate, get_or-append, get_or-eq_default}
use lib.Seq.{get_or-append-add}
use Rattle.verdict.specs.Bits.{bit, bits}
use Rattle.verdict.specs.Output.{tabulate, join}
use Rattle.verdict.proofs.Lists.{tabulate-of}
use Rattle.verdict.proofs.Bits.{length-bits, get_or-bits}
use Rattle.frame.specs.declared.list.Transaction.{Transaction}
use Rattle.frame.specs.List.{is_read}
use Rattle.frame.specs.Steps.{column, start_steps, op_steps, turnaround_steps, data_steps, steps_of, step_at}

-- what document 01's table says of a transaction, row by row
pub record ByTable (t : Transaction) : Type 0 where
  pub preamble : (p : ℕ) → 1 ≤ p → p ≤ 32 → step_at t p ≡ 1
  pub start : (p : ℕ) → 33 ≤ p → p ≤ 34 → step_at t p ≡ bit (34 - p) 1
  pub op : (p : ℕ) → 35 ≤ p → p ≤ 36 → step_at t p ≡ bit (36 - p) (column (is_read t) 1 2)
  pub address : (p : ℕ) → 37 ≤ p → p ≤ 41 → step_at t p ≡ bit (41 - p) t.address
  pub register : (p : ℕ) → 42 ≤ p → p ≤ 46 → step_at t p ≡ bit (46 - p) t.register
  pub turnaround-first : step_at t 47 ≡ column (is_read t) 1 2
  pub turnaround-second : step_at t 48 ≡ column (is_read t) 0 3
  pub «data» : (p : ℕ) → 49 ≤ p → p ≤ 64 → step_at t p ≡ column (is_read t) (bit (64 - p) t.«data») 3
  pub idle : (p : ℕ) → 65 ≤ p → step_at t p ≡ 2
  pub before : step_at t 0 ≡ 2

length-data : (reads : Bool) (word : ℕ) → length (data_steps reads word) ≡ 16
length-data false word = length-bits 16 word
length-data true word = refl

get_or-data : (reads : Bool) (word i : ℕ) → i < 16 → get_or (data_steps reads word) i 2 ≡ column reads (bit (16 - (i + 1)) word) 3
get_or-data false word i h = get_or-bits 16 word 2 i h
get_or-data true word i h = get_or-replicate 16 i 3 2 h

module _ (t : Transaction) where
  at : (p : ℕ) → 1 ≤ p → step_at t p ≡ get_or (steps_of t) (p - 1) 2
  unfolding step_at
  at zero h = absurd (omega arith)
  at (suc i) h = let e : i ≡ suc i - 1 = omega arith in ap (λ k. get_or (steps_of t) k 2) e

  -- a row that n steps stand before
  row : (before steps after : List ℕ) (n : ℕ) → length before ≡ n → steps_of t ≡ before ++ (steps ++ after) → (p : ℕ) → n < p → p ≤ n + length steps → step_at t p ≡ get_or steps (p - (n + 1)) 2
  row before steps after n long split p h l =
      let place : p - 1 ≡ length before + (p - (n + 1)) = omega arith in
      let within : p - (n + 1) < length steps = omega arith in
      rw (at p (omega arith), split, place, get_or-append-add before (steps ++ after), get_or-append steps after 2 (p - (n + 1)) within)

  -- a row of m bits, high bit first
  bits-row : (before after : List ℕ) (n m word : ℕ) → length before ≡ n → steps_of t ≡ before ++ (bits m word ++ after) → (p : ℕ) → n < p → p ≤ n + m → step_at t p ≡ bit (n + m - p) word
  bits-row before after n m word long split p h l =
      let place : m - (p - (n + 1) + 1) ≡ n + m - p = omega arith in
      let within : p ≤ n + length (bits m word) = rw length-bits l in
      row before (bits m word) after n long split p h within
      ∙ get_or-bits m word 2 (p - (n + 1)) (omega arith)
      ∙ ap (λ k. bit k word) place

  -- the rows before the op, before the address, and before the data
  to_start : List ℕ
  to_start = replicate 32 1 ++ start_steps

  to-op : List ℕ
  to-op = to_start ++ op_steps (is_read t)

  to-turnaround : List ℕ
  to-turnaround = to-op ++ (bits 5 t.address ++ (bits 5 t.register ++ turnaround_steps (is_read t)))

  after_op : List ℕ
  after_op = join (bits 5 t.address ∷ bits 5 t.register ∷ turnaround_steps (is_read t) ∷ data_steps (is_read t) t.«data» ∷ (2 ∷ []) ∷ [])

  -- a write's op is 01 and a read's 10
  op-bits : (reads : Bool) → op_steps reads ≡ bits 2 (column reads 1 2)
  unfolding bits
  op-bits false = refl
  op-bits true = refl

  pub length-steps : length (steps_of t) ≡ 65
  unfolding steps_of join bits
  length-steps = simp (length-append, length-data)

  -- the idle clock comes after 64 steps, and nothing comes after it
  idle-after : (p : ℕ) → 65 ≤ p → step_at t p ≡ 2
  unfolding steps_of join bits to_start to-op to-turnaround
  idle-after p h = go (ℕ_discrete p 65)
    where
      before : List ℕ
      before = to-turnaround ++ data_steps (is_read t) t.«data»

      go : Dec (p ≡ 65) → step_at t p ≡ 2
      go (yes e) =
          let long : length before ≡ 64 = simp length-data in
          rw e (row before (2 ∷ []) [] 64 long refl 65 (omega arith) (omega arith))
      go (no e) =
          let past : length (steps_of t) ≤ p - 1 = omega (arith, length-steps) in
          at p (omega arith) ∙ get_or-eq_default (steps_of t) 2 past

  pub by-table : ByTable t
  unfolding step_at steps_of join bits to_start to-op after_op to-turnaround
  by-table =
      let word = t.«data» in
      record {
        preamble = λ p h l. row [] (replicate 32 1) _ 0 refl refl p h l ∙ get_or-replicate 32 (p - 1) 1 2 (omega arith);
        start = bits-row (replicate 32 1) _ 32 2 1 refl refl;
        op = bits-row to_start _ 34 2 (column (is_read t) 1 2) refl (ap (λ (xs : List ℕ). to_start ++ (xs ++ after_op)) (op-bits (is_read t)));
        address = bits-row to-op _ 36 5 t.address refl refl;
        register = bits-row (to-op ++ bits 5 t.address) _ 41 5 t.register refl refl;
        turnaround-first = refl;
        turnaround-second = refl;
        «data» = λ p h l.
            let place : 16 - (p - 49 + 1) ≡ 64 - p = omega arith in
            row to-turnaround (data_steps (is_read t) word) _ 48 refl refl p h (omega (arith, length-data (is_read t) word))
            ∙ get_or-data (is_read t) word (p - 49) (omega arith)
            ∙ ap (λ k. column (is_read t) (bit k word) 3) place;
        idle = idle-after;
        before = refl;
      }

  -- the 65 steps are the steps of positions 1 to 65
  pub steps-by-position : tabulate 65 (λ i. step_at t (i + 1)) ≡ steps_of t
  unfolding step_at
  steps-by-position = sym (tabulate-of 65 (λ i. step_at t (i + 1)) (steps_of t) 2 length-steps (λ i h. rw add-one))

-- its rows for the check of the code, at any number that is the row's position
pub at-preamble : (t : Transaction) (p : ℕ) → 1 ≤ p → p ≤ 32 → step_at t p ≡ 1
at-preamble t = (by-table t).preamble

pub at-start : (t : Transaction) (p : ℕ) → 33 ≤ p → p ≤ 34 → step_at t p ≡ bit (34 - p) 1
at-start t = (by-table t).start

pub at-op : (t : Transaction) (p : ℕ) → 35 ≤ p → p ≤ 36 → step_at t p ≡ bit (36 - p) (column (is_read t) 1 2)
at-op t = (by-table t).op

pub at-address : (t : Transaction) (p : ℕ) → 37 ≤ p → p ≤ 41 → step_at t p ≡ bit (41 - p) t.address
at-address t = (by-table t).address

pub at-register : (t : Transaction) (p : ℕ) → 42 ≤ p → p ≤ 46 → step_at t p ≡ bit (46 - p) t.register
at-register t = (by-table t).register

pub at-turnaround-first : (t : Transaction) (p : ℕ) → p ≡ 47 → step_at t p ≡ column (is_read t) 1 2
at-turnaround-first t p here = rw here (by-table t).turnaround-first

pub at-turnaround-second : (t : Transaction) (p : ℕ) → p ≡ 48 → step_at t p ≡ column (is_read t) 0 3
at-turnaround-second t p here = rw here (by-table t).turnaround-second

pub at-data : (t : Transaction) (p : ℕ) → 49 ≤ p → p ≤ 64 → step_at t p ≡ column (is_read t) (bit (64 - p) t.«data») 3
at-data t = (by-table t).«data»

pub at-idle : (t : Transaction) (p : ℕ) → 65 ≤ p → step_at t p ≡ 2
at-idle t = (by-table t).idle

pub before-first : (t : Transaction) (p : ℕ) → p ≡ 0 → step_at t p ≡ 2
before-first t p here = rw here (by-table t).before

pub ruleset table = (at-preamble, at-start, at-op, at-address, at-register, at-turnaround-first, at-turnaround-second, at-data, at-idle, before-first)
