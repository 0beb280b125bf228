-- What stands for an input that is longer than its buffer has the same remainder, or is one record too many as well: it is refused
-- by the same number.
use Prim.Native.Nat.{ℕ, ◌+◌, ◌-◌, ◌*◌, ◌/◌, ◌%◌, ◌≤◌, ◌<◌}
use mathlib.Core.Path.{◌≡◌, sym, ap, ◌∙◌}
use mathlib.Core.List.{List}
use native.Mathlib.Omega.{arith}
use Rattle.std.proofs.Math.Nat.{mod-lt, mul-mod_left, mul-div_cancel, le-div_iff_mul-le, add-mul, one-mul, add-mod}
use native.Mathlib.Decide.{ℕ_discrete}
use lib.ListN.{length, take}
use lib.Seq.{length-take-le, take-length}
use lib.Arith.{digits_mod}
use borrow.Author.Tests.{eq-eqb, ne_eqb, lt-ltb}
use Rattle.verdict.specs.Refusal.{Refused, wrong_length, too_many}
use Rattle.verdict.specs.File.{records, file_verdict, bytes_verdict}
use Rattle.mdiobench.specs.Input.{IsPrefixLen, stand_in}

-- as many bytes as a buffer has, or fewer, are the length of its part of that length
pub counts : (n : ℕ) (xs : List ℕ) → n ≤ length xs → IsPrefixLen n xs
counts n xs within = (within, sym (length-take-le n xs within))

-- the remainder of a sum is that of the remainders' sum
pub sum_of_rests : (rest more size : ℕ) → (rest % size + more % size) % size ≡ (rest + more) % size
sum_of_rests rest more size = sym (add-mod rest more size)

-- what stands for an input is within the buffer
pub stand_in_fits : (room size past : ℕ) → size ≤ room → past < size → stand_in room size past ≤ room
unfolding stand_in
stand_in_fits room size past fits below =
    elim (ℕ_discrete past 0) [ yes none ↦ rw (eq-eqb past 0 none) (omega arith) | no some ↦ rw (ne_eqb past 0 some) (omega arith) ]

module _ (size most : ℕ) (fault : ℕ → ℕ) (file : List ℕ) where
  broken : (length file % size ≡ 0 → ⊥) → file_verdict size most fault file ≡ Refused wrong_length 0
  unfolding file_verdict
  broken part = rw (ne_eqb _ 0 part)

  too_long : length file % size ≡ 0 → most < records size file → file_verdict size most fault file ≡ Refused too_many 0
  unfolding file_verdict
  too_long whole many = rw (eq-eqb _ 0 whole, lt-ltb _ _ many)

-- an input that goes on after a buffer of one record more than allowed, and the buffer's bytes that stand for it
module _ (size most : ℕ) (positive : 0 < size) (fault fault' : ℕ → ℕ) (buffer input : List ℕ) (room : length buffer ≡ (most + 1) * size) (longer : length buffer ≤ length input) where
  abbrev pub past : ℕ
  past = length input % size

  abbrev pub stands : List ℕ
  stands = take (stand_in (length buffer) size past) buffer

  abbrev pub SameRefusal : Type 0
  SameRefusal = file_verdict size most fault stands ≡ file_verdict size most fault' input

  -- a whole number of records, one too many at least
  when_whole : past ≡ 0 → SameRefusal
  unfolding stand_in
  when_whole whole =
      let all : length (take (length buffer) buffer) ≡ (most + 1) * size = length-take-le (length buffer) buffer (omega arith) ∙ room in
      let count : (most + 1) * size / size ≡ most + 1 = mul-div_cancel (most + 1) positive in
      let many : most + 1 ≤ length input / size = (le-div_iff_mul-le positive).1 (omega arith) in
      rw (eq-eqb past 0 whole)
      (too_long size most fault (take (length buffer) buffer) (rw all (mul-mod_left (most + 1) size)) (rw (all, count) (omega arith))
      ∙ sym (too_long size most fault' input whole (omega arith)))

  -- a part of a record at the end
  when-broken : (past ≡ 0 → ⊥) → SameRefusal
  unfolding stand_in
  when-broken part =
      let below : past < size = mod-lt (length input) positive in
      let split : (most + 1) * size ≡ most * size + size = add-mul most 1 size ∙ ap (λ n. most * size + n) (one-mul size) in
      let cut : length buffer - size + past ≡ most * size + past = omega (arith, room, split) in
      let all : length (take (length buffer - size + past) buffer) ≡ most * size + past = length-take-le _ buffer (omega (arith, room, split)) ∙ cut in
      rw (ne_eqb past 0 part)
      (broken size most fault (take (length buffer - size + past) buffer) (λ none. part (sym (digits_mod most below) ∙ ap (λ n. n % size) (sym all) ∙ none))
      ∙ sym (broken size most fault' input part))

  pub same-refusal : SameRefusal
  same-refusal = elim (ℕ_discrete past 0) [ yes whole ↦ when_whole whole | no part ↦ when-broken part ]

-- a file of single bytes has no part of a record: an input that goes on after its buffer is too long, and so is the whole buffer
module _ (most largest number : ℕ) where
  too-many-bytes : (file : List ℕ) → most < length file → bytes_verdict most largest number file ≡ Refused too_many 0
  unfolding bytes_verdict
  too-many-bytes file many = rw (lt-ltb most (length file) many)

  pub same-refusal-of-bytes : (buffer input : List ℕ) → length buffer ≡ most + 1 → length buffer ≤ length input →
      bytes_verdict most largest number (take (stand_in (length buffer) 1 (length input % 1)) buffer) ≡ bytes_verdict most largest number input
  unfolding stand_in
  same-refusal-of-bytes buffer input room longer =
      let whole : length input % 1 ≡ 0 = omega arith in
      rw (whole, take-length buffer)
      (too-many-bytes buffer (omega arith) ∙ sym (too-many-bytes input (omega arith)))
