-- The levels of a transaction, and so those of a list, are read back as the answers: the preamble's ones are enough, and each of a frame's 32 bits comes in behind the others.
use Prim.Native.Nat.{ℕ, zero, suc, ◌+◌, ◌*◌, ◌-◌, ◌/◌, ◌%◌, ◌^◌, ◌≤◌, ◌<◌, min}
use mathlib.Core.Path.{◌≡◌, refl, ap, ap₂, sym, subst, ◌∙◌}
use mathlib.Core.Bool.{Bool, true, false, cond}
use mathlib.Core.List.{List, [], ◌∷◌, ◌++◌, map-append, append_assoc}
use native.Mathlib.Omega.{arith}
use native.Mathlib.Nat.{mod-eq_of_lt, pow-suc}
use lib.ListN.{length, replicate, length-map, length-append}
use lib.Dec.{eqb}
use Rattle.verdict.specs.Bits.{bit, bits, shift_in, value_of}
use Rattle.verdict.specs.Lists.{All}
use Rattle.verdict.specs.Output.{tabulate, join}
use Rattle.verdict.proofs.Bits.{length-bits, bits_small, shift_in-append, value-more, shift_in-bits}
use Rattle.verdict.proofs.Elements.{all_append}
use Rattle.frame.specs.declared.list.Transaction.{Transaction}
use Rattle.frame.specs.declared.answer.Answer.{Answer}
use Rattle.frame.specs.Frame.{preamble}
use Rattle.frame.specs.List.{is_read}
use Rattle.frame.specs.Answers.{sent, answered, silent, answer_to, read_answer}
use Rattle.wire.specs.declared.Follower.TheVariants.{Hunting, Inside}
use Rattle.wire.specs.Follower.{follow, header_of}
use Rattle.wire.specs.Machines.{clocks_with}
use Rattle.wire.proofs.Followers.{shown, shown-fits}
use Rattle.agreement.specs.Levels.{ones, heard, heard_all, answer_levels, levels_of, levels_of_all}
use Rattle.agreement.specs.Agrees.{Accepted}
use Rattle.agreement.proofs.Seen.{shown-row}
use Rattle.agreement.proofs.Rows.{header_row, row_small, row-long, header_word, row-says}
use Rattle.listener.specs.Frames.{at_first, frames_from}
use Rattle.listener.specs.Records.{records_of, records_of_all}
use Rattle.listener.proofs.Whole.{in_frame}
use Rattle.listener.proofs.FrameWords.{answer_of, record_of}

-- ones until there are enough
after-ones : (m n : ℕ) (rest : List Bool) → n ≤ 32 → 32 ≤ n + m → frames_from (Hunting n) (replicate m true ++ rest) ≡ frames_from (Hunting 32) rest
unfolding frames_from follow
after-ones zero n rest few enough =
    let all : n ≡ 32 = omega arith in
    ap (λ k. frames_from (Hunting k) rest) all
after-ones (suc m) n rest few enough = after-ones m (min (n + 1) 32) rest (omega arith) (omega arith)

-- a frame that starts 00 gives nothing, whatever its other 30 bits, and behind it the listener hunts as at first
pub foreign-unrecorded : (levels rest : List Bool) → length levels ≡ 30 →
    records_of_all (frames_from (Inside 1 0) (false ∷ (levels ++ rest))) ≡ records_of_all (frames_from at_first rest)
unfolding records_of header_of join
foreign-unrecorded levels rest long =
    let frame = shown 0 levels in
    let all : 0 + length levels ≡ 30 = omega arith in
    let fits : frame < 2 ^ 30 = subst (λ (k : ℕ). frame < 2 ^ k) all (shown-fits levels 0 0 (omega arith) (omega arith)) in
    let foreign : frame / 2 ^ 18 / 2 ^ 12 % 4 ≡ 0 = omega arith in
    ap records_of_all (in_frame (false ∷ levels) rest 1 0 (omega arith) (omega arith))
    ∙ rw foreign

regroup : (a b c rest : List Bool) → (a ++ (b ++ (c ++ (true ∷ [])))) ++ rest ≡ a ++ ((b ++ c) ++ (true ∷ rest))
regroup a b c rest = simp append_assoc

-- a transaction with an answer is read back, whatever ones came before it and whatever comes behind it
abbrev ReadBack : Transaction → Answer → Type 0
ReadBack t a = (n : ℕ) (rest : List Bool) → n ≤ 32 →
    records_of_all (frames_from (Hunting n) (levels_of preamble t a ++ rest)) ≡ a ∷ records_of_all (frames_from (Hunting 1) rest)

module _ (t : Transaction) (accepted : Accepted t) where
  -- turnaround and data as a row of bits
  module _ (a : Answer) (row : List ℕ) (levels : answer_levels a ≡ ones row) (long : length row ≡ 18) (small : All (λ b. b < 2) row) where
    -- the frame behind its start
    abbrev whole : List ℕ
    whole = header_row t ++ row

    whole_long : length whole ≡ 30
    whole_long = omega (arith, length-append (header_row t) row, row-long t)

    whole-shown : shown 1 (ones whole) ≡ shift_in (header_word t accepted) row
    whole-shown =
        shown-row 1 1 whole (all_append (λ b. b < 2) (header_row t) row (row_small t) small) (omega arith) (omega (arith, whole_long))
        ∙ shift_in-append 1 (header_row t) row
        ∙ ap (λ h. shift_in h row) (row-says t accepted)

    levels-apart : (rest : List Bool) → levels_of preamble t a ++ rest ≡ replicate preamble true ++ (false ∷ true ∷ (ones whole ++ (true ∷ rest)))
    unfolding levels_of join
    levels-apart rest =
        regroup (replicate preamble true) (false ∷ true ∷ ones (header_row t)) (answer_levels a) rest
        ∙ ap (λ ls. replicate preamble true ++ (false ∷ true ∷ (ls ++ (true ∷ rest))))
        (ap (λ ls. ones (header_row t) ++ ls) levels ∙ sym (map-append (λ b. eqb b 1) (header_row t) row))

    frame-heard : (n : ℕ) (rest : List Bool) → n ≤ 32 →
        frames_from (Hunting n) (levels_of preamble t a ++ rest) ≡ shift_in (header_word t accepted) row ∷ frames_from (Hunting 1) rest
    unfolding frames_from follow
    frame-heard n rest few =
        ap (frames_from (Hunting n)) (levels-apart rest)
        ∙ after-ones preamble n (false ∷ true ∷ (ones whole ++ (true ∷ rest))) few (omega arith)
        ∙ in_frame (ones whole) (true ∷ rest) 2 1 (omega arith) (omega (arith, length-map whole (λ b. eqb b 1), whole_long))
        ∙ ap (λ word. word ∷ frames_from (Hunting 1) rest) whole-shown

    reads-back : (tail : ℕ) → tail < 2 ^ 18 → shift_in (header_word t accepted) row ≡ header_word t accepted * 2 ^ 18 + tail → answer_of t tail ≡ a → ReadBack t a
    unfolding join
    reads-back tail fits says answers n rest few =
        ap records_of_all (frame-heard n rest few)
        ∙ ap (λ records. records ++ records_of_all (frames_from (Hunting 1) rest))
        (ap records_of says ∙ record_of t accepted tail fits ∙ ap (λ b. b ∷ []) answers)

  -- 1 0 and a word, whoever drives them
  word_back : (status word : ℕ) → eqb status silent ≡ false → word < 2 ^ 16 →
      cond (is_read t) (answer_to t answered word) (answer_to t sent word) ≡ answer_to t status word → ReadBack t (answer_to t status word)
  unfolding shift_in
  word_back status word spoken fits answers =
      let before : ℕ = (header_word t accepted * 2 + 1) * 2 + 0 in
      let zero : bit 16 (2 ^ 17 + word) ≡ 0 = omega arith in
      let last : (2 ^ 17 + word) % 2 ^ 16 ≡ word = omega arith in
      reads-back (answer_to t status word) (1 ∷ 0 ∷ bits 16 word) (rw spoken)
      (omega (arith, length-bits 16 word)) (omega arith, (omega arith, bits_small 16 word))
      (2 ^ 17 + word) (omega arith)
      (shift_in-bits 16 before word ∙ omega (arith, mod-eq_of_lt fits))
      (ap₂ (λ second w. cond (is_read t) (read_answer t (record { second = second }) w) (answer_to t sent w)) zero last ∙ answers)

  -- nobody's ones
  silent-back : is_read t ≡ true → ReadBack t (answer_to t silent 0)
  unfolding bits
  silent-back read =
      let all : ℕ = 2 ^ 18 - 1 in
      reads-back (answer_to t silent 0) (bits 18 all) refl (length-bits 18 all) (bits_small 18 all)
      all (omega arith) (shift_in-bits 18 (header_word t accepted) all) (rw read)

  -- every answer that the decoder can give
  answer_back : (someone : Bool) (word : ℕ) → word < 2 ^ 16 →
      ReadBack t (cond (is_read t) (cond someone (answer_to t answered word) (answer_to t silent 0)) (answer_to t sent t.«data»))
  answer_back someone word fits = go (is_read t) someone refl
    where
      go : (read someone : Bool) → is_read t ≡ read →
          ReadBack t (cond read (cond someone (answer_to t answered word) (answer_to t silent 0)) (answer_to t sent t.«data»))
      go true true e = word_back answered word refl fits (rw e)
      go true false e = silent-back e
      go false someone e = word_back sent t.«data» refl accepted.word (rw e)

-- a row of n bits says a number of n bits
value-fits : (n : ℕ) (f : ℕ → ℕ) → ((i : ℕ) → f i ≤ 1) → value_of (tabulate n f) < 2 ^ n
unfolding tabulate shift_in
value-fits zero f small = omega arith
value-fits (suc n) f small = omega (arith, value-more 0 (tabulate n f) (f n), value-fits n f small, small n, pow-suc 2 n)

-- so a list is read back whose answers are those heard in any levels
pub list_back : (ts : List Transaction) (level : ℕ → ℕ) (n : ℕ) → ((clock : ℕ) → level clock ≤ 1) → All Accepted ts → n ≤ 32 →
    let answers = heard_all preamble preamble ts level in
    records_of_all (frames_from (Hunting n) (levels_of_all preamble preamble ts answers)) ≡ answers
unfolding heard_all levels_of_all frames_from join
list_back [] level n small accepted few = refl
list_back (t ∷ ts) level n small accepted few =
    let later : ℕ → ℕ = λ clock. level (clocks_with preamble + clock) in
    let rest = levels_of_all preamble preamble ts (heard_all preamble preamble ts later) in
    let data-levels : ℕ → ℕ = λ i. level (preamble + 17 + i) in
    answer_back t accepted.0 (eqb (level (preamble + 16)) 0) (value_of (tabulate 16 data-levels)) (value-fits 16 data-levels (λ i. small (preamble + 17 + i))) n rest few
    ∙ ap (λ answers. heard preamble t level ∷ answers) (list_back ts later 1 (λ clock. small (clocks_with preamble + clock)) accepted.1 (omega arith))
