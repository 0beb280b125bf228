-- The plain machine transaction by transaction: what one more at the end of a list adds, and that no PHY is lost.
use Prim.Native.Nat.{ℕ, zero, suc, ◌+◌, ◌*◌, ◌-◌}
use mathlib.Core.Path.{◌≡◌, refl, ap, ◌∙◌}
use mathlib.Core.Bool.{Bool, true, false, cond}
use mathlib.Core.List.{List, [], ◌∷◌, ◌++◌, map}
use native.Mathlib.Omega.{arith}
use native.Mathlib.Numerals.{add-one}
use lib.ListN.{length, length-map}
use Rattle.verdict.specs.Output.{tabulate}
use Rattle.verdict.proofs.Lists.{length-tabulate}
use Rattle.frame.specs.declared.list.Transaction.{Transaction}
use Rattle.frame.specs.declared.answer.Answer.{Answer}
use Rattle.frame.specs.Frame.{preamble, clocks}
use Rattle.frame.specs.List.{is_read}
use Rattle.wire.specs.Machines.{Core, header_for, before_reads, before_writes, clocks_with, quiet, acting, plain_answer, left_by_read, left_by_write, plain_after, plain_answers, plain_parties}

module _ {P : Type 0} (core : Core P) where
  pub length-quiet : (n c : ℕ) (ps : List P) → length (quiet core c n ps) ≡ length ps
  unfolding quiet
  length-quiet zero c ps = refl
  length-quiet (suc n) c ps = length-quiet n (suc c) (map (core.happens (suc c)) ps) ∙ length-map ps (core.happens (suc c))

  length-acting : (effect : P → P) (c a b : ℕ) (ps : List P) → length (acting core effect c a b ps) ≡ length ps
  length-acting effect c a b ps = length-quiet b (c + a) _ ∙ length-map (quiet core c a ps) effect ∙ length-quiet a c ps

  length-after : (m : ℕ) (t : Transaction) (c : ℕ) (ps : List P) → length (plain_after core m t c ps) ≡ length ps
  length-after m t c ps = go (is_read t)
    where
      go : (b : Bool) → length (cond b (left_by_read core m t c ps) (left_by_write core m t c ps)) ≡ length ps
      go true = length-acting (core.after_header (header_for t)) c (before_reads m) (clocks_with m - before_reads m) ps
      go false = length-acting (core.after_frame (header_for t) t.«data») c (before_writes m) (clocks_with m - before_writes m) ps

  pub length-parties : (m n : ℕ) (ts : List Transaction) (c : ℕ) (ps : List P) → length (plain_parties core m n ts c ps) ≡ length ps
  unfolding plain_parties
  length-parties m n [] c ps = refl
  length-parties m n (t ∷ ts) c ps = length-parties n n ts (c + clocks_with m) (plain_after core m t c ps) ∙ length-after m t c ps

  -- one transaction more at the end
  parties-more : (ts : List Transaction) (t : Transaction) (c c' : ℕ) (ps : List P) → c' ≡ c + length ts * clocks → plain_parties core preamble preamble (ts ++ (t ∷ [])) c ps ≡ plain_after core preamble t c' (plain_parties core preamble preamble ts c ps)
  unfolding plain_parties
  parties-more [] t c c' ps e =
      let here : c ≡ c' = omega arith in
      ap (λ k. plain_after core preamble t k ps) here
  parties-more (u ∷ ts) t c c' ps e = parties-more ts t (c + clocks) c' (plain_after core preamble u c ps) (omega arith)

  answers-more : (ts : List Transaction) (t : Transaction) (c c' : ℕ) (ps : List P) → c' ≡ c + length ts * clocks → plain_answers core preamble preamble (ts ++ (t ∷ [])) c ps ≡ plain_answers core preamble preamble ts c ps ++ (plain_answer core preamble t c' (plain_parties core preamble preamble ts c ps) ∷ [])
  unfolding plain_parties plain_answers
  answers-more [] t c c' ps e =
      let here : c ≡ c' = omega arith in
      ap (λ k. plain_answer core preamble t k ps ∷ []) here
  answers-more (u ∷ ts) t c c' ps e =
      ap (λ answers. plain_answer core preamble u c ps ∷ answers) (answers-more ts t (c + clocks) c' (plain_after core preamble u c ps) (omega arith))

  -- A list given by its transactions, from PHYs at the start
  module _ (transaction : ℕ → Transaction) (start : List P) where
    -- the parties after the first k transactions
    abbrev pub parties_at : ℕ → List P
    parties_at k = plain_parties core preamble preamble (tabulate k transaction) 0 start

    -- the answer to the transaction at index k
    abbrev pub answer_at : ℕ → Answer
    answer_at k = plain_answer core preamble (transaction k) (k * clocks) (parties_at k)

    pub parties-next : (k : ℕ) → parties_at (k + 1) ≡ plain_after core preamble (transaction k) (k * clocks) (parties_at k)
    unfolding tabulate
    parties-next k =
        let long : k * clocks ≡ 0 + length (tabulate k transaction) * clocks = omega (arith, length-tabulate k transaction) in
        rw add-one (parties-more (tabulate k transaction) (transaction k) 0 (k * clocks) start long)

    pub answers-are : (n : ℕ) → plain_answers core preamble preamble (tabulate n transaction) 0 start ≡ tabulate n answer_at
    unfolding tabulate plain_answers
    answers-are zero = refl
    answers-are (suc n) =
        let long : n * clocks ≡ 0 + length (tabulate n transaction) * clocks = omega (arith, length-tabulate n transaction) in
        answers-more (tabulate n transaction) (transaction n) 0 (n * clocks) start long ∙ ap (λ answers. answers ++ (answer_at n ∷ [])) (answers-are n)
