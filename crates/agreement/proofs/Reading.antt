-- At most one party answers a header, so the word it captures is the one that the plain machine reads.
use Prim.Native.Nat.{ℕ, suc, ◌^◌, ◌≤◌, ◌<◌}
use mathlib.Core.Path.{◌≡◌, refl, ap}
use mathlib.Core.Bool.{Bool, true, false, cond}
use mathlib.Core.List.{List, [], ◌∷◌}
use native.Mathlib.Omega.{arith}
use Rattle.verdict.specs.Lists.{All, count}
use Rattle.verdict.proofs.Elements.{all_then, none_pass}
use Rattle.frame.specs.declared.list.Transaction.{Transaction}
use Rattle.frame.specs.Answers.{answered, silent, answer_to}
use Rattle.wire.specs.Wire.{as_bit}
use Rattle.wire.specs.Machines.{Core, header_for, read_of}

module _ {P : Type 0} (core : Core P) (t : Transaction) where
  -- whether a party answers the transaction's header
  abbrev asked : P → Bool
  asked = core.answers (header_for t)

  -- what a party captures at the header is `word`, if it answers
  abbrev pub Captures : ℕ → P → Type 0
  Captures word p = cond (asked p) (core.word (header_for t) p) 0 ≡ cond (asked p) word 0

  -- what parties make of the header: whether someone answers, and the word
  pub record Reading (ps : List P) : Type 0 where
    pub someone : Bool
    pub word : ℕ
    pub voices : count asked ps ≡ as_bit someone
    pub captures : All (Captures word) ps
    pub fits : word < 2 ^ 16
    pub answer : read_of core t ps ≡ cond someone (answer_to t answered word) (answer_to t silent 0)

  pub reading : (ps : List P) → count asked ps ≤ 1 → All (λ p. core.word (header_for t) p < 2 ^ 16) ps → Reading ps
  reading [] one small = record { someone = false; word = 0; voices = refl; captures = tt; fits = omega arith; answer = refl }
  reading (p ∷ ps) one small = go (asked p) refl one (λ fewer. reading ps fewer small.1)
    where
      go : (b : Bool) → asked p ≡ b → cond b (suc (count asked ps)) (count asked ps) ≤ 1 → (count asked ps ≤ 1 → Reading ps) → Reading (p ∷ ps)
      go true e one rest =
          let none : count asked ps ≡ 0 = omega arith in
          record {
            someone = true;
            word = core.word (header_for t) p;
            voices = rw e (ap suc none);
            captures = (refl, all_then (λ q. asked q ≡ false) (Captures (core.word (header_for t) p)) ps (λ q other. rw other) (none_pass asked ps none));
            fits = small.0;
            answer = rw e;
          }
      go false e one rest =
          let r = rest one in
          record {
            someone = r.someone;
            word = r.word;
            voices = rw e r.voices;
            captures = (rw e, r.captures);
            fits = r.fits;
            answer = rw e r.answer;
          }
