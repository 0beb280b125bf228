-- A transaction acts at one place: that of the PHY that takes its address. Nobody else answers it, and it does nothing to anybody else.
use Prim.Native.Nat.{ℕ, zero, suc, ◌+◌, ◌≤◌, ◌<◌}
use mathlib.Core.Path.{◌≡◌, refl, sym, ap, ◌∙◌}
use mathlib.Core.Bool.{Bool, true, false, cond}
use mathlib.Core.List.{List, [], ◌∷◌, map}
use native.Mathlib.Omega.{arith}
use lib.ListN.{length, get_or, set}
use Rattle.verdict.proofs.Elements.{all_of, map_same}
use Rattle.frame.specs.declared.list.Transaction.{Transaction}
use Rattle.frame.specs.declared.answer.Answer.{Answer}
use Rattle.frame.specs.Frame.{preamble, clocks}
use Rattle.frame.specs.List.{is_read}
use Rattle.frame.specs.Answers.{sent, silent, answer_to}
use Rattle.wire.specs.Machines.{header_for, before_reads, before_writes, quiet, read_of, plain_answer, plain_after}
use Rattle.phy.specs.declared.Phy.{Phy}
use Rattle.phy.specs.Sound.{nowhere}
use Rattle.phy.specs.Own.{takes, answers, stores}
use Rattle.phy.specs.Clock.{after_header, after_frame}
use Rattle.phy.proofs.Headers.{answers-taken, stores-taken, after_header-silent, after_frame-silent}
use Rattle.between.specs.Happened.{first_of}
use Rattle.between.proofs.Finding.{first-at, first-reaches, changed-there, changed-nowhere}
use Rattle.plain_machine.specs.Plain.{core_with}
use Rattle.plain_machine.specs.Transact.{clocks_before, after_act, still, answer_of}

-- a transaction acts before its idle clock
pub few-before : (t : Transaction) → clocks_before t ≤ 63
unfolding clocks_before
few-before t = go (is_read t)
  where
    go : (b : Bool) → cond b (before_reads preamble) (before_writes preamble) ≤ 63
    go true = omega arith
    go false = omega arith

-- an answer goes by no event
read-still : (events : List ℕ) (t : Transaction) (ps : List Phy) → read_of still t ps ≡ read_of (core_with events) t ps
read-still events t [] = refl
read-still events t (p ∷ ps) = rw (read-still events t ps)

-- the plain machine's transaction in terms of its act
module _ (events : List ℕ) (t : Transaction) (c : ℕ) (ps : List Phy) where
  pub answer-is : plain_answer (core_with events) preamble t c ps ≡ answer_of t (quiet (core_with events) c (clocks_before t) ps)
  unfolding answer_of clocks_before
  answer-is = go (is_read t) refl
    where
      go : (b : Bool) → is_read t ≡ b → plain_answer (core_with events) preamble t c ps ≡ answer_of t (quiet (core_with events) c (cond b (before_reads preamble) (before_writes preamble)) ps)
      go true e = rw e (sym (read-still events t (quiet (core_with events) c 45 ps)))
      go false e = rw e

  pub after_is : (lead rest : ℕ) → lead ≡ clocks_before t → lead + rest ≡ clocks → plain_after (core_with events) preamble t c ps ≡ quiet (core_with events) (c + lead) rest (map (after_act t) (quiet (core_with events) c lead ps))
  unfolding after_act clocks_before
  after_is lead rest is all = go (is_read t) refl is
    where
      go : (b : Bool) → is_read t ≡ b → lead ≡ cond b (before_reads preamble) (before_writes preamble) → plain_after (core_with events) preamble t c ps ≡ quiet (core_with events) (c + lead) rest (map (after_act t) (quiet (core_with events) c lead ps))
      go true e is =
          let left : rest ≡ 20 = omega arith in
          rw (is, left, e)
          (ap (quiet (core_with events) (c + 45) 20) (map_same (after_header (header_for t)) (after_act t) (quiet (core_with events) c 45 ps) (all_of (λ phy. after_header (header_for t) phy ≡ after_act t phy) (quiet (core_with events) c 45 ps) (λ phy. rw e))))
      go false e is =
          let left : rest ≡ 2 = omega arith in
          rw (is, left, e)
          (ap (quiet (core_with events) (c + 63) 2) (map_same (after_frame (header_for t) t.«data») (after_act t) (quiet (core_with events) c 63 ps) (all_of (λ phy. after_frame (header_for t) t.«data» phy ≡ after_act t phy) (quiet (core_with events) c 63 ps) (λ phy. rw e))))

-- Who does not take its address
module _ (t : Transaction) (phy : Phy) (other : takes t.address phy.own ≡ false) where
  pub other-unanswered : answers (header_for t) phy.own ≡ false
  other-unanswered = go (answers (header_for t) phy.own) refl
    where
      go : (b : Bool) → answers (header_for t) phy.own ≡ b → b ≡ false
      go true e = sym (answers-taken (header_for t) phy.own e) ∙ other
      go false e = refl

  other-unstored : stores (header_for t) phy.own ≡ false
  other-unstored = go (stores (header_for t) phy.own) refl
    where
      go : (b : Bool) → stores (header_for t) phy.own ≡ b → b ≡ false
      go true e = sym (stores-taken (header_for t) phy.own e) ∙ other
      go false e = refl

  pub other-untouched : after_act t phy ≡ phy
  unfolding after_act
  other-untouched = go (is_read t)
    where
      go : (b : Bool) → cond b (after_header (header_for t) phy) (after_frame (header_for t) t.«data» phy) ≡ phy
      go true = after_header-silent (header_for t) phy other-unanswered
      go false = after_frame-silent (header_for t) phy t.«data» other-unstored

-- Answers of some PHYs
module _ (t : Transaction) where
  none_answers : (ps : List Phy) → ((j : ℕ) → j < length ps → answers (header_for t) (get_or ps j nowhere).own ≡ false) → read_of still t ps ≡ answer_to t silent 0
  none_answers [] none = refl
  none_answers (p ∷ ps) none = rw (none 0 (omega arith)) (none_answers ps (λ j l. none (suc j) (omega arith)))

  one-answers : (i : ℕ) (ps : List Phy) → i < length ps → ((j : ℕ) → j < length ps → (j ≡ i → ⊥) → answers (header_for t) (get_or ps j nowhere).own ≡ false) → read_of still t ps ≡ read_of still t (get_or ps i nowhere ∷ [])
  one-answers i [] h others = absurd (omega arith)
  one-answers zero (p ∷ ps) h others = rw (none_answers ps (λ j l. others (suc j) (omega arith) (λ e. omega arith)))
  one-answers (suc i) (p ∷ ps) h others =
      rw (others 0 (omega arith) (λ e. omega arith)) (one-answers i ps (omega arith) (λ j l other. others (suc j) (omega arith) (λ e. other (omega arith))))

-- Where at most one PHY takes the address
module _ (t : Transaction) (ps : List Phy) (alone : (i j : ℕ) → i < length ps → j < length ps → takes t.address (get_or ps i nowhere).own ≡ true → takes t.address (get_or ps j nowhere).own ≡ true → i ≡ j) where
  abbrev taken : Phy → Bool
  taken phy = takes t.address phy.own

  abbrev pub taker : ℕ
  taker = first_of taken ps

  module _ (there : taker < length ps) where
    not_taken : (j : ℕ) → j < length ps → (j ≡ taker → ⊥) → takes t.address (get_or ps j nowhere).own ≡ false
    not_taken j l other = go (takes t.address (get_or ps j nowhere).own) refl
      where
        go : (b : Bool) → takes t.address (get_or ps j nowhere).own ≡ b → b ≡ false
        go true e = absurd (other (alone j taker l there e (first-at taken ps nowhere there)))
        go false e = refl

    pub answered-there : answer_of t ps ≡ answer_of t (get_or ps taker nowhere ∷ [])
    unfolding answer_of
    answered-there = ap (λ (a : Answer). cond (is_read t) a (answer_to t sent t.«data»)) (one-answers t taker ps there (λ j l other. other-unanswered t (get_or ps j nowhere) (not_taken j l other)))

    pub acted-there : map (after_act t) ps ≡ set ps taker (after_act t (get_or ps taker nowhere))
    acted-there = changed-there taken (after_act t) (other-untouched t) ps nowhere alone there

  module _ (past : length ps ≤ taker) where
    none-takes : (j : ℕ) → j < length ps → takes t.address (get_or ps j nowhere).own ≡ false
    none-takes j l = go (takes t.address (get_or ps j nowhere).own) refl
      where
        go : (b : Bool) → takes t.address (get_or ps j nowhere).own ≡ b → b ≡ false
        go true e = absurd (omega (arith, first-reaches taken ps nowhere j l e))
        go false e = refl

    pub answered-nowhere : answer_of t ps ≡ answer_of t []
    unfolding answer_of
    answered-nowhere = ap (λ (a : Answer). cond (is_read t) a (answer_to t sent t.«data»)) (none_answers t ps (λ j l. other-unanswered t (get_or ps j nowhere) (none-takes j l)))

    pub acted-nowhere : map (after_act t) ps ≡ ps
    acted-nowhere = changed-nowhere taken (after_act t) (other-untouched t) ps nowhere alone past
