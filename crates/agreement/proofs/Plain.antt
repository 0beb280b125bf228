-- The plain machine has no wire: it goes by neither follower nor captured word, and keeps what its effects and events keep.
use Prim.Native.Nat.{ℕ, ◌+◌, ◌-◌}
use mathlib.Core.Path.{◌≡◌, refl, ap, ap₂, ◌∙◌}
use mathlib.Core.Bool.{Bool, true, false, cond}
use mathlib.Core.List.{List, [], ◌∷◌, map}
use Rattle.verdict.specs.Lists.{All, count}
use Rattle.verdict.proofs.Elements.{all_map, map-past, count_kept}
use Rattle.frame.specs.declared.list.Transaction.{Transaction}
use Rattle.frame.specs.List.{is_read}
use Rattle.frame.specs.Answers.{sent, answer_to}
use Rattle.wire.specs.declared.Follower.{Follower}
use Rattle.wire.specs.declared.Header.{Header}
use Rattle.wire.specs.Wire.{Party}
use Rattle.wire.specs.Machines.{Core, header_for, quiet, acting, before_reads, before_writes, clocks_with, read_of, plain_answer, left_by_read, left_by_write, plain_after, plain_answers, plain_parties}
use Rattle.wire.proofs.Quiet.{quiet-map, quiet_all, quiet-count}
use Rattle.agreement.specs.Follows.{Line, Keeps, Follows}

module _ {P : Type 0} {wire : Party P} {core : Core P} {line : Line P} {Good : P → Type 0} (laws : Follows wire core line Good) where
  -- a transaction is some clocks, one of which has an effect: what is true of such is true of it
  plain-acting : (Q : (List P → List P) → Type 0) → ((effect : P → P) → Keeps wire core line Good effect → (c a b : ℕ) → Q (acting core effect c a b)) →
      (m : ℕ) (t : Transaction) (c : ℕ) → Q (plain_after core m t c)
  plain-acting Q acts m t c = go (is_read t)
    where
      go : (b : Bool) → Q (λ ps. cond b (left_by_read core m t c ps) (left_by_write core m t c ps))
      go true = acts (core.after_header (header_for t)) (laws.keeps-header (header_for t)) c (before_reads m) (clocks_with m - before_reads m)
      go false = acts (core.after_frame (header_for t) t.«data») (laws.keeps-frame (header_for t) t.«data») c (before_writes m) (clocks_with m - before_writes m)

  pub plain-all : (Q : P → Type 0) → ((effect : P → P) → Keeps wire core line Good effect → (p : P) → Q p → Q (effect p)) →
      (m : ℕ) (t : Transaction) (c : ℕ) (ps : List P) → All Q ps → All Q (plain_after core m t c ps)
  plain-all Q kept =
      let events = quiet_all core Q (λ c. kept (core.happens c) (laws.keeps-events c)) in
      plain-acting (λ plain. (ps : List P) → All Q ps → All Q (plain ps))
      (λ effect keeps c a b ps all. events (c + a) b (map effect (quiet core c a ps)) (all_map Q Q effect (quiet core c a ps) (kept effect keeps) (events c a ps all)))

  pub plain-count : (h : Header) (m : ℕ) (t : Transaction) (c : ℕ) (ps : List P) → count (core.answers h) (plain_after core m t c ps) ≡ count (core.answers h) ps
  plain-count h =
      let events = quiet-count core (core.answers h) (λ c p. (laws.keeps-events c).answers h p) in
      plain-acting (λ plain. (ps : List P) → count (core.answers h) (plain ps) ≡ count (core.answers h) ps)
      (λ effect keeps c a b ps. events (c + a) b (map effect (quiet core c a ps)) ∙ count_kept (core.answers h) effect (keeps.answers h) (quiet core c a ps) ∙ events c a ps)

  module _ (f : Follower) (w : ℕ) where
    events-put : (c n : ℕ) (ps : List P) → quiet core c n (map (line.put f w) ps) ≡ map (line.put f w) (quiet core c n ps)
    events-put = quiet-map core (line.put f w) (λ c p. (laws.keeps-events c).put f w p)

    read-put : (t : Transaction) (ps : List P) → read_of core t (map (line.put f w) ps) ≡ read_of core t ps
    read-put t [] = refl
    read-put t (p ∷ ps) = rw (laws.fields.answers (header_for t) f w p, laws.fields.word (header_for t) f w p, read-put t ps)

    answer-put : (m : ℕ) (t : Transaction) (c : ℕ) (ps : List P) → plain_answer core m t c (map (line.put f w) ps) ≡ plain_answer core m t c ps
    answer-put m t c ps = ap (λ a. cond (is_read t) a (answer_to t sent t.«data»)) (ap (read_of core t) (events-put c (before_reads m) ps) ∙ read-put t (quiet core c (before_reads m) ps))

    after-put : (m : ℕ) (t : Transaction) (c : ℕ) (ps : List P) → plain_after core m t c (map (line.put f w) ps) ≡ map (line.put f w) (plain_after core m t c ps)
    after-put =
        plain-acting (λ plain. (ps : List P) → plain (map (line.put f w) ps) ≡ map (line.put f w) (plain ps))
        (λ effect keeps c a b ps. ap (quiet core (c + a) b) (ap (map effect) (events-put c a ps) ∙ map-past (line.put f w) effect (keeps.put f w) (quiet core c a ps)) ∙ events-put (c + a) b (map effect (quiet core c a ps)))

    pub answers-put : (m n : ℕ) (ts : List Transaction) (c : ℕ) (ps : List P) → plain_answers core m n ts c (map (line.put f w) ps) ≡ plain_answers core m n ts c ps
    unfolding plain_answers
    answers-put m n [] c ps = refl
    answers-put m n (t ∷ ts) c ps =
        ap₂ (λ answer answers. answer ∷ answers) (answer-put m t c ps)
        (ap (plain_answers core n n ts (c + clocks_with m)) (after-put m t c ps) ∙ answers-put n n ts (c + clocks_with m) (plain_after core m t c ps))

    pub parties-put : (m n : ℕ) (ts : List Transaction) (c : ℕ) (ps : List P) → plain_parties core m n ts c (map (line.put f w) ps) ≡ map (line.put f w) (plain_parties core m n ts c ps)
    unfolding plain_parties
    parties-put m n [] c ps = refl
    parties-put m n (t ∷ ts) c ps =
        ap (plain_parties core n n ts (c + clocks_with m)) (after-put m t c ps) ∙ parties-put n n ts (c + clocks_with m) (plain_after core m t c ps)
