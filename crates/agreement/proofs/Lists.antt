-- A list of transactions, by induction: after each transaction every party hunts with the idle clock's one, so the next finds the board as the first did.
use Prim.Native.Nat.{ℕ, ◌+◌, ◌≤◌}
use mathlib.Core.Path.{◌≡◌, refl, ap, ap₂, ◌∙◌, subst}
use mathlib.Core.Bool.{Bool}
use mathlib.Core.List.{List, [], ◌∷◌, ◌++◌, map}
use native.Mathlib.Omega.{arith}
use lib.ListN.{length}
use Rattle.verdict.specs.Lists.{All}
use Rattle.verdict.proofs.Elements.{all_map, all_both, map-then, count_kept}
use Rattle.frame.specs.declared.list.Transaction.{Transaction}
use Rattle.wire.specs.declared.Follower.TheVariants.{Hunting}
use Rattle.wire.specs.Wire.{Party}
use Rattle.wire.specs.Machines.{Core, clocks_with, clocks_of, plain_answer, plain_after, plain_answers, plain_parties}
use Rattle.wire.proofs.Runs.{Goes, goes-nil, goes-append, goes-as}
use Rattle.agreement.specs.Follows.{Line, Follows, Ready, Hunts}
use Rattle.agreement.specs.Levels.{at, heard_all, levels_of, levels_of_all}
use Rattle.agreement.specs.Agrees.{Accepted, station_for_all, rest, settled, AgreesAll}
use Rattle.agreement.proofs.Heard.{heard-same, heard-all-same, levels-long, at_first, at-later}
use Rattle.agreement.proofs.Transaction.{transaction-runs, transaction-heard}
use Rattle.agreement.proofs.Plain.{plain-all, plain-count, answers-put, parties-put}

module _ {P : Type 0} {wire : Party P} {core : Core P} {line : Line P} {Good : P → Type 0} (laws : Follows wire core line Good) where
  -- what a party keeps over a list: the idle clock's one with n more is enough for it
  abbrev Steady : ℕ → P → Type 0
  Steady n p = Good p × (line.enough p ≤ 1 + n)

  rest-ready : (n : ℕ) (p : P) → Steady n p → Ready line Good n (rest line p)
  rest-ready n p steady =
      record {
        waits = record {
          good = laws.fields.good (Hunting 1) 0 p steady.0;
          ones = 1;
          hunts = laws.fields.follower (Hunting 1) 0 p;
          empty = laws.fields.captured (Hunting 1) 0 p;
        };
        enough = rw (laws.fields.enough (Hunting 1) 0 p) steady.1;
      }

  -- the board hunts after a transaction as before it
  next-hunts : (m n : ℕ) (t : Transaction) (c : ℕ) (ps : List P) → Hunts core line Good m n ps → Hunts core line Good n n (map (rest line) (plain_after core m t c ps))
  next-hunts m n t c ps hunts =
      let after : List P = plain_after core m t c ps in
      let before : All (Steady n) ps = all_both (Ready line Good m) (λ p. line.enough p ≤ 1 + n) (Steady n) ps (λ p r few. (r.waits.good, few)) hunts.ready hunts.later in
      let steady : All (Steady n) after = plain-all laws (Steady n) (λ effect keeps p s. (keeps.good p s.0, rw (keeps.enough p s.0) s.1)) m t c ps before in
      record {
        ready = all_map (Steady n) (Ready line Good n) (rest line) after (rest-ready n) steady;
        later = all_map (Steady n) (λ p. line.enough p ≤ 1 + n) (rest line) after (λ p s. rw (laws.fields.enough (Hunting 1) 0 p) s.1) steady;
        one = λ h. rw (count_kept (core.answers h) (rest line) (laws.fields.answers h (Hunting 1) 0) after, plain-count laws h m t c ps) (hunts.one h);
      }

  settled-rest : (ts : List Transaction) (ps : List P) → settled line ts (map (rest line) ps) ≡ map (rest line) ps
  settled-rest [] ps = refl
  settled-rest (t ∷ ts) ps = map-then (rest line) (rest line) (rest line) (laws.fields.again (Hunting 1) (Hunting 1) 0 0) ps

  list-runs : (m n : ℕ) (ts : List Transaction) (c : ℕ) (ps : List P) → All Accepted ts → Hunts core line Good m n ps →
      Goes wire (station_for_all m n ts) c ps (levels_of_all m n ts (plain_answers core m n ts c ps)) (c + clocks_of m n ts) (settled line ts (plain_parties core m n ts c ps))
  unfolding station_for_all levels_of_all clocks_of plain_answers plain_parties
  list-runs m n [] c ps accepted hunts = goes-as wire (goes-nil wire) refl refl (omega arith) refl
  list-runs m n (t ∷ ts) c ps accepted hunts =
      let after : List P = plain_after core m t c ps in
      let c' : ℕ = c + clocks_with m in
      goes-as wire
      (goes-append wire
      (transaction-runs laws m t c ps accepted.0 hunts.ready hunts.one)
      (list-runs n n ts c' (map (rest line) after) accepted.1 (next-hunts m n t c ps hunts)))
      refl
      (ap (λ answers. levels_of m t (plain_answer core m t c ps) ++ levels_of_all n n ts answers) (answers-put laws (Hunting 1) 0 n n ts c' after))
      (omega arith)
      (ap (settled line ts) (parties-put laws (Hunting 1) 0 n n ts c' after) ∙ settled-rest ts (plain_parties core n n ts c' after))

  list-heard : (m n : ℕ) (ts : List Transaction) (c : ℕ) (ps : List P) → All Accepted ts → Hunts core line Good m n ps →
      heard_all m n ts (at (levels_of_all m n ts (plain_answers core m n ts c ps))) ≡ plain_answers core m n ts c ps
  unfolding heard_all levels_of_all plain_answers
  list-heard m n [] c ps accepted hunts = refl
  list-heard m n (t ∷ ts) c ps accepted hunts =
      let after : List P = plain_after core m t c ps in
      let c' : ℕ = c + clocks_with m in
      let first : List Bool = levels_of m t (plain_answer core m t c ps) in
      let later : List Bool = levels_of_all n n ts (plain_answers core n n ts c' after) in
      let long : length first ≡ clocks_with m = levels-long m t (plain_answer core m t c ps) in
      ap₂ (λ a answers. a ∷ answers)
      (heard-same m t (at (first ++ later)) (at first) (at_first first later (m + 16) (omega arith) (omega arith)) (λ i h. at_first first later (m + 17 + i) (omega arith) (omega arith))
      ∙ transaction-heard laws m t c ps accepted.0 hunts.ready hunts.one)
      (heard-all-same n n ts (λ clock. at (first ++ later) (clocks_with m + clock)) (at later) (λ clock low high. at-later first later clock (clocks_with m) low (omega arith))
      ∙ subst (λ answers. heard_all n n ts (at (levels_of_all n n ts answers)) ≡ answers) (answers-put laws (Hunting 1) 0 n n ts c' after) (list-heard n n ts c' (map (rest line) after) accepted.1 (next-hunts m n t c ps hunts)))

  -- demand 3 for any preambles
  pub agrees-all : (m n : ℕ) (ts : List Transaction) (c : ℕ) (ps : List P) → All Accepted ts → Hunts core line Good m n ps → AgreesAll wire core line m n ts c ps
  agrees-all m n ts c ps accepted hunts =
      let run = list-runs m n ts c ps accepted hunts in
      record {
        parties = run.after;
        levels = run.levels-are;
        answers = ap (λ ls. heard_all m n ts (at ls)) run.levels-are ∙ list-heard m n ts c ps accepted hunts;
        alone = run.alone;
      }
