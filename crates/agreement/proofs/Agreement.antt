-- Demand 3. On a board that hunts, an accepted list sent with preambles of 32 ones leaves the parties of the plain machine, at rest; the decoder hears the plain answers; in no clock do two drive.
use Prim.Native.Nat.{ℕ, ◌+◌, ◌≤◌}
use mathlib.Core.List.{List, map}
use native.Mathlib.Omega.{arith}
use Rattle.verdict.specs.Lists.{All}
use Rattle.verdict.proofs.Elements.{all_then, count_kept}
use Rattle.frame.specs.declared.list.Transaction.{Transaction}
use Rattle.frame.specs.Frame.{preamble}
use Rattle.wire.specs.Wire.{Party}
use Rattle.wire.specs.Machines.{Core}
use Rattle.agreement.specs.Follows.{Line, Follows, Waits, OneAnswers}
use Rattle.agreement.specs.Agrees.{Accepted, AgreesAll}
use Rattle.agreement.proofs.Start.{events-wait, whole-preamble}
use Rattle.agreement.proofs.Lists.{agrees-all}

module _ {P : Type 0} {wire : Party P} {core : Core P} {line : Line P} {Good : P → Type 0} (laws : Follows wire core line Good) where
  -- after any number of clocks
  pub agreement : (ts : List Transaction) (c : ℕ) (ps : List P) → All Accepted ts → All (Waits line Good) ps → OneAnswers core ps →
      AgreesAll wire core line preamble preamble ts c ps
  agreement ts c ps accepted waits one =
      agrees-all laws preamble preamble ts c ps accepted
      (record {
        ready = whole-preamble laws ps waits;
        later = all_then (Waits line Good) (λ p. line.enough p ≤ 1 + preamble) ps (λ p w. omega (arith, laws.few-enough p w.good)) waits;
        one = one;
      })

  -- a whole run: the events of clock 0 come first
  pub whole-agreement : (ts : List Transaction) (ps : List P) → All Accepted ts → All (Waits line Good) ps → OneAnswers core ps →
      AgreesAll wire core line preamble preamble ts 0 (map (core.happens 0) ps)
  whole-agreement ts ps accepted waits one =
      agreement ts 0 (map (core.happens 0) ps) accepted
      (events-wait laws 0 ps waits)
      (λ h. rw (count_kept (core.answers h) (core.happens 0) ((laws.keeps-events 0).answers h) ps) (one h))
