-- The promises of this crate are equations of what a result says, so two results that meet one are equal.
use Prim.Native.Nat.{ℕ}
use mathlib.Core.List.{List}
use mathlib.Core.Path.{◌≡◌, ap, ap₂, sym, ◌∙◌}
use Rattle.std.specs.Prelude.{Result}
use Rattle.verdict.specs.declared.Refusal.{Refusal}
use Rattle.verdict.specs.Refusal.{said}
use Rattle.board.specs.declared.Board.{Board}
use Rattle.verdict.proofs.Faults.{one_result}
use Rattle.board.specs.declared.Outcome.{Outcome}
use Rattle.board.specs.Outcome.{Told, told, outcome_of}
use Rattle.board.specs.Check.{checked}
use Rattle.board.specs.Load.{loaded}
use Rattle.board.specs.Events.{events_verdict}

-- two outcomes that say the same are one outcome
pub one_outcome : (one other : Outcome Refusal) → told one ≡ told other → one ≡ other
one_outcome one other same =
    ap₂ outcome_of (one_result one.verdict other.verdict (ap (λ (t : Told). t.verdict) same)) (ap (λ (t : Told). t.board) same)

pub load-unique : (file : List ℕ) (r s : Outcome Refusal) → told r ≡ loaded file → told s ≡ loaded file → r ≡ s
load-unique file r s p q = one_outcome r s (p ∙ sym q)

pub check-unique : (board : Board) (r s : Result ℕ Refusal) → said r ≡ checked board → said s ≡ checked board → r ≡ s
check-unique board r s p q = one_result r s (p ∙ sym q)

pub check-events-unique : (board : Board) (events : List ℕ) (last : ℕ) (r s : Result ℕ Refusal) → said r ≡ events_verdict board events last → said s ≡ events_verdict board events last → r ≡ s
check-events-unique board events last r s p q = one_result r s (p ∙ sym q)
