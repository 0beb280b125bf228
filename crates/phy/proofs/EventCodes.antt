-- An event is known by its number, so a number says one thing only.
use Prim.Native.Nat.{ℕ}
use mathlib.Core.Path.{◌≡◌, refl, sym, ap, ◌∙◌}
use mathlib.Core.Bool.{true, cond, true≢false}
use lib.Dec.{eqb}
use Rattle.std.specs.Prelude.{Result, Ok, Err}
use Rattle.phy.specs.declared.events.Event.{Event}
use Rattle.phy.specs.declared.events.Event.TheVariants.{LinkUp, LinkDown, RemoteFault, Jabber, NegotiationComplete, RestartDone, ResetDone}
use Rattle.phy.specs.declared.events.UnknownEvent.{UnknownEvent}
use Rattle.phy.specs.Events.{code_of, is_event, Decodes}

-- the event that has a number; of one that no event has, the last
abbrev event_numbered : ℕ → Event
event_numbered n =
    cond (eqb n 1) LinkUp
    (cond (eqb n 2) LinkDown
    (cond (eqb n 3) RemoteFault
    (cond (eqb n 4) Jabber
    (cond (eqb n 5) NegotiationComplete
    (cond (eqb n 6) RestartDone
    ResetDone)))))

by_number : (event : Event) → event_numbered (code_of event) ≡ event
by_number LinkUp = refl
by_number LinkDown = refl
by_number RemoteFault = refl
by_number Jabber = refl
by_number NegotiationComplete = refl
by_number RestartDone = refl
by_number ResetDone = refl

-- every event's number is one of 1 to 7
pub known_event : (event : Event) → is_event (code_of event) ≡ true
known_event LinkUp = refl
known_event LinkDown = refl
known_event RemoteFault = refl
known_event Jabber = refl
known_event NegotiationComplete = refl
known_event RestartDone = refl
known_event ResetDone = refl

pub one_event : (a b : Event) → code_of a ≡ code_of b → a ≡ b
one_event a b e = sym (by_number a) ∙ ap event_numbered e ∙ by_number b

-- two results that a number may give are equal
pub decodes-unique : (code : ℕ) (r s : Result Event UnknownEvent) → Decodes code r → Decodes code s → r ≡ s
decodes-unique code (Ok a) (Ok b) d e = ap Ok (one_event a b (d ∙ sym e))
decodes-unique code (Ok a) (Err v) d e = absurd (true≢false (sym (known_event a) ∙ ap (λ (k : ℕ). is_event k) d ∙ e.1))
decodes-unique code (Err u) (Ok b) d e = absurd (true≢false (sym (known_event b) ∙ ap (λ (k : ℕ). is_event k) e ∙ d.1))
decodes-unique code (Err u) (Err v) d e = ap Err (ap (λ (n : ℕ). record { 0 = n }) (d.0 ∙ sym e.0))
