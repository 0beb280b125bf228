-- Document 01, "Registers", Events: "1 link up (1.2 unchanged); 2 link down (1.2 clears); 3 sets 1.4; 4 sets 1.1; 5 sets 1.5 if 0.12 is one and 0.9 zero; 6 clears 0.9; 7 clears 0.15. In reset only 7 acts."
use Rattle.std.specs.Prelude.{ℕ, ◌≡◌, Bool, true, false, not, ◌&&◌, cond, eqb, leb, Result, MatchResult}
use Rattle.phy.specs.declared.events.Event.{Event}
use Rattle.phy.specs.declared.events.Event.TheVariants.{LinkUp, LinkDown, RemoteFault, Jabber, NegotiationComplete, RestartDone, ResetDone}
use Rattle.phy.specs.declared.events.UnknownEvent.{UnknownEvent}
use Rattle.phy.specs.declared.Phy.{Phy}
use Rattle.phy.specs.Abilities.{one}
use Rattle.phy.specs.Fields.{register_of, sets, clears, with_link}
use Rattle.phy.specs.Registers.{in_reset}

-- the events by number
abbrev pub link_up : ℕ
link_up = 1

abbrev pub link_down : ℕ
link_down = 2

abbrev pub remote_fault : ℕ
remote_fault = 3

abbrev pub jabber : ℕ
jabber = 4

abbrev pub negotiation_complete : ℕ
negotiation_complete = 5

abbrev pub restart_done : ℕ
restart_done = 6

abbrev pub reset_done : ℕ
reset_done = 7

-- each event's number, and whether a number is an event's
abbrev pub code_of : Event → ℕ
code_of LinkUp = link_up
code_of LinkDown = link_down
code_of RemoteFault = remote_fault
code_of Jabber = jabber
code_of NegotiationComplete = negotiation_complete
code_of RestartDone = restart_done
code_of ResetDone = reset_done

abbrev pub is_event : ℕ → Bool
is_event code = leb link_up code && leb code reset_done

-- a number read: the event that has it, or that no event has it
abbrev pub Decodes : ℕ → Result Event UnknownEvent → Type 0
Decodes code r = MatchResult r (λ event. code_of event ≡ code) (λ unknown. (unknown.0 ≡ code) × (is_event code ≡ false))

-- "5 sets 1.5 if 0.12 is one and 0.9 zero"
unfoldable pub completes : Phy → Phy
completes phy = cond (one 12 (register_of 0 phy) && not (one 9 (register_of 0 phy))) (sets 1 5 phy) phy

-- what an event outside reset does; any other number changes nothing
unfoldable pub happening : ℕ → Phy → Phy
happening code phy =
    cond (eqb code link_up) (with_link true phy)
    (cond (eqb code link_down) (with_link false (clears 1 2 phy))
    (cond (eqb code remote_fault) (sets 1 4 phy)
    (cond (eqb code jabber) (sets 1 1 phy)
    (cond (eqb code negotiation_complete) (completes phy)
    (cond (eqb code restart_done) (clears 0 9 phy)
    (cond (eqb code reset_done) (clears 0 15 phy)
    phy))))))

-- "In reset only 7 acts."
unfoldable pub event : ℕ → Phy → Phy
event code phy = cond (in_reset phy && not (eqb code reset_done)) phy (happening code phy)
