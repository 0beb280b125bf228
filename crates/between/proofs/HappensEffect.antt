-- What the events after a clock do to a PHY is one event after the other, each only to the PHY that it is for: so it has what each of these has. One such thing is to be an effect.
use Prim.Native.Nat.{ℕ, zero, suc}
use mathlib.Core.Path.{refl}
use mathlib.Core.Bool.{cond}
use mathlib.Core.List.{List}
use Rattle.verdict.specs.File.{records}
use Rattle.phy.specs.declared.Phy.{Phy}
use Rattle.phy.specs.Events.{event}
use Rattle.phy.proofs.Effects.{Effect, nothing, one-after, either, event-effect}
use Rattle.board.specs.Events.{event_record, event_code}
use Rattle.between.specs.Events.{is_for, happens_from, happens}
use Rattle.between.proofs.EachPlace.{Closed}

-- what the record at index k does to a PHY after clock c
abbrev pub one_event : List ℕ → ℕ → ℕ → Phy → Phy
one_event events c k phy = cond (is_for events k c phy) (event (event_code events k) phy) phy

module _ {Q : (Phy → Phy) → Type 0} (closed : Closed Q) (events : List ℕ) (c : ℕ) (each : (k : ℕ) → Q (one_event events c k)) where
  pub happens-from-by : (left k : ℕ) → Q (happens_from events k left c)
  unfolding happens_from
  happens-from-by zero k = closed.nothing
  happens-from-by (suc left) k = closed.after (one_event events c k) (happens_from events (suc k) left c) (each k) (happens-from-by left (suc k))

  pub happens-by : Q (happens events c)
  happens-by = happens-from-by (records event_record events) 0

pub effects-closed : Closed Effect
effects-closed = record { nothing = nothing; after = λ f g ef eg. one-after ef eg }

one-effect : (events : List ℕ) (c k : ℕ) → Effect (one_event events c k)
one-effect events c k =
    either (is_for events k c) (λ l w phy. refl) (event (event_code events k)) (λ phy. phy) (event-effect (event_code events k)) nothing

pub happens-from-effect : (events : List ℕ) (k left c : ℕ) → Effect (happens_from events k left c)
happens-from-effect events k left c = happens-from-by effects-closed events c (one-effect events c) left k

pub happens-effect : (events : List ℕ) (c : ℕ) → Effect (happens events c)
happens-effect events c = happens-by effects-closed events c (one-effect events c)
