-- Document 01, "Records": "Events at one clock act in file order." The records of an event file one after the other, as a machine goes through them, and the place of each.
use Rattle.std.specs.Prelude.{ℕ, zero, suc, Bool, ◌&&◌, cond, List, [], ◌∷◌, length, map, eqb, ltb, leb, Option, Some, None}
use Rattle.verdict.specs.File.{records}
use Rattle.phy.specs.declared.own.Own.{Own}
use Rattle.phy.specs.declared.Phy.{Phy}
use Rattle.phy.specs.Own.{takes}
use Rattle.phy.specs.Events.{event}
use Rattle.board.specs.Events.{event_record, event_clock, event_address, event_code}

-- the place of the first element that passes a test; where none does, how many they are
unfoldable pub first_of : {A : Type 0} → (A → Bool) → List A → ℕ
first_of test [] = 0
first_of test (x ∷ xs) = cond (test x) 0 (suc (first_of test xs))

-- a place, where it is one of the list's
abbrev pub found_at : {A : Type 0} → ℕ → List A → Option ℕ
found_at place xs = cond (ltb place (length xs)) (Some place) None

-- the place of the PHY that has an address, and of the one that takes frames to it
abbrev pub place_of : List Own → ℕ → ℕ
place_of owns address = first_of (λ own. eqb address own.address) owns

abbrev pub taker_of : List Own → ℕ → ℕ
taker_of owns address = first_of (takes address) owns

-- whether the event record at an index comes up to a clock
abbrev pub is_due : List ℕ → ℕ → ℕ → Bool
is_due events next clock = ltb next (records event_record events) && leb (event_clock events next) clock

-- what the event of the record at index k does to a PHY: nothing to those at other addresses
abbrev pub event_on : List ℕ → ℕ → Phy → Phy
event_on events k phy = cond (eqb (event_address events k) phy.own.address) (event (event_code events k) phy) phy

-- the records from index k on, of which there are `left`, one after the other as long as their clock is at most a limit
unfoldable pub happened : List ℕ → ℕ → ℕ → ℕ → List Phy → List Phy
happened events limit k zero phys = phys
happened events limit k (suc left) phys =
    cond (leb (event_clock events k) limit)
    (happened events limit (suc k) left (map (event_on events k) phys))
    phys
