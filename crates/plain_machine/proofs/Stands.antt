-- What stands before each transaction acts, and after each event: the events that are left up to that clock, one after the other, make of the PHYs what the plain machine says.
use Prim.Native.Nat.{ℕ, zero, suc, ◌+◌, ◌-◌, ◌*◌, ◌≤◌, ◌<◌}
use mathlib.Core.Path.{◌≡◌, refl, sym, ap, subst, ◌∙◌}
use mathlib.Core.Bool.{Bool, true, false, cond}
use mathlib.Core.List.{List, [], ◌∷◌, ◌++◌, map}
use native.Mathlib.Omega.{arith}
use native.Mathlib.Decide.{ℕ_discrete}
use lib.Dec.{eqb}
use lib.ListN.{length, get_or, set}
use Rattle.verdict.specs.Refusal.{Good}
use Rattle.verdict.specs.File.{records}
use Rattle.verdict.specs.Output.{tabulate, join}
use Rattle.verdict.proofs.Lists.{map-tabulate}
use Rattle.verdict.proofs.Outputs.{pieced}
use Rattle.verdict.proofs.Elements.{map-then}
use Rattle.frame.specs.declared.list.Transaction.{Transaction}
use Rattle.frame.specs.Frame.{clocks}
use Rattle.frame.specs.List.{list_record, is_read, transaction_at, parsed}
use Rattle.frame.specs.Answers.{answer_bytes}
use Rattle.wire.specs.Machines.{header_for, quiet, plain_parties}
use Rattle.wire.proofs.Quiet.{quiet-append}
use Rattle.phy.specs.declared.Phy.{Phy}
use Rattle.phy.specs.Sound.{nowhere}
use Rattle.phy.specs.Events.{event}
use Rattle.phy.specs.Clock.{after_header, after_frame}
use Rattle.phy.proofs.Effects.{event-effect, after_header-effect, after_frame-effect}
use Rattle.phy.proofs.Keeping.{keeps-own}
use Rattle.board.specs.declared.Board.{Board}
use Rattle.board.specs.Events.{event_record, event_clock, event_address, event_code}
use Rattle.between.specs.Outcome.{phys_of, with_phys, owns_of}
use Rattle.between.specs.Events.{at_start}
use Rattle.between.specs.Happened.{is_due, place_of, event_on, happened}
use Rattle.between.proofs.Places.{with-own}
use Rattle.between.proofs.Happenings.{Rising, Reached, reached-start, due-now, due-later, all-to-come, none-to-come, quiet-clocks, happened-next, happened-stop}
use Rattle.between.proofs.EventPlaces.{OneTakes, owns-length, event-there}
use Rattle.plain_machine.specs.Plain.{core_with, answers_of_plain}
use Rattle.plain_machine.specs.Transact.{clocks_before, lead_of, after_act, answer_of}
use Rattle.plain_machine.proofs.Transactions.{parties_at, answer_at, parties-next, answers-are}
use Rattle.plain_machine.proofs.Acting.{few-before, answer-is, after_is}

-- A board whose PHYs stand in their places: one of them replaced
set_front : {A : Type 0} (xs ys : List A) (i : ℕ) (v : A) → i < length xs → set (xs ++ ys) i v ≡ set xs i v ++ ys
set_front [] ys i v h = absurd (omega arith)
set_front (x ∷ xs) ys zero v h = refl
set_front (x ∷ xs) ys (suc i) v h = ap (λ zs. x ∷ zs) (set_front xs ys i v (omega arith))

get-front : {A : Type 0} (xs ys : List A) (i : ℕ) (d : A) → i < length xs → get_or (xs ++ ys) i d ≡ get_or xs i d
get-front [] ys i d h = absurd (omega arith)
get-front (x ∷ xs) ys zero d h = refl
get-front (x ∷ xs) ys (suc i) d h = get-front xs ys i d (omega arith)

-- a change that keeps who frames are for keeps it everywhere: so do an event and an act
owns-kept : (f : Phy → Phy) → ((phy : Phy) → (f phy).own ≡ phy.own) → (phys : List Phy) → owns_of (map f phys) ≡ owns_of phys
owns-kept f keeps phys = map-then (λ (phy : Phy). phy.own) f (λ (phy : Phy). phy.own) keeps phys

event-keeps : (events : List ℕ) (k : ℕ) (phy : Phy) → (event_on events k phy).own ≡ phy.own
event-keeps events k phy = go (eqb (event_address events k) phy.own.address)
  where
    go : (b : Bool) → (cond b (event (event_code events k) phy) phy).own ≡ phy.own
    go true = keeps-own (event-effect (event_code events k)) phy
    go false = refl

act-keeps : (t : Transaction) (phy : Phy) → (after_act t phy).own ≡ phy.own
unfolding after_act
act-keeps t phy = go (is_read t)
  where
    go : (b : Bool) → (cond b (after_header (header_for t) phy) (after_frame (header_for t) t.«data» phy)).own ≡ phy.own
    go true = keeps-own (after_header-effect (header_for t)) phy
    go false = keeps-own (after_frame-effect (header_for t) t.«data») phy

module _ (list events out₀ : List ℕ) (board : Board) where
  abbrev n : ℕ
  n = records list_record list

  -- the clocks before the one in which the transaction at index k acts; past the list's end its own there are none
  abbrev pub lead : ℕ → ℕ
  lead k = lead_of (parsed list k)

  abbrev pub clock : ℕ → ℕ
  clock k = k * clocks + lead k

  -- the PHYs after k transactions, and before the next one acts
  abbrev pub parties : ℕ → List Phy
  parties k = parties_at (core_with events) (transaction_at list) (at_start board events) k

  abbrev pub before : ℕ → List Phy
  before k = quiet (core_with events) (k * clocks) (lead k) (parties k)

  -- the record of the answer to the transaction at index k
  abbrev pub piece : ℕ → List ℕ
  piece k = answer_bytes (answer_at (core_with events) (transaction_at list) (at_start board events) k)

  -- all of them
  pub planned-answers : tabulate n piece ≡ map answer_bytes (answers_of_plain board list events)
  planned-answers =
      sym (map-tabulate answer_bytes n (answer_at (core_with events) (transaction_at list) (at_start board events)))
      ∙ ap (map answer_bytes) (sym (answers-are (core_with events) (transaction_at list) (at_start board events) n))

  -- after k transactions and the events before index `next`
  pub record Stands (out : List ℕ) (now : Board) (next k : ℕ) : Type 0 where
    pub gone : k ≤ n
    pub put : out ≡ pieced 6 piece out₀ k
    pub within : next ≤ records event_record events
    pub earlier : (i : ℕ) → i < next → event_clock events i ≤ clock k
    pub waiting : List Phy
    pub owns : owns_of waiting ≡ owns_of (phys_of board)
    pub board-is : now ≡ with_phys board waiting
    pub to-come : happened events (clock k) next (records event_record events - next) waiting ≡ before k

  -- before the first transaction
  pub begins : Rising events → Stands out₀ board 0 0
  unfolding tabulate join plain_parties
  begins rising =
      let first = all-to-come events 0 0 (omega arith) (λ i h. absurd (omega arith)) (phys_of board) in
      record {
        gone = omega arith;
        put = refl;
        within = omega arith;
        earlier = λ i h. absurd (omega arith);
        waiting = phys_of board;
        owns = refl;
        board-is = sym (with-own board);
        to-come = sym (quiet-clocks events rising (lead 0) 0 0 (phys_of board) (reached-start events)) ∙ ap (quiet (core_with events) 0 (lead 0)) (sym first);
      }

  module _ {out : List ℕ} {now : Board} {next k : ℕ} (full : length (phys_of board) ≡ board.count) (rising : Rising events) (stands : Stands out now next k) where
    pub waiting-full : length stands.waiting ≡ board.count
    waiting-full = owns-length stands.waiting (phys_of board) stands.owns ∙ full

    -- the PHY at a place, and another put there
    module _ (i : ℕ) (there : i < board.count) where
      pub stands_at : get_or now.phys i nowhere ≡ get_or stands.waiting i nowhere
      stands_at = ap (λ (b : Board). get_or b.phys i nowhere) stands.board-is ∙ get-front stands.waiting _ i nowhere (omega (arith, waiting-full))

      pub set_at : (phy : Phy) → record { count = now.count; phys = set now.phys i phy } ≡ with_phys board (set stands.waiting i phy)
      set_at phy =
          ap (λ (b : Board). record { count = b.count; phys = set b.phys i phy }) stands.board-is
          ∙ ap (λ ps. record { count = board.count; phys = ps }) (set_front stands.waiting _ i phy (omega (arith, waiting-full)))

    -- an event that is due happens, at the place of its address
    pub event-next : OneTakes (owns_of (phys_of board)) → is_due events next (clock k) ≡ true → (i : ℕ) → i ≡ place_of (owns_of (phys_of board)) (event_address events next) → i < board.count → (phy : Phy) → phy ≡ event (event_code events next) (get_or now.phys i nowhere)
        → Stands out (record { count = now.count; phys = set now.phys i phy }) (next + 1) k
    event-next one due i place there phy is =
        let asked = due-now events next (clock k) due in
        let after = event (event_code events next) (get_or stands.waiting i nowhere) in
        let same : i ≡ place_of (owns_of stands.waiting) (event_address events next) = place ∙ ap (λ owns. place_of owns (event_address events next)) (sym stands.owns) in
        let made = event-there stands.waiting (subst OneTakes (sym stands.owns) one) events next (omega (arith, waiting-full)) in
        let made_at : map (event_on events next) stands.waiting ≡ set stands.waiting i after = made ∙ ap (λ j. set stands.waiting j (event (event_code events next) (get_or stands.waiting j nowhere))) (sym same) in
        let is-after : phy ≡ after = is ∙ ap (event (event_code events next)) (stands_at i there) in
        record {
          gone = stands.gone;
          put = stands.put;
          within = omega arith;
          earlier = λ j h. elim (ℕ_discrete j next) [ yes e ↦ rw e asked.1 | no e ↦ stands.earlier j (omega arith) ];
          waiting = set stands.waiting i after;
          owns = ap owns_of (sym made_at) ∙ owns-kept (event_on events next) (event-keeps events next) stands.waiting ∙ stands.owns;
          board-is = set_at i there phy ∙ ap (λ p. with_phys board (set stands.waiting i p)) is-after;
          to-come =
              ap (happened events (clock k) (next + 1) (records event_record events - (next + 1))) (sym made_at)
              ∙ sym (happened-next events (clock k) (records event_record events) next stands.waiting asked.0 asked.1)
              ∙ stands.to-come;
        }

    -- none is due: the transaction acts
    module _ (due : is_due events next (clock k) ≡ false) where
      none-waits : stands.waiting ≡ before k
      none-waits = sym (happened-stop events (clock k) (records event_record events) next stands.waiting (due-later events next (clock k) due)) ∙ stands.to-come

      -- past the list's end the PHYs are those after the last clock
      pub ends : k ≡ n → lead k ≡ 0 → now ≡ with_phys board (parties n)
      unfolding quiet
      ends all none =
          let last : before k ≡ parties k = ap (λ l. quiet (core_with events) (k * clocks) l (parties k)) none in
          stands.board-is ∙ ap (with_phys board) (none-waits ∙ last) ∙ ap (λ j. with_phys board (parties j)) all

      -- a transaction: its answer, and the PHYs after it
      module _ (more : k < n) (good : parsed list k ≡ Good (transaction_at list k)) where
        abbrev t : Transaction
        t = transaction_at list k

        lead_is : lead k ≡ clocks_before t
        lead_is = ap lead_of good

        short : lead k ≤ 63
        short = omega (arith, lead_is, few-before t)

        pub answer-next : answer_of t stands.waiting ≡ answer_at (core_with events) (transaction_at list) (at_start board events) k
        answer-next =
            ap (answer_of t) none-waits
            ∙ ap (λ l. answer_of t (quiet (core_with events) (k * clocks) l (parties k))) lead_is
            ∙ sym (answer-is events t (k * clocks) (parties k))

        -- the clocks up to the next act
        before-next : happened events (clock (k + 1)) next (records event_record events - next) (map (after_act t) stands.waiting) ≡ before (k + 1)
        before-next =
            let core = core_with events in
            let rest = clocks - lead k in
            let acted = map (after_act t) stands.waiting in
            let reached : Reached events (clock k) next = record { within = stands.within; earlier = stands.earlier; later = λ i h l. omega (arith, due-later events next (clock k) due (omega arith), rising next i h l) } in
            let end : clock k + (rest + lead (k + 1)) ≡ clock (k + 1) = omega (arith, short) in
            let left : parties (k + 1) ≡ quiet core (clock k) rest acted = parties-next core (transaction_at list) (at_start board events) k ∙ after_is events t (k * clocks) (parties k) (lead k) rest lead_is (omega (arith, short)) ∙ ap (λ ps. quiet core (clock k) rest (map (after_act t) ps)) (sym none-waits) in
            sym (ap (quiet core ((k + 1) * clocks) (lead (k + 1))) left
            ∙ sym (quiet-append core rest (lead (k + 1)) (clock k) ((k + 1) * clocks) acted (omega (arith, short)))
            ∙ ap (quiet core (clock k) (rest + lead (k + 1))) (sym (none-to-come events rising (clock k) next (due-later events next (clock k) due) acted))
            ∙ quiet-clocks events rising (rest + lead (k + 1)) (clock k) next acted reached
            ∙ ap (λ limit. happened events limit next (records event_record events - next) acted) end)

        pub act-next : (out' : List ℕ) → out' ≡ pieced 6 piece out₀ (k + 1) → (now' : Board) → now' ≡ with_phys board (map (after_act t) stands.waiting) → Stands out' now' next (k + 1)
        act-next out' put' now' is =
            record {
              gone = omega arith;
              put = put';
              within = stands.within;
              earlier = λ i h. omega (arith, stands.earlier i h, short);
              waiting = map (after_act t) stands.waiting;
              owns = owns-kept (after_act t) (act-keeps t) stands.waiting ∙ stands.owns;
              board-is = is;
              to-come = before-next;
            }
