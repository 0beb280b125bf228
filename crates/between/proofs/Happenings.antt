-- The records of an accepted file stand by rising clock, so those that come next up to a clock are the events of the clocks up to it; and each is made at one place.
use Prim.Native.Nat.{ℕ, zero, suc, ◌+◌, ◌-◌, ◌≤◌, ◌<◌}
use mathlib.Core.Path.{◌≡◌, refl, ap, sym, ◌∙◌}
use mathlib.Core.Bool.{Bool, true, false, ◌&&◌, cond}
use mathlib.Core.List.{List, map}
use native.Mathlib.Omega.{arith}
use native.Mathlib.Numerals.{add-one}
use native.Mathlib.Decide.{ℕ_discrete}
use lib.Dec.{eqb, leb, ltb}
use borrow.Author.Tests.{le-leb, lt-leb, leb-true, leb-false, eq-eqb, ne_eqb, ltb-false, ltb-true, lt-ltb}
use Rattle.verdict.specs.Refusal.{Done, wrong_event, wrong_clock, ◌when◌, ◌else◌}
use Rattle.verdict.specs.File.{records}
use Rattle.verdict.proofs.Checks.{accepted}
use Rattle.verdict.proofs.Elements.{all_of, map_same, map-then, map-stays}
use Rattle.wire.specs.Machines.{Core, quiet}
use Rattle.phy.specs.declared.Phy.{Phy}
use Rattle.phy.specs.Events.{event}
use Rattle.phy.specs.Clock.{phy_core}
use Rattle.phy.proofs.Every.{neither}
use Rattle.board.specs.declared.Board.{Board}
use Rattle.board.specs.Events.{event_record, most_events, event_clock, event_address, event_code, event_wrong, clock_wrong, event_fault, events_verdict}
use Rattle.between.specs.Events.{happens_from, happens}
use Rattle.between.specs.Happened.{is_due, event_on, happened}

-- clocks never fall from record to record
abbrev pub Rising : List ℕ → Type 0
Rising events = (i j : ℕ) → i ≤ j → j < records event_record events → event_clock events i ≤ event_clock events j

-- a record that passes 8 and 9
pub no-event-fault : (a b : Bool) → wrong_event when a else wrong_clock when b ≡ 0 → (a ≡ false) × (b ≡ false)
no-event-fault true b e = absurd (omega arith)
no-event-fault false true e = absurd (omega arith)
no-event-fault false false e = (refl, refl)

-- an accepted event file rises
pub accepted-rising : (board : Board) (events : List ℕ) (last n : ℕ) → events_verdict board events last ≡ Done n → Rising events
unfolding event_fault
accepted-rising board events last n done = go
  where
    step : (k : ℕ) → suc k < records event_record events → event_clock events k ≤ event_clock events (suc k)
    step k h =
        let good = accepted event_record most_events (event_fault board events last) events n done in
        let passes = good.all_pass (suc k) (omega (arith, good.count)) in
        let clock = (no-event-fault (event_wrong board events (suc k)) (clock_wrong events last (suc k)) passes).1 in
        ltb-false _ _ (neither _ _ clock).0

    go : (i j : ℕ) → i ≤ j → j < records event_record events → event_clock events i ≤ event_clock events j
    go i zero h l = let e : i ≡ 0 = omega arith in rw e (omega arith)
    go i (suc j) h l =
        elim (ℕ_discrete i (suc j)) [ yes e ↦ rw e (omega arith) | no e ↦ omega (arith, go i j (omega arith) (omega arith), step j l) ]

-- what it means that a record is due, or not
module _ (events : List ℕ) (next clock : ℕ) where
  pub due-now : is_due events next clock ≡ true → (next < records event_record events) × (event_clock events next ≤ clock)
  due-now e = go (ltb next (records event_record events)) (leb (event_clock events next) clock) refl refl e
    where
      go : (a b : Bool) → ltb next (records event_record events) ≡ a → leb (event_clock events next) clock ≡ b → a && b ≡ true → (next < records event_record events) × (event_clock events next ≤ clock)
      go true true p q e = (ltb-true _ _ p, leb-true _ _ q)
      go true false p q e = absurd (let z : ◌≡◌ {A = ℕ} 0 1 = cc in omega arith)
      go false b p q e = absurd (let z : ◌≡◌ {A = ℕ} 0 1 = cc in omega arith)

  pub due-later : is_due events next clock ≡ false → next < records event_record events → clock < event_clock events next
  due-later e within = go (leb (event_clock events next) clock) refl (rw (lt-ltb-of within) at e)
    where
      lt-ltb-of : next < records event_record events → ltb next (records event_record events) ≡ true
      lt-ltb-of h = lt-ltb next (records event_record events) h

      go : (b : Bool) → leb (event_clock events next) clock ≡ b → b ≡ false → clock < event_clock events next
      go true p q = absurd (let z : ◌≡◌ {A = ℕ} 0 1 = cc in omega arith)
      go false p q = leb-false _ _ p

-- after clock c the records before index k have happened, all of clocks up to c, and those to come are of clock c or later
pub record Reached (events : List ℕ) (c k : ℕ) : Type 0 where
  pub within : k ≤ records event_record events
  pub earlier : (i : ℕ) → i < k → event_clock events i ≤ c
  pub later : (i : ℕ) → k ≤ i → i < records event_record events → c ≤ event_clock events i

-- before the first clock no record has
pub reached-start : (events : List ℕ) → Reached events 0 0
reached-start events = record { within = omega arith; earlier = λ i h. absurd (omega arith); later = λ i h l. omega arith }

-- one record of clock c more
pub reached-next : {events : List ℕ} {c k : ℕ} → Reached events c k → k < records event_record events → event_clock events k ≤ c → Reached events c (k + 1)
reached-next {events} {c} {k} r more due =
    record {
      within = omega arith;
      earlier = λ i h. elim (ℕ_discrete i k) [ yes e ↦ rw e due | no e ↦ r.earlier i (omega arith) ];
      later = λ i h l. r.later i (omega arith) l;
    }

-- where none is left of clock c a later clock is reached, up to that of the next record
pub reached-later : {events : List ℕ} {c k : ℕ} (d : ℕ) → Rising events → Reached events c k → c ≤ d → (k < records event_record events → d ≤ event_clock events k) → Reached events d k
reached-later {events} {c} {k} d rising r past none =
    record {
      within = r.within;
      earlier = λ i h. omega (arith, r.earlier i h);
      later = λ i h l. omega (arith, none (omega arith), rising k i h l);
    }

-- Which records are for a PHY after clock c
module _ (events : List ℕ) (c : ℕ) where
  -- of those at other clocks none is
  pub none-for : (k left : ℕ) (phy : Phy) → ((i : ℕ) → k ≤ i → i < k + left → event_clock events i ≡ c → ⊥) → happens_from events k left c phy ≡ phy
  unfolding happens_from
  none-for k zero phy other = refl
  none-for k (suc left) phy other =
      rw (ne_eqb (event_clock events k) c (other k (omega arith) (omega arith)))
      (none-for (suc k) left phy (λ i h l. other i (omega arith) (omega arith)))

  -- those before index k at other clocks may be left out
  pub skip : (a j b : ℕ) (phy : Phy) → ((i : ℕ) → j ≤ i → i < j + a → event_clock events i ≡ c → ⊥) → happens_from events j (a + b) c phy ≡ happens_from events (j + a) b c phy
  unfolding happens_from
  skip zero j b phy other =
      let all : 0 + b ≡ b = omega arith in
      let here : j + 0 ≡ j = omega arith in
      rw (all, here)
  skip (suc a) j b phy other =
      let all : suc a + b ≡ suc (a + b) = omega arith in
      let there : suc j + a ≡ j + suc a = omega arith in
      let not-here = ne_eqb (event_clock events j) c (other j (omega arith) (omega arith)) in
      ap (λ m. happens_from events j m c phy) all
      ∙ ap (λ t. happens_from events (suc j) (a + b) c (cond (t && eqb (event_address events j) phy.own.address) (event (event_code events j) phy) phy)) not-here
      ∙ skip a (suc j) b phy (λ i h l. other i (omega arith) (omega arith))
      ∙ ap (λ m. happens_from events m b c phy) there

  -- and one at clock c acts on whom it is for
  pub one-for : (k left : ℕ) (phy : Phy) → event_clock events k ≡ c → happens_from events (suc k) left c (event_on events k phy) ≡ happens_from events k (suc left) c phy
  unfolding happens_from
  one-for k left phy here = rw (eq-eqb (event_clock events k) c here)

-- what is to come of clock c: the records from index k on
abbrev pub to_come : List ℕ → ℕ → ℕ → List Phy → List Phy
to_come events c k phys = map (happens_from events k (records event_record events - k) c) phys

module _ (events : List ℕ) where
  abbrev n : ℕ
  n = records event_record events

  -- before the first record of a clock, all of it is to come
  pub all-to-come : (c k : ℕ) → k ≤ n → ((i : ℕ) → i < k → event_clock events i < c) → (phys : List Phy) → map (happens events c) phys ≡ to_come events c k phys
  all-to-come c k within earlier phys =
      let left : n ≡ k + (n - k) = omega arith in
      let index : 0 + k ≡ k = omega arith in
      map_same _ _ phys
      (all_of _ phys (λ phy.
      ap (λ m. happens_from events 0 m c phy) left
      ∙ skip events c k 0 (n - k) phy (λ i h l e. omega (arith, earlier i (omega arith)))
      ∙ ap (λ j. happens_from events j (n - k) c phy) index))

  -- a record of clock c happens, and the others are to come
  pub one-to-come : (c k : ℕ) → k < n → event_clock events k ≡ c → (phys : List Phy) → to_come events c (k + 1) (map (event_on events k) phys) ≡ to_come events c k phys
  one-to-come c k more here phys =
      let left : n - k ≡ suc (n - (k + 1)) = omega arith in
      let next : k + 1 ≡ suc k = add-one k in
      map-then (happens_from events (k + 1) (n - (k + 1)) c) (event_on events k) (happens_from events k (n - k) c) (λ phy.
      ap (λ j. happens_from events j (n - (k + 1)) c (event_on events k phy)) next
      ∙ one-for events c k (n - (k + 1)) phy here
      ∙ ap (λ m. happens_from events k m c phy) (sym left))
      phys

-- The records that are left, where they rise
module _ (events : List ℕ) (rising : Rising events) where
  -- nothing is to come where the next record is of a later clock
  pub none-to-come : (c k : ℕ) → (k < n events → c < event_clock events k) → (phys : List Phy) → to_come events c k phys ≡ phys
  none-to-come c k past phys =
      map-stays (happens_from events k (n events - k) c) (λ phy. none-for events c k (n events - k) phy (λ i h l same. omega (arith, past (omega arith), rising k i h (omega arith)))) phys

  -- Clocks in which nothing acts are the records up to the last of them, one after the other
  abbrev core : Core Phy
  core = phy_core (happens events)

  -- where there is no record, there is no event
  quiet-still : (m c : ℕ) (phys : List Phy) → ((i : ℕ) → i < n events → event_clock events i ≤ c) → quiet core c m phys ≡ phys
  unfolding quiet
  quiet-still zero c phys none = refl
  quiet-still (suc m) c phys none =
      ap (quiet core (suc c) m) (map-stays (happens events (suc c)) (λ phy. none-for events (suc c) 0 (n events) phy (λ i h l same. omega (arith, none i (omega arith)))) phys)
      ∙ quiet-still m (suc c) phys (λ i l. omega (arith, none i l))

  abbrev GoesOn : ℕ → ℕ → Type 0
  GoesOn k left = (m c : ℕ) (phys : List Phy) → Reached events c k → quiet core c m (map (happens_from events k left c) phys) ≡ happened events (c + m) k left phys

  -- a record of clock c happens first
  record-here : (k left : ℕ) → k + suc left ≡ n events → GoesOn (suc k) left → (m c : ℕ) (phys : List Phy) → Reached events c k → event_clock events k ≡ c → quiet core c m (map (happens_from events k (suc left) c) phys) ≡ happened events (c + m) k (suc left) phys
  unfolding happened
  record-here k left all rest m c phys r here =
      let next = rw (add-one k) at (reached-next r (omega arith) (omega arith)) in
      rw (le-leb (event_clock events k) (c + m) (omega arith))
      (ap (quiet core c m) (sym (map-then (happens_from events (suc k) left c) (event_on events k) (happens_from events k (suc left) c) (λ phy. one-for events c k left phy here) phys))
      ∙ rest m c (map (event_on events k) phys) next)

  -- else nothing is to come of clock c
  none_here : (k left c : ℕ) (phys : List Phy) → k + suc left ≡ n events → c < event_clock events k → map (happens_from events k (suc left) c) phys ≡ phys
  none_here k left c phys all past =
      map-stays (happens_from events k (suc left) c) (λ phy. none-for events c k (suc left) phy (λ i h l same. omega (arith, rising k i h (omega arith)))) phys

  one-record : (k left : ℕ) → k + suc left ≡ n events → GoesOn (suc k) left → GoesOn k (suc left)
  unfolding quiet happened
  one-record k left all rest zero c phys r =
      elim (ℕ_discrete (event_clock events k) c) [
        | yes here ↦ record-here k left all rest zero c phys r here
        | no other ↦
            let past : c < event_clock events k = omega (arith, r.later k (omega arith) (omega arith)) in
            let end : c + 0 ≡ c = omega arith in
            rw (end, lt-leb (event_clock events k) c past) (none_here k left c phys all past)
      ]
  one-record k left all rest (suc m) c phys r =
      elim (ℕ_discrete (event_clock events k) c) [
        | yes here ↦ record-here k left all rest (suc m) c phys r here
        | no other ↦
            let past : c < event_clock events k = omega (arith, r.later k (omega arith) (omega arith)) in
            let end : suc c + m ≡ c + suc m = omega arith in
            let left_is : n events - k ≡ suc left = omega arith in
            ap (quiet core c (suc m)) (none_here k left c phys all past)
            ∙ ap (quiet core (suc c) m) (all-to-come events (suc c) k (omega arith) (λ i h. omega (arith, r.earlier i h)) phys ∙ ap (λ l. map (happens_from events k l (suc c)) phys) left_is)
            ∙ one-record k left all rest m (suc c) phys (reached-later (suc c) rising r (omega arith) (λ more. omega arith))
            ∙ ap (λ limit. happened events limit k (suc left) phys) end
      ]

  goes_on : (left k : ℕ) → k + left ≡ n events → GoesOn k left
  unfolding happened happens_from
  goes_on zero k all m c phys r =
      ap (quiet core c m) (map-stays (happens_from events k zero c) (λ phy. refl) phys)
      ∙ quiet-still m c phys (λ i l. r.earlier i (omega arith))
  goes_on (suc left) k all m c phys r = one-record k left all (goes_on left (suc k) (omega arith)) m c phys r

  -- the records up to clock c + m, after clock c
  pub quiet-clocks : (m c k : ℕ) (phys : List Phy) → Reached events c k → quiet core c m (to_come events c k phys) ≡ happened events (c + m) k (n events - k) phys
  quiet-clocks m c k phys r = goes_on (n events - k) k (omega (arith, r.within)) m c phys r

-- A turn over the records: one more, or no more
module _ (events : List ℕ) (limit n k : ℕ) (phys : List Phy) where
  pub happened-next : k < n → event_clock events k ≤ limit → happened events limit k (n - k) phys ≡ happened events limit (k + 1) (n - (k + 1)) (map (event_on events k) phys)
  unfolding happened
  happened-next h due =
      let left : n - k ≡ suc (n - (k + 1)) = omega arith in
      rw (left, le-leb (event_clock events k) limit due, add-one)

  pub happened-stop : (k < n → limit < event_clock events k) → happened events limit k (n - k) phys ≡ phys
  unfolding happened
  happened-stop later =
      elim (ℕ_discrete (n - k) 0) [
        | yes none ↦ rw none
        | no some ↦
            let left : n - k ≡ suc (n - (k + 1)) = omega arith in
            rw (left, lt-leb (event_clock events k) limit (later (omega arith)))
      ]

-- where a rising file has been gone through up to a clock
pub record Splits (events : List ℕ) (c : ℕ) : Type 0 where
  pub index : ℕ
  pub within : index ≤ records event_record events
  pub earlier : (i : ℕ) → i < index → event_clock events i ≤ c
  pub later : (i : ℕ) → index ≤ i → i < records event_record events → c < event_clock events i

module _ (events : List ℕ) (rising : Rising events) (c : ℕ) where
  splits-from : (left k : ℕ) → k + left ≡ records event_record events → ((i : ℕ) → i < k → event_clock events i ≤ c) → Splits events c
  splits-from zero k all earlier = record { index = k; within = omega arith; earlier = earlier; later = λ i h l. absurd (omega arith) }
  splits-from (suc left) k all earlier = go (leb (event_clock events k) c) refl (splits-from left (suc k) (omega arith))
    where
      go : (b : Bool) → leb (event_clock events k) c ≡ b → (((i : ℕ) → i < suc k → event_clock events i ≤ c) → Splits events c) → Splits events c
      go true e rest = rest (λ i h. elim (ℕ_discrete i k) [ yes same ↦ rw same (leb-true _ _ e) | no other ↦ earlier i (omega arith) ])
      go false e rest =
          record {
            index = k;
            within = omega arith;
            earlier = earlier;
            later = λ i h l. omega (arith, leb-false (event_clock events k) c e, rising k i h l);
          }

  pub splits-at : Splits events c
  splits-at = splits-from (records event_record events) 0 (omega arith) (λ i h. absurd (omega arith))
