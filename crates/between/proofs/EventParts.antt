-- An event file taken apart at clock n: up to n the earlier records do what the file does; of the later ones, whose clocks count from n, none is at clock 0, and after clock c they do what the file does after clock n + c.
use Prim.Native.Nat.{ℕ, zero, suc, ◌+◌, ◌-◌, ◌*◌, ◌/◌, ◌%◌, ◌≤◌, ◌<◌}
use mathlib.Core.Path.{◌≡◌, refl, sym, ap, ap₂, ◌∙◌}
use mathlib.Core.Bool.{Bool, true, false, ◌&&◌, cond}
use mathlib.Core.List.{List, [], ◌∷◌, ◌++◌}
use native.Mathlib.Omega.{arith}
use native.Mathlib.Nat.{div-add-mod'}
use native.Mathlib.Decide.{ℕ_discrete}
use lib.Dec.{eqb, leb, ltb}
use borrow.Author.Tests.{eq-eqb, ne_eqb, leb-false, ltb-true, ltb-false}
use Rattle.verdict.specs.File.{byte_at, records}
use Rattle.verdict.specs.Lists.{All}
use Rattle.verdict.proofs.Elements.{all_append}
use Rattle.phy.specs.declared.Phy.{Phy}
use Rattle.phy.specs.Events.{event}
use Rattle.board.specs.Events.{event_record, event_clock, event_address, event_code}
use Rattle.between.specs.Events.{happens_from, happens}
use Rattle.between.specs.Parts.{event_bytes, picked, events_up_to, events_past}
use Rattle.between.proofs.HappensEffect.{one_event}

-- A file with one more record in front: that record, then the file
module _ (high low address code : ℕ) (file : List ℕ) where
  abbrev longer : List ℕ
  longer = high ∷ low ∷ address ∷ code ∷ file

  next_one : (c k : ℕ) (phy : Phy) → one_event longer c (suc k) phy ≡ one_event file c k phy
  next_one c k phy =
      let at-0 : suc k * 4 ≡ suc (suc (suc (suc (k * 4)))) = omega arith in
      let at_1 : suc k * 4 + 1 ≡ suc (suc (suc (suc (k * 4 + 1)))) = omega arith in
      let at-2 : suc k * 4 + 2 ≡ suc (suc (suc (suc (k * 4 + 2)))) = omega arith in
      let at-3 : suc k * 4 + 3 ≡ suc (suc (suc (suc (k * 4 + 3)))) = omega arith in
      let clock-is : event_clock longer (suc k) ≡ event_clock file k = ap₂ (λ h l. h * 256 + l) (ap (byte_at longer) at-0) (ap (byte_at longer) at_1) in
      let address_is : event_address longer (suc k) ≡ event_address file k = ap (byte_at longer) at-2 in
      let code_is : event_code longer (suc k) ≡ event_code file k = ap (byte_at longer) at-3 in
      ap (λ t. cond (eqb t c && eqb (event_address longer (suc k)) phy.own.address) (event (event_code longer (suc k)) phy) phy) clock-is
      ∙ ap₂ (λ p e. cond (eqb (event_clock file k) c && eqb p phy.own.address) (event e phy) phy) address_is code_is

  later_ones : (left k c : ℕ) (phy : Phy) → happens_from longer (suc k) left c phy ≡ happens_from file k left c phy
  unfolding happens_from
  later_ones zero k c phy = refl
  later_ones (suc left) k c phy = ap (happens_from longer (suc (suc k)) left c) (next_one c k phy) ∙ later_ones left (suc k) c (one_event file c k phy)

  happens-longer : (c : ℕ) (phy : Phy) → happens longer c phy ≡ happens file c (cond (eqb (high * 256 + low) c && eqb address phy.own.address) (event code phy) phy)
  unfolding happens_from
  happens-longer c phy =
      let one_more : records event_record longer ≡ suc (records event_record file) = omega arith in
      ap (λ m. happens_from longer 0 m c phy) one_more
      ∙ later_ones (records event_record file) 0 c _

-- an event's record in front, or none
happens-picked : (t : Bool) (number address code : ℕ) (file : List ℕ) (c : ℕ) (phy : Phy) →
    happens (cond t (event_bytes number address code) [] ++ file) c phy ≡ happens file c (cond ((t && eqb number c) && eqb address phy.own.address) (event code phy) phy)
happens-picked true number address code file c phy =
    happens-longer (number / 256) (number % 256) address code file c phy
    ∙ ap (λ m. happens file c (cond (eqb m c && eqb address phy.own.address) (event code phy) phy)) (div-add-mod' number 256)
happens-picked false number address code file c phy = refl

-- What the records that are picked do
module _ (test : ℕ → Bool) (n : ℕ) (events : List ℕ) (c : ℕ) where
  abbrev acts-at : (ℕ → Bool) → Type 0
  acts-at other = (number : ℕ) → test number && eqb (number - n) c ≡ other number

  -- the first of them, by a test that says as much
  first-picked : (other : ℕ → Bool) → acts-at other → (left k : ℕ) (phy : Phy) →
      happens (picked test n events k (suc left)) c phy ≡ happens (picked test n events (suc k) left) c (cond (other (event_clock events k) && eqb (event_address events k) phy.own.address) (event (event_code events k) phy) phy)
  unfolding picked
  first-picked other same left k phy =
      happens-picked (test (event_clock events k)) (event_clock events k - n) (event_address events k) (event_code events k) (picked test n events (suc k) left) c phy
      ∙ ap (λ t. happens (picked test n events (suc k) left) c (cond (t && eqb (event_address events k) phy.own.address) (event (event_code events k) phy) phy)) (same (event_clock events k))

  -- what the file does after another clock
  picked-as : (c' : ℕ) → acts-at (λ number. eqb number c') → (left k : ℕ) (phy : Phy) → happens (picked test n events k left) c phy ≡ happens_from events k left c' phy
  unfolding picked happens_from
  picked-as c' same zero k phy = refl
  picked-as c' same (suc left) k phy = first-picked (λ number. eqb number c') same left k phy ∙ picked-as c' same left (suc k) _

  -- or nothing
  picked_none : acts-at (λ number. false) → (left k : ℕ) (phy : Phy) → happens (picked test n events k left) c phy ≡ phy
  unfolding picked happens_from
  picked_none none zero k phy = refl
  picked_none none (suc left) k phy = first-picked (λ number. false) none left k phy ∙ picked_none none left (suc k) phy

-- Two files that take an event file apart at clock n
pub record TakesApart (n : ℕ) (events early late : List ℕ) : Type 0 where
  pub before : (c : ℕ) → c ≤ n → (phy : Phy) → happens events c phy ≡ happens early c phy
  pub start : (phy : Phy) → happens late 0 phy ≡ phy
  pub after : (c : ℕ) → 0 < c → (phy : Phy) → happens events (n + c) phy ≡ happens late c phy

module _ (n c number : ℕ) where
  up_to : c ≤ n → leb number n && eqb (number - 0) c ≡ eqb number c
  up_to h = go (leb number n) refl
    where
      go : (b : Bool) → leb number n ≡ b → b && eqb (number - 0) c ≡ eqb number c
      go true e =
          let all : number - 0 ≡ number = omega arith in
          ap (λ m. eqb m c) all
      go false e = sym (ne_eqb number c (λ same. omega (arith, leb-false number n e)))

  past : 0 < c → ltb n number && eqb (number - n) c ≡ eqb number (n + c)
  past h = go (ltb n number) refl (ℕ_discrete number (n + c))
    where
      go : (b : Bool) → ltb n number ≡ b → Dec (number ≡ n + c) → b && eqb (number - n) c ≡ eqb number (n + c)
      go true e (yes same) = eq-eqb (number - n) c (omega arith) ∙ sym (eq-eqb number (n + c) same)
      go true e (no other) =
          ne_eqb (number - n) c (λ same. other (omega (arith, ltb-true n number e)))
          ∙ sym (ne_eqb number (n + c) other)
      go false e same = sym (ne_eqb number (n + c) (λ same. omega (arith, ltb-false n number e)))

none-at-start : (n number : ℕ) → ltb n number && eqb (number - n) 0 ≡ false
none-at-start n number = go (ltb n number) refl
  where
    go : (b : Bool) → ltb n number ≡ b → b && eqb (number - n) 0 ≡ false
    go true e = ne_eqb (number - n) 0 (λ same. omega (arith, ltb-true n number e))
    go false e = refl

pub taken-apart : (n : ℕ) (events : List ℕ) → TakesApart n events (events_up_to n events) (events_past n events)
taken-apart n events =
    let all = records event_record events in
    record {
      before = λ c h phy. sym (picked-as (λ number. leb number n) 0 events c c (λ number. up_to n c number h) all 0 phy);
      start = picked_none (λ number. ltb n number) n events 0 (none-at-start n) all 0;
      after = λ c h phy. sym (picked-as (λ number. ltb n number) n events c (n + c) (λ number. past n c number h) all 0 phy);
    }

-- both are files of bytes if the whole is
module _ (events : List ℕ) (bytes : (i : ℕ) → byte_at events i < 256) where
  picked-bytes : (test : ℕ → Bool) (n left k : ℕ) → All (λ byte. byte < 256) (picked test n events k left)
  unfolding picked
  picked-bytes test n zero k = tt
  picked-bytes test n (suc left) k = all_append (λ byte. byte < 256) (cond (test (event_clock events k)) one []) (picked test n events (suc k) left) (go (test (event_clock events k))) (picked-bytes test n left (suc k))
    where
      one : List ℕ
      one = event_bytes (event_clock events k - n) (event_address events k) (event_code events k)

      go : (b : Bool) → All (λ byte. byte < 256) (cond b one [])
      go true =
          let high = bytes (k * event_record) in
          let low = bytes (k * event_record + 1) in
          (omega arith, (omega arith, (bytes (k * event_record + 2), (bytes (k * event_record + 3), tt))))
      go false = tt

  pub parts-bytes : (n : ℕ) → All (λ byte. byte < 256) (events_up_to n events) × All (λ byte. byte < 256) (events_past n events)
  parts-bytes n =
      let all = records event_record events in
      (picked-bytes (λ clock. leb clock n) 0 all 0, picked-bytes (λ clock. ltb n clock) n all 0)
