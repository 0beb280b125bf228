-- Records checked in order: how a loop over them goes, and that a refusal names the first record at fault.
use Prim.Native.Nat.{ℕ, zero, suc, ◌+◌, ◌-◌, ◌%◌, ◌≤◌, ◌<◌}
use mathlib.Core.Path.{◌≡◌, refl, ap, sym, ◌∙◌}
use mathlib.Core.Bool.{Bool, true, false, not}
use mathlib.Core.List.{List}
use native.Mathlib.Omega.{arith}
use native.Mathlib.Numerals.{add-one}
use native.Mathlib.Decide.{ℕ_discrete}
use lib.ListN.{length}
use lib.Dec.{eqb, ltb}
use borrow.Author.Tests.{eqb-true, eqb-false, ltb-true, ltb-false, eq-eqb, le-ltb}
use Rattle.std.proofs.Math.Nat.{mod-one, div-one}
use Rattle.verdict.specs.Refusal.{Verdict, Done, Refused, wrong_length, too_many, ◌when◌, refuse, and_then}
use Rattle.verdict.specs.File.{byte_at, records, counting, in_order, file_verdict, byte_fault, bytes_verdict}

module _ (fault : ℕ → ℕ) (v : Verdict) where
  -- a record that passes: the rest decides
  pub next : (n k : ℕ) → k < n → fault k ≡ 0 → in_order fault k (n - k) v ≡ in_order fault (k + 1) (n - (k + 1)) v
  unfolding in_order
  next n k h passes =
      let left : n - k ≡ suc (n - (k + 1)) = omega arith in
      rw (left, passes, add-one)

  -- a record at fault refuses
  pub stop : (n k : ℕ) → k < n → (fault k ≡ 0 → ⊥) → in_order fault k (n - k) v ≡ Refused (fault k) k
  unfolding in_order
  stop n k h fails =
      let left : n - k ≡ suc (n - (k + 1)) = omega arith in
      rw left (go (fault k) fails)
    where
      go : (f : ℕ) → (f ≡ 0 → ⊥) → refuse f k (in_order fault (suc k) (n - (k + 1)) v) ≡ Refused f k
      go zero no-fault = absurd (no-fault refl)
      go (suc f) no-fault = refl

  -- past the last record the answer stands
  pub finish : (n k : ℕ) → n ≤ k → in_order fault k (n - k) v ≡ v
  unfolding in_order
  finish n k h =
      let left : n - k ≡ 0 = omega arith in
      rw left

-- the first of `left` records from index k on that is at fault, and what its checks find
pub record FirstAtFault (fault : ℕ → ℕ) (k left number index : ℕ) : Type 0 where
  pub from : k ≤ index
  pub among : index < k + left
  pub at-fault : fault index ≡ number
  pub earlier-pass : (i : ℕ) → k ≤ i → i < index → fault i ≡ 0

-- a refusal names the first record at fault
pub refused-first : (fault : ℕ → ℕ) (n k left c j : ℕ) → in_order fault k left (Done n) ≡ Refused c j → FirstAtFault fault k left c j
unfolding in_order
refused-first fault n k zero c j e = absurd (let z : ◌≡◌ {A = ℕ} 0 1 = cc in omega arith)
refused-first fault n k (suc left) c j e = go (fault k) refl e (refused-first fault n (suc k) left c j)
  where
    go : (f : ℕ) → fault k ≡ f → refuse f k (in_order fault (suc k) left (Done n)) ≡ Refused c j → (in_order fault (suc k) left (Done n) ≡ Refused c j → FirstAtFault fault (suc k) left c j) → FirstAtFault fault k (suc left) c j
    go zero p e rest =
        let r = rest e in
        record {
          from = omega (arith, r.from);
          among = omega (arith, r.among);
          at-fault = r.at-fault;
          earlier-pass = λ i h l. elim (ℕ_discrete i k) [ yes q ↦ ap fault q ∙ p | no q ↦ r.earlier-pass i (omega arith) l ];
        }
    go (suc f) p e rest =
        let number : suc f ≡ c = cc in
        let index : k ≡ j = cc in
        record {
          from = omega arith;
          among = omega arith;
          at-fault = ap fault (sym index) ∙ p ∙ number;
          earlier-pass = λ i h l. absurd (omega arith);
        }

-- no refusal has the number 0
pub refused-number : (fault : ℕ → ℕ) (n k left c j : ℕ) → in_order fault k left (Done n) ≡ Refused c j → c ≡ 0 → ⊥
unfolding in_order
refused-number fault n k zero c j e z = let d : ◌≡◌ {A = ℕ} 0 1 = cc in omega arith
refused-number fault n k (suc left) c j e z = go (fault k) e (λ e. refused-number fault n (suc k) left c j e z)
  where
    go : (f : ℕ) → refuse f k (in_order fault (suc k) left (Done n)) ≡ Refused c j → (in_order fault (suc k) left (Done n) ≡ Refused c j → ⊥) → ⊥
    go zero e rest = rest e
    go (suc f) e rest = let number : suc f ≡ c = cc in omega arith

-- where the answer is done every record passes
pub done-all-pass : (fault : ℕ → ℕ) (n k left m : ℕ) → in_order fault k left (Done n) ≡ Done m → (n ≡ m) × ((i : ℕ) → k ≤ i → i < k + left → fault i ≡ 0)
unfolding in_order
done-all-pass fault n k zero m e = (cc, λ i h l. absurd (omega arith))
done-all-pass fault n k (suc left) m e = go (fault k) refl e (done-all-pass fault n (suc k) left m)
  where
    go : (f : ℕ) → fault k ≡ f → refuse f k (in_order fault (suc k) left (Done n)) ≡ Done m → (in_order fault (suc k) left (Done n) ≡ Done m → (n ≡ m) × ((i : ℕ) → suc k ≤ i → i < suc k + left → fault i ≡ 0)) → (n ≡ m) × ((i : ℕ) → k ≤ i → i < k + suc left → fault i ≡ 0)
    go zero p e rest = ((rest e).0, λ i h l. elim (ℕ_discrete i k) [ yes q ↦ ap fault q ∙ p | no q ↦ (rest e).1 i (omega arith) (omega arith) ])
    go (suc f) p e rest = absurd (let z : ◌≡◌ {A = ℕ} 0 1 = cc in omega arith)

-- the other way: the first record at fault is refused, and where none is the answer is done
pub first-refused : (fault : ℕ → ℕ) (v : Verdict) (k left c j : ℕ) → FirstAtFault fault k left (suc c) j → in_order fault k left v ≡ Refused (suc c) j
unfolding in_order
first-refused fault v k zero c j h = absurd (omega (arith, h.from, h.among))
first-refused fault v k (suc left) c j h = go (ℕ_discrete k j) (first-refused fault v (suc k) left c j)
  where
    go : Dec (k ≡ j) → (FirstAtFault fault (suc k) left (suc c) j → in_order fault (suc k) left v ≡ Refused (suc c) j) → refuse (fault k) k (in_order fault (suc k) left v) ≡ Refused (suc c) j
    go (yes p) rest = rw (p, h.at-fault)
    go (no p) rest =
        let later : suc k ≤ j = omega (arith, h.from) in
        rw (h.earlier-pass k (omega arith) later)
        (rest (record {
          from = later;
          among = omega (arith, h.among);
          at-fault = h.at-fault;
          earlier-pass = λ i f l. h.earlier-pass i (omega arith) l;
        }))

pub all-pass-done : (fault : ℕ → ℕ) (v : Verdict) (k left : ℕ) → ((i : ℕ) → k ≤ i → i < k + left → fault i ≡ 0) → in_order fault k left v ≡ v
unfolding in_order
all-pass-done fault v k zero h = refl
all-pass-done fault v k (suc left) h =
    rw (h k (omega arith) (omega arith))
    (all-pass-done fault v (suc k) left (λ i f l. h i (omega arith) (omega arith)))

-- a chain of checks that is done passed its first, and the rest is done too
pub record Passes (first : Verdict) (next : ℕ → Verdict) (m : ℕ) : Type 0 where
  pub count : ℕ
  pub passes : first ≡ Done count
  pub rest : next count ≡ Done m

pub done-by : (first : Verdict) (next : ℕ → Verdict) {m : ℕ} → and_then first next ≡ Done m → Passes first next m
done-by (Done n) next e = record { count = n; passes = refl; rest = e }
done-by (Refused c k) next e = absurd (let z : ◌≡◌ {A = ℕ} 0 1 = cc in omega arith)

-- What a whole file's verdict says
module _ (size most : ℕ) (fault : ℕ → ℕ) (file : List ℕ) where
  -- an accepted file
  pub record Accepted (n : ℕ) : Type 0 where
    pub whole : length file % size ≡ 0
    pub count : n ≡ records size file
    pub allowed : n ≤ most
    pub all_pass : (k : ℕ) → k < n → fault k ≡ 0

  -- why a file is refused: "1, 2, then records in order"
  pub data WhyRefused : ℕ → ℕ → Type 0 where
    wrong-length : (length file % size ≡ 0 → ⊥) → WhyRefused wrong_length 0
    too_many_lem : length file % size ≡ 0 → most < records size file → WhyRefused too_many 0
    at-record : {c j : ℕ} → length file % size ≡ 0 → records size file ≤ most → FirstAtFault fault 0 (records size file) c j → WhyRefused c j

  in-records : Verdict
  in-records = in_order fault 0 (records size file) (Done (records size file))

  -- the verdict by its two tests
  by_tests : Bool → Bool → Verdict
  by_tests whole many = refuse (wrong_length when not whole) 0 (refuse (too_many when many) 0 in-records)

  pub accepted : (n : ℕ) → file_verdict size most fault file ≡ Done n → Accepted n
  unfolding file_verdict by_tests in-records
  accepted n e = go (eqb (length file % size) 0) (ltb most (records size file)) refl refl e
    where
      go : (whole many : Bool) → eqb (length file % size) 0 ≡ whole → ltb most (records size file) ≡ many → by_tests whole many ≡ Done n → Accepted n
      go false many p q e = absurd (let z : ◌≡◌ {A = ℕ} 0 1 = cc in omega arith)
      go true true p q e = absurd (let z : ◌≡◌ {A = ℕ} 0 1 = cc in omega arith)
      go true false p q e =
          let pass = done-all-pass fault (records size file) 0 (records size file) n e in
          record {
            whole = eqb-true _ 0 p;
            count = sym pass.0;
            allowed = omega (arith, ltb-false most _ q, pass.0);
            all_pass = λ k h. pass.1 k (omega arith) (omega (arith, pass.0));
          }

  -- and the other way round
  pub accepts : (n : ℕ) → Accepted n → file_verdict size most fault file ≡ Done n
  unfolding file_verdict
  accepts n good =
      rw (eq-eqb (length file % size) 0 good.whole, sym good.count, le-ltb most n good.allowed)
      (all-pass-done fault (Done n) 0 n (λ k h l. good.all_pass k (omega arith)))

  pub why-refused : (c j : ℕ) → file_verdict size most fault file ≡ Refused c j → WhyRefused c j
  unfolding file_verdict by_tests in-records
  why-refused c j e = go (eqb (length file % size) 0) (ltb most (records size file)) refl refl e
    where
      go : (whole many : Bool) → eqb (length file % size) 0 ≡ whole → ltb most (records size file) ≡ many → by_tests whole many ≡ Refused c j → WhyRefused c j
      go false many p q e =
          let number : 1 ≡ c = cc in
          let index : 0 ≡ j = cc in
          rw (← number, ← index) (wrong-length (eqb-false _ 0 p))
      go true true p q e =
          let number : 2 ≡ c = cc in
          let index : 0 ≡ j = cc in
          rw (← number, ← index) (too_many_lem (eqb-true _ 0 p) (ltb-true most _ q))
      go true false p q e = at-record (eqb-true _ 0 p) (ltb-false most _ q) (refused-first fault (records size file) 0 (records size file) c j e)

-- The count of a size above 0 makes the two checks
pub counting-some : (size most : ℕ) (file : List ℕ) → (size ≡ 0 → ⊥)
    → counting size most file ≡ refuse (wrong_length when not (eqb (length file % size) 0)) 0 (refuse (too_many when ltb most (records size file)) 0 (Done (records size file)))
unfolding counting
counting-some zero most file some = absurd (some refl)
counting-some (suc size) most file some = refl

-- the records that are counted are checked in order
in_turn : (ℕ → ℕ) → ℕ → Verdict
in_turn fault n = in_order fault 0 n (Done n)

module _ (fault : ℕ → ℕ) (size most : ℕ) (file : List ℕ) (some : 0 < size) where
  -- "1, 2, then records in order": a whole file's verdict goes on from its count
  counted-first : file_verdict size most fault file ≡ and_then (counting size most file) (in_turn fault)
  unfolding file_verdict in_turn
  counted-first =
      rw (counting-some size most file (λ none. omega (arith, some, none)))
      (go (eqb (length file % size) 0) (ltb most (records size file)) (records size file))
    where
      go : (whole many : Bool) (n : ℕ) → refuse (wrong_length when not whole) 0 (refuse (too_many when many) 0 (in_turn fault n)) ≡ and_then (refuse (wrong_length when not whole) 0 (refuse (too_many when many) 0 (Done n))) (in_turn fault)
      go false many n = refl
      go true true n = refl
      go true false n = refl

  -- where the count refuses, the file is refused the same
  pub count-refused : {c j : ℕ} → Refused c j ≡ counting size most file → Refused c j ≡ file_verdict size most fault file
  count-refused e = ap (λ v. and_then v (in_turn fault)) e ∙ sym counted-first

  -- and where it is done, the records are next
  pub count-done : {n : ℕ} → Done n ≡ counting size most file → file_verdict size most fault file ≡ in_order fault 0 n (Done n)
  unfolding in_turn
  count-done e = counted-first ∙ ap (λ v. and_then v (in_turn fault)) (sym e)

-- a count that is done: a whole number of records, few enough
pub record Counted (size most : ℕ) (file : List ℕ) (n : ℕ) : Type 0 where
  pub whole : length file % size ≡ 0
  pub count : n ≡ records size file
  pub allowed : n ≤ most

pub counted : {size most : ℕ} {file : List ℕ} {n : ℕ} → 0 < size → Done n ≡ counting size most file → Counted size most file n
counted {size} {most} {file} {n} some e =
    let passes = count-done (λ k. 0) size most file some e ∙ all-pass-done (λ k. 0) (Done n) 0 n (λ i f l. refl) in
    let good = accepted size most (λ k. 0) file n passes in
    record { whole = good.whole; count = good.count; allowed = good.allowed }

-- A file of single bytes
module _ (most largest number : ℕ) (file : List ℕ) where
  -- one that passes: as many bytes as there are, few enough, and each of them
  pub record BytesPass (n : ℕ) : Type 0 where
    pub count : n ≡ length file
    pub few : length file ≤ most
    pub each : (i : ℕ) → i < length file → byte_fault largest number file i ≡ 0

  -- they are records of one byte
  pub bytes-records : bytes_verdict most largest number file ≡ file_verdict 1 most (byte_fault largest number file) file
  unfolding bytes_verdict file_verdict
  bytes-records = rw (mod-one, div-one)

  pub passed-bytes : (n : ℕ) → bytes_verdict most largest number file ≡ Done n → BytesPass n
  passed-bytes n e =
      let good = accepted 1 most (byte_fault largest number file) file n (sym bytes-records ∙ e) in
      let count = good.count ∙ div-one _ in
      record { count = count; few = omega (arith, count, good.allowed); each = λ i h. good.all_pass i (omega (arith, count)) }

  -- and the other way round
  pub bytes-done : length file ≤ most → ((i : ℕ) → i < length file → byte_fault largest number file i ≡ 0) → bytes_verdict most largest number file ≡ Done (length file)
  bytes-done few each =
      bytes-records
      ∙ accepts 1 most (byte_fault largest number file) file (length file) (record { whole = mod-one _; count = sym (div-one _); allowed = few; all_pass = each })

-- a file of single bytes is refused by 2, or by the number that was given
pub bytes-number : (most largest number c j : ℕ) (file : List ℕ) → bytes_verdict most largest number file ≡ Refused c j → (c ≡ number → ⊥) → c ≡ too_many
unfolding bytes_verdict
bytes-number most largest number c j file e other = go (ltb most (length file)) e
  where
    fault : ℕ → ℕ
    fault = byte_fault largest number file

    in-bytes : Verdict
    in-bytes = in_order fault 0 (length file) (Done (length file))

    at-byte : (over : Bool) → (number when over) ≡ c → in-bytes ≡ Refused c j → ⊥
    at-byte true is refused = other (sym is)
    at-byte false is refused = refused-number fault (length file) 0 (length file) c j refused (sym is)

    go : (many : Bool) → refuse (too_many when many) 0 in-bytes ≡ Refused c j → c ≡ too_many
    go true refused = let by_two : 2 ≡ c = cc in sym by_two
    go false refused =
        absurd (at-byte (ltb largest (byte_at file j)) (refused-first fault (length file) 0 (length file) c j refused).at-fault refused)
