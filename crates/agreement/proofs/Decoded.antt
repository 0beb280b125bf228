-- The definitions that `translate` and `decode` cite, told of the agreement's: a preamble of 32 ones throughout, and the level at each clock of a log.
use Prim.Native.Nat.{ℕ, zero, suc, ◌+◌, ◌*◌, ◌-◌, ◌%◌, ◌≤◌, ◌<◌}
use mathlib.Core.Path.{◌≡◌, refl, ap, ap₂, sym, ◌∙◌}
use mathlib.Core.Bool.{true}
use mathlib.Core.List.{List, [], ◌∷◌, ◌++◌, map, map-append}
use native.Mathlib.Omega.{arith}
use lib.ListN.{length, get_or, drop}
use lib.Seq.{get_or-take, get_or-drop}
use borrow.Author.Tests.{le-leb}
use Rattle.verdict.specs.File.{records}
use Rattle.verdict.specs.Output.{tabulate, join}
use Rattle.verdict.proofs.Lists.{tabulate-ext, tabulate-cons}
use Rattle.frame.specs.declared.list.Transaction.{Transaction}
use Rattle.frame.specs.Frame.{preamble, clocks, log_part_bytes}
use Rattle.frame.specs.List.{list_record, most_transactions, transaction_at, transactions}
use Rattle.frame.specs.Steps.{steps_of}
use Rattle.frame.specs.Log.{level_at, has_part, log_part}
use Rattle.frame.specs.Answers.{answer_in, answers_in}
use Rattle.wire.specs.Wire.{station_drive}
use Rattle.wire.specs.Machines.{clocks_with, clocks_of}
use Rattle.agreement.specs.Levels.{heard, heard_all}
use Rattle.agreement.specs.Agrees.{station_for_all}
use Rattle.agreement.proofs.Heard.{heard-same}

-- what the station does is the translated list
pub station-translated : (ts : List Transaction) → station_for_all preamble preamble ts ≡ map station_drive (join (map steps_of ts))
unfolding station_for_all steps_of join
station-translated [] = refl
station-translated (t ∷ ts) = ap (λ ds. map station_drive (steps_of t) ++ ds) (station-translated ts) ∙ sym (map-append station_drive (steps_of t) (join (map steps_of ts)))

pub clocks-translated : (ts : List Transaction) → clocks_of preamble preamble ts ≡ length ts * clocks
unfolding clocks_of
clocks-translated [] = refl
clocks-translated (t ∷ ts) = omega (arith, clocks-translated ts)

-- the same clocks in other words
heard-shift : (m : ℕ) (t : Transaction) (level shift other : ℕ → ℕ) → ((clock : ℕ) → shift clock ≡ other clock) →
    heard m t (λ clock. level (shift clock)) ≡ heard m t (λ clock. level (other clock))
heard-shift m t level shift other same =
    heard-same m t (λ clock. level (shift clock)) (λ clock. level (other clock)) (ap level (same (m + 16))) (λ i h. ap level (same (m + 17 + i)))

-- what is heard of a list, transaction by transaction
heard-each : (m n : ℕ) (f : ℕ → Transaction) (level : ℕ → ℕ) →
    heard_all m m (tabulate n f) level ≡ tabulate n (λ k. heard m (f k) (λ clock. level (k * clocks_with m + clock)))
unfolding heard_all tabulate
heard-each m zero f level = refl
heard-each m (suc n) f level =
    ap (λ ts. heard_all m m ts level) (tabulate-cons n f)
    ∙ ap₂ (λ a answers. a ∷ answers)
    (heard-shift m (f 0) level (λ clock. clock) (λ clock. 0 * clocks_with m + clock) (λ clock. omega arith))
    (heard-each m n (λ k. f (suc k)) (λ clock. level (clocks_with m + clock))
    ∙ tabulate-ext n _ _ (λ k within. heard-shift m (f (suc k)) level (λ clock. clocks_with m + (k * clocks_with m + clock)) (λ clock. suc k * clocks_with m + clock) (λ clock. omega arith)))
    ∙ sym (tabulate-cons n (λ k. heard m (f k) (λ clock. level (k * clocks_with m + clock))))

-- the level at a clock of a log's part
part-level : (log : List ℕ) (n k clock : ℕ) → length log ≡ n * log_part_bytes → n ≤ most_transactions → k < n → 1 ≤ clock → clock ≤ clocks →
    level_at (log_part log (k + 1)) clock ≡ level_at log (k * clocks + clock)
unfolding level_at log_part
part-level log n k clock long few within low high =
    let has : has_part log (k + 1) ≡ true = rw (le-leb 1 (k + 1) (omega arith), le-leb (k + 1) 64 (omega arith), le-leb ((k + 1) * 325) (length log) (omega arith)) in
    let place : (k + 1 - 1) * 325 + (clock - 1) * 5 ≡ (k * 65 + clock - 1) * 5 = omega arith in
    rw has
    (ap (λ b. b % 2)
    (get_or-take 325 (drop ((k + 1 - 1) * 325) log) ((clock - 1) * 5) 0 (omega arith)
    ∙ get_or-drop ((k + 1 - 1) * 325) log ((clock - 1) * 5) 0
    ∙ ap (λ i. get_or log i 0) place))

-- what the decoder writes is what is heard in its log
pub decoded-heard : (list log : List ℕ) → records list_record list ≤ most_transactions → length log ≡ records list_record list * log_part_bytes →
    answers_in list log ≡ heard_all preamble preamble (transactions list) (level_at log)
unfolding answer_in
decoded-heard list log few long =
    tabulate-ext (records list_record list) _ _ (λ k within. heard-same preamble (transaction_at list k) (level_at (log_part log (k + 1))) (λ clock. level_at log (k * clocks + clock))
    (part-level log (records list_record list) k 48 long few within (omega arith) (omega arith))
    (λ i h. part-level log (records list_record list) k (49 + i) long few within (omega arith) (omega arith)))
    ∙ sym (heard-each preamble (records list_record list) (transaction_at list) (level_at log))
