-- What the reader finds is what the writer wrote: a text has the clocks of one list only, and a log for them.
use Prim.Native.Nat.{ℕ, ◌≤◌, ◌<◌}
use mathlib.Core.Path.{◌≡◌, refl, subst, ap, ap₂, sym, ◌∙◌}
use mathlib.Core.List.{List, [], map, ◌++◌}
use Rattle.std.specs.Prelude.{Option, None, Some}
use Rattle.std.proofs.lemmas.Option.{none-some}
use native.Mathlib.Omega.{arith}
use lib.ListN.{length, take, drop, length-map}
use borrow.Author.Tests.{lt-ltb, le-ltb}
use Rattle.verdict.specs.Refusal.{Verdict, Done, Refused, no_room, wrong_text}
use Rattle.verdict.specs.File.{records}
use Rattle.verdict.specs.Output.{room_for, Writes}
use Rattle.verdict.proofs.Lists.{length-tabulate}
use Rattle.verdict.proofs.Outputs.{refuses}
use Rattle.frame.specs.Frame.{log_record}
use Rattle.waveform.specs.declared.signals.Signals.{Signals}
use Rattle.waveform.specs.Signals.{flags_of}
use Rattle.waveform.specs.Waveform.{signals_in, waveform, WritesAs, Reading, ReadBack}
use Rattle.waveform.specs.Passes.{clocks_in, count_of, GoneOver}
use Rattle.waveform.proofs.Writing.{signals_at, few-clocks}
use Rattle.waveform.proofs.Reading.{read-was-written, written-is-read}
use Rattle.waveform.proofs.Logs.{flags-masked, log_of, writes_as}

-- the clocks of a text that is written of a log
pub log-read : (log text : List ℕ) → WritesAs log text → clocks_in text ≡ Some (signals_in log)
unfolding waveform
log-read log text writes =
    written-is-read text (signals_in log) writes.same
    (omega (arith, length-tabulate (records log_record log) (signals_at log), few-clocks log writes.accepted))

-- and a log for the clocks of a text
pub read_log : (text : List ℕ) (clocks : List Signals) → clocks_in text ≡ Some clocks → WritesAs (log_of clocks) text
read_log text clocks read = let was = read-was-written text clocks read in writes_as clocks text was.1 was.0

module _ (text out : List ℕ) (r : Verdict) (out' : List ℕ) where
  -- of a text with these clocks
  pub reads_as : (clocks : List Signals) → clocks_in text ≡ Some clocks → Writes (room_for out (length clocks)) (map flags_of clocks) out r out' → ReadBack text out r out'
  reads_as clocks read wrote =
      record {
        ours = λ log writes.
            let same : clocks ≡ signals_in log = let e = sym read ∙ log-read log text writes in cc in
            subst (λ flags. Writes (room_for out (records log_record log)) flags out r out') (ap (map flags_of) same ∙ flags-masked log)
            (subst (λ n. Writes (room_for out n) (map flags_of clocks) out r out') (ap length same ∙ length-tabulate (records log_record log) (signals_at log)) wrote);
        foreign = λ strange. absurd (strange (log_of clocks) (read_log text clocks read));
      }

  -- of one that has none
  pub reads_nothing : clocks_in text ≡ None → Writes (Refused wrong_text 0) [] out r out' → ReadBack text out r out'
  reads_nothing unread refused =
      record {
        ours = λ log writes. absurd (none-some _ (sym unread ∙ log-read log text writes));
        foreign = λ strange. refused;
      }

-- a text is either ours, of some log, or of none
pub data Whose (text : List ℕ) : Type 0 where
  of-log : (log : List ℕ) → WritesAs log text → Whose text
  of_none : ((log : List ℕ) → WritesAs log text → ⊥) → Whose text

pub whose : (text : List ℕ) → Whose text
whose text = go (clocks_in text) refl
  where
    go : (read : Option (List Signals)) → clocks_in text ≡ read → Whose text
    go None e = of_none (λ log writes. none-some _ (sym e ∙ log-read log text writes))
    go (Some clocks) e = of-log (log_of clocks) (read_log text clocks e)

-- what follows from what is kept, in either case
pub reading-both : {text out : List ℕ} {Keeps Keeps' : Verdict → List ℕ → Type 0} {Same : Type 0} →
    ((answer : Verdict) (result : List ℕ) → Keeps answer result → Keeps' answer result → Same) → Reading text out Keeps → Reading text out Keeps' → Same
reading-both {text} {Same = Same} follows p q = go (whose text)
  where
    go : Whose text → Same
    go (of-log log writes) = follows _ _ (p.ours log writes) (q.ours log writes)
    go (of_none strange) = follows _ _ (p.foreign strange) (q.foreign strange)

-- What the reader's room says: it holds the flags of the clocks that are counted
record Counts (read : Option (List Signals)) (n : ℕ) : Type 0 where
  pub clocks : List Signals
  pub is : read ≡ Some clocks
  pub size : length clocks ≡ n

uncounted : (read : Option (List Signals)) {number index : ℕ} → count_of read ≡ Refused number index → read ≡ None
uncounted None e = refl
uncounted (Some clocks) e = absurd (let z : ◌≡◌ {A = ℕ} 0 1 = cc in omega arith)

counted : (read : Option (List Signals)) {n : ℕ} → count_of read ≡ Done n → Counts read n
counted None e = absurd (let z : ◌≡◌ {A = ℕ} 0 1 = cc in omega arith)
counted (Some clocks) e = record { clocks = clocks; is = refl; size = cc }

module _ {text room : List ℕ} {r : Verdict} (gone : GoneOver text r room) where
  -- a text that is not ours
  pub not_ours : (out : List ℕ) {number index : ℕ} → r ≡ Refused number index → ReadBack text out r out
  not_ours out refused =
      let unread = uncounted (clocks_in text) (sym gone.verdict ∙ refused) in
      reads_nothing text out r out unread (record { verdict = gone.verdict ∙ ap count_of unread; output = refl })

  module _ {n : ℕ} (done : r ≡ Done n) where
    clocks-counted : Counts (clocks_in text) n
    clocks-counted = counted (clocks_in text) (sym gone.verdict ∙ done)

    -- the flags have no room in the output
    pub no_room_lem : (out : List ℕ) → length out < n → ReadBack text out (Refused no_room 0) out
    no_room_lem out short =
        let c = clocks-counted in
        reads_as text out (Refused no_room 0) out c.clocks c.is (refuses _ out (rw (lt-ltb (length out) (length c.clocks) (omega (arith, short, c.size)))) refl)

    -- they have, and are put there
    pub reads : (out : List ℕ) → n ≤ length out → (out' : List ℕ) → out' ≡ take n room ++ drop n out → ReadBack text out (Done n) out'
    reads out fits out' puts =
        let c = clocks-counted in
        let flags = map flags_of c.clocks in
        let size : length flags ≡ n = length-map c.clocks flags_of ∙ c.size in
        let enough = le-ltb (length out) (length c.clocks) (omega (arith, fits, c.size)) in
        let taken : take n room ≡ flags = ap (λ m. take m room) (sym c.size) ∙ gone.output c.clocks c.is in
        reads_as text out (Done n) out' c.clocks c.is
        (record {
          verdict = rw enough (ap Done (sym c.size));
          output = rw enough (puts ∙ ap₂ (λ (front : List ℕ) (m : ℕ). front ++ drop m out) taken (sym size));
        })
