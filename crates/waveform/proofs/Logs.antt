-- A log's clocks are told by its flags, and for any clocks there is a log that has them.
use Prim.Native.Nat.{ℕ, ◌+◌, ◌*◌, ◌/◌, ◌%◌, ◌≤◌, ◌<◌}
use mathlib.Core.Path.{◌≡◌, refl, ap, sym, ◌∙◌}
use mathlib.Core.Bool.{Bool, true, false}
use mathlib.Core.List.{List, [], ◌∷◌, map}
use native.Mathlib.Omega.{arith}
use lib.Arith.{mod-mul}
use lib.ListN.{length, get_or}
use lib.Dec.{eqb}
use borrow.Author.Tests.{eqb-true, eqb-false}
use Rattle.verdict.specs.Lists.{All}
use Rattle.verdict.specs.Bits.{bit}
use Rattle.verdict.specs.File.{byte_at, records}
use Rattle.verdict.specs.Output.{tabulate, join}
use Rattle.verdict.proofs.Lists.{all-tabulate, all_join, tabulate-ext, tabulate-of, map-tabulate, length-pieces, get_or-pieces}
use Rattle.frame.specs.Frame.{log_record}
use Rattle.frame.specs.Steps.{most_steps}
use Rattle.wire.proofs.Levels.{bit-small, bit-level, three-flags}
use Rattle.wire.specs.Wire.{as_bit}
use Rattle.waveform.specs.declared.signals.Signals.{Signals}
use Rattle.waveform.specs.Signals.{signals_of, flags_of}
use Rattle.waveform.specs.Waveform.{text_of, signals_in, waveform, WritesAs, flags_in}
use Rattle.waveform.proofs.Writing.{signals_at, log-accepted}

-- a bit read as a signal
as-bit : (n : ℕ) → n < 2 → as_bit (eqb n 1) ≡ n
as-bit n small = go (eqb n 1) refl
  where
    go : (b : Bool) → eqb n 1 ≡ b → as_bit b ≡ n
    go true e = sym (eqb-true n 1 e)
    go false e = omega (arith, eqb-false n 1 e)

lowest : (n : ℕ) → n % 2 ≡ bit 0 n
lowest n = omega arith

-- three of them in one number
three-bits : (a b c four eight : ℕ) → four ≡ b * 2 + a → eight ≡ c * 4 + four → a * 1 + b * 2 + c * 4 ≡ eight
three-bits a b c four eight p q = omega arith

-- flags there and back: only 1, 2 and 4 count
pub masked : (flags : ℕ) → flags_of (signals_of flags) ≡ flags % 8
unfolding flags_of signals_of
masked flags =
    let four : flags % 4 ≡ flags / 2 % 2 * 2 + flags % 2 = mod-mul flags (omega arith) (omega arith) in
    let eight : flags % 8 ≡ flags / 4 % 2 * 4 + flags % 4 = mod-mul flags (omega arith) (omega arith) in
    rw (as-bit (bit 0 flags) (omega arith), as-bit (bit 1 flags) (omega arith), as-bit (bit 2 flags) (omega arith))
    (three-bits (bit 0 flags) (bit 1 flags) (bit 2 flags) (flags % 4) (flags % 8) (four ∙ ap (λ n. flags / 2 % 2 * 2 + n) (lowest flags)) eight)

pub signals-told : (signals : Signals) → signals_of (flags_of signals) ≡ signals
unfolding flags_of signals_of
signals-told signals =
    let flags = three-flags signals.level signals.enable signals.contention in
    rw (flags.0, flags.1, flags.2, bit-level signals.level, bit-level signals.enable, bit-level signals.contention)

-- flags are a byte
flags-small : (signals : Signals) → flags_of signals < 256
unfolding flags_of
flags-small signals = omega (arith, bit-small signals.level, bit-small signals.enable, bit-small signals.contention)

-- the flags of a log's clocks
pub flags-masked : (log : List ℕ) → map flags_of (signals_in log) ≡ flags_in log
flags-masked log =
    map-tabulate flags_of (records log_record log) (signals_at log)
    ∙ tabulate-ext (records log_record log) _ _ (λ i here. masked (byte_at log (i * log_record)))

-- a log with these clocks: a record has their flags, and no PHY drives
record_with : Signals → List ℕ
record_with signals = flags_of signals ∷ 0 ∷ 0 ∷ 0 ∷ 0 ∷ []

module _ (clocks : List Signals) where
  record_at : ℕ → List ℕ
  record_at i = record_with (get_or clocks i (signals_of 0))

  pub log_of : List ℕ
  log_of = join (tabulate (length clocks) record_at)

  record-size : (i : ℕ) → length (record_at i) ≡ log_record
  unfolding record_at record_with
  record-size i = refl

  pub log-long : length log_of ≡ length clocks * log_record
  unfolding log_of
  log-long = length-pieces log_record (length clocks) record_at record-size

  pub log-clocks : signals_in log_of ≡ clocks
  unfolding log_of record_at record_with
  log-clocks =
      let n = length clocks in
      let count : records log_record log_of ≡ n = omega (arith, log-long) in
      ap (λ m. tabulate m (signals_at log_of)) count
      ∙ sym (tabulate-of n (signals_at log_of) clocks (signals_of 0) refl (λ i here. sym (at i here)))
    where
      at : (i : ℕ) → i < length clocks → signals_at log_of i ≡ get_or clocks i (signals_of 0)
      at i here =
          let place : i * 5 ≡ i * 5 + 0 = omega arith in
          ap (λ k. signals_of (get_or log_of k 0)) place
          ∙ ap signals_of (get_or-pieces log_record (length clocks) record_at record-size 0 i 0 here (omega arith))
          ∙ signals-told (get_or clocks i (signals_of 0))

  -- its numbers are bytes
  pub log-bytes : All (λ b. b < 256) log_of
  unfolding log_of record_at record_with
  log-bytes =
      all_join (λ b. b < 256) (tabulate (length clocks) record_at)
      (all-tabulate (All (λ b. b < 256)) (length clocks) record_at (λ i here. (flags-small (get_or clocks i (signals_of 0)), (omega arith, (omega arith, (omega arith, (omega arith, tt)))))))

  -- the writer accepts it, and its text is that of the clocks
  pub writes_as : (text : List ℕ) → length clocks ≤ most_steps → text_of clocks ≡ text → WritesAs log_of text
  unfolding waveform
  writes_as text few same =
      record {
        accepted = log-accepted log_of (omega (arith, log-long)) (omega (arith, log-long));
        same = ap text_of log-clocks ∙ same;
      }
