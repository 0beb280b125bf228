-- Going over a log clock by clock: what is put so far, and what is still to come, are together its whole text.
use Prim.Native.Nat.{ℕ, ◌+◌, ◌-◌, ◌*◌, ◌%◌, ◌≤◌, ◌<◌}
use mathlib.Core.Path.{◌≡◌, refl, subst, ap, ap₂, sym, ◌∙◌}
use mathlib.Core.List.{List, [], ◌∷◌, ◌++◌, append_assoc}
use native.Mathlib.Omega.{arith}
use native.Mathlib.Numerals.{add-one}
use lib.ListN.{length, drop}
use lib.Seq.{drop-cons, drop-length}
use borrow.Author.Tests.{eq-eqb, ne_eqb, lt-ltb}
use Rattle.verdict.specs.Refusal.{Refused, Done, wrong_length, too_many}
use Rattle.verdict.specs.File.{byte_at, records, counting, file_verdict}
use Rattle.verdict.proofs.Lists.{length-tabulate, get_or-tabulate}
use Rattle.verdict.proofs.Checks.{accepted, accepts, count-refused, counted}
use Rattle.frame.specs.Frame.{log_record}
use Rattle.frame.specs.Steps.{most_steps}
use Rattle.waveform.specs.declared.write.Output.{Output}
use Rattle.waveform.specs.declared.signals.Signals.{Signals}
use Rattle.waveform.specs.Text.{time_line}
use Rattle.waveform.specs.Signals.{signals_of}
use Rattle.waveform.specs.Waveform.{header, clock_lines, lines_from, text_of, signals_in, waveform, log_verdict}
use Rattle.waveform.specs.Passes.{HasRoom, Puts, Accepted, flags_before}
use Rattle.waveform.proofs.Puts.{puts-nothing, puts-length, room-first, room-second, puts_both}

module _ (log : List ℕ) where
  -- the signals of clock i + 1
  abbrev pub signals_at : ℕ → Signals
  signals_at i = signals_of (byte_at log (i * log_record))

  -- and those of the clock before it
  abbrev pub signals_before : ℕ → Signals
  signals_before i = signals_of (flags_before log i)

  before-next : (i : ℕ) → signals_before (i + 1) ≡ signals_at i
  before-next i =
      let same : i + 1 - 1 ≡ i = omega arith in
      rw (ne_eqb (i + 1) 0 (λ e. omega (arith, e)), same)

  -- what is to come after i clocks
  abbrev pub to_come : ℕ → List ℕ
  to_come i = lines_from (i + 1) (signals_before i) (drop i (signals_in log))

  -- the lines of the next
  abbrev pub lines_at : ℕ → List ℕ
  lines_at i = clock_lines (i + 1) (signals_before i) (signals_at i)

  -- one clock of it, and at the end the closing time
  pub clock-first : (i : ℕ) → i < records log_record log → to_come i ≡ lines_at i ++ to_come (i + 1)
  unfolding lines_from
  clock-first i here =
      let n = records log_record log in
      let long = length-tabulate n signals_at in
      ap (lines_from (i + 1) (signals_before i))
      (drop-cons (signals_in log) i (signals_of 0) (omega (arith, here, long))
      ∙ ap₂ (λ (s : Signals) (m : ℕ). s ∷ drop m (signals_in log)) (get_or-tabulate n signals_at (signals_of 0) i here) (sym (add-one i)))
      ∙ ap₂ (λ (clock : ℕ) (signals : Signals). lines_at i ++ lines_from clock signals (drop (i + 1) (signals_in log))) (sym (add-one (i + 1))) (sym (before-next i))

  pub closing-last : let n = records log_record log in to_come n ≡ time_line (n + 1)
  unfolding lines_from
  closing-last =
      let n = records log_record log in
      ap (λ m. lines_from (n + 1) (signals_before n) (drop m (signals_in log))) (sym (length-tabulate n signals_at))
      ∙ ap (lines_from (n + 1) (signals_before n)) (drop-length (signals_in log))

  pub behind-header : waveform log ≡ header ++ to_come 0
  unfolding waveform text_of
  behind-header = refl

  -- the clocks are put into an output
  module _ (out₀ : Output) where
    pub record Going (out : Output) (i : ℕ) : Type 0 where
      pub done : List ℕ
      pub puts : Puts out₀ done out
      pub whole : done ++ to_come i ≡ to_come 0
      pub within : i ≤ records log_record log

    pub goes_first : Going out₀ 0
    goes_first = record { done = []; puts = puts-nothing out₀; whole = refl; within = omega arith }

    module _ {out : Output} {i : ℕ} (room : HasRoom out₀ (to_come 0)) (now : Going out i) where
      all_room : HasRoom out₀ (now.done ++ to_come i)
      all_room = subst (HasRoom out₀) (sym now.whole) room

      rest-room : HasRoom out (to_come i)
      rest-room = room-second now.done (to_come i) all_room now.puts

      -- the text keeps its length
      pub same-long : length out.text.now ≡ length out₀.text.now
      same-long = puts-length (room-first out₀ now.done (to_come i) all_room) now.puts

      module _ (here : i < records log_record log) where
        -- there is room for another clock, and then it goes on
        pub room-here : HasRoom out (lines_at i)
        room-here = room-first out _ (to_come (i + 1)) (subst (HasRoom out) (clock-first i here) rest-room)

        pub goes_on : {out' : Output} → Puts out (lines_at i) out' → Going out' (i + 1)
        goes_on puts =
            let lines = lines_at i in
            let later = to_come (i + 1) in
            let split = append_assoc now.done lines later ∙ ap (λ (rest : List ℕ). now.done ++ rest) (sym (clock-first i here)) ∙ now.whole in
            record {
              done = now.done ++ lines;
              puts = puts_both now.done lines (room-first out₀ (now.done ++ lines) later (subst (HasRoom out₀) (sym split) room)) now.puts puts;
              whole = split;
              within = omega arith;
            }

      module _ (end : i ≡ records log_record log) where
        closing : to_come i ≡ time_line (records log_record log + 1)
        closing = ap to_come end ∙ closing-last

        -- there is room for the closing time, and then all is put
        pub room-closing : HasRoom out (time_line (records log_record log + 1))
        room-closing = subst (HasRoom out) closing rest-room

        pub goes-to-end : {out' : Output} → Puts out (time_line (records log_record log + 1)) out' → Puts out₀ (to_come 0) out'
        goes-to-end {out'} puts =
            subst (λ lines. Puts out₀ lines out') now.whole
            (puts_both now.done (to_come i) all_room now.puts (subst (λ lines. Puts out lines out') (sym closing) puts))

-- The log's checks
module _ (log : List ℕ) where
  pub not-whole : (length log % log_record ≡ 0 → ⊥) → log_verdict log ≡ Refused wrong_length 0
  unfolding file_verdict
  not-whole broken = rw (ne_eqb (length log % log_record) 0 broken)

  pub too_long : length log % log_record ≡ 0 → most_steps < records log_record log → log_verdict log ≡ Refused too_many 0
  unfolding file_verdict
  too_long whole many = rw (eq-eqb (length log % log_record) 0 whole, lt-ltb most_steps (records log_record log) many)

  -- by the count of its records
  pub log-refused : {c j : ℕ} → Refused c j ≡ counting log_record most_steps log → log_verdict log ≡ Refused c j
  log-refused e = sym (count-refused (λ k. 0) log_record most_steps log (omega arith) e)

  pub log-accepted : length log % log_record ≡ 0 → records log_record log ≤ most_steps → Accepted log
  log-accepted whole few = accepts log_record most_steps (λ k. 0) log (records log_record log) (record { whole = whole; count = refl; allowed = few; all_pass = λ k here. refl })

  pub log-counted : {n : ℕ} → Done n ≡ counting log_record most_steps log → Accepted log
  log-counted {n} e =
      let good = counted (omega arith) e in
      log-accepted good.whole (omega (arith, good.count, good.allowed))

  -- an accepted one has whole records, and few
  pub log-whole : Accepted log → length log % log_record ≡ 0
  log-whole good = (accepted log_record most_steps (λ k. 0) log (records log_record log) good).whole

  pub few-clocks : Accepted log → records log_record log ≤ most_steps
  few-clocks good = (accepted log_record most_steps (λ k. 0) log (records log_record log) good).allowed
