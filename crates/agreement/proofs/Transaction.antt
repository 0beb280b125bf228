-- One transaction: what goes over the wire is what the plain machine does. A read acts at its header alone, a write at its frame's end alone.
use Prim.Native.Nat.{ℕ, suc, ◌+◌, ◌*◌, ◌-◌, ◌%◌, ◌^◌, ◌<◌}
use mathlib.Core.Path.{◌≡◌, refl, ap, ap₂, sym, ◌∙◌, subst}
use mathlib.Core.Bool.{Bool, true, false, cond}
use mathlib.Core.List.{List, [], ◌∷◌, ◌++◌, map, append_assoc, append-nil}
use native.Mathlib.Omega.{arith}
use lib.ListN.{length, replicate, length-map}
use borrow.Author.Tests.{eqb-true}
use Rattle.verdict.specs.Bits.{bits, shift_in}
use Rattle.verdict.specs.Lists.{All}
use Rattle.verdict.specs.Output.{join}
use Rattle.verdict.proofs.Bits.{length-bits, bits_small, shift_in-bits}
use Rattle.verdict.proofs.Elements.{map-stays, count_none}
use Rattle.frame.specs.declared.list.Transaction.{Transaction}
use Rattle.frame.specs.declared.answer.Answer.{Answer}
use Rattle.frame.specs.List.{is_read}
use Rattle.frame.specs.Answers.{sent, answered, silent, answer_to}
use Rattle.wire.specs.declared.Drive.{Drive}
use Rattle.wire.specs.declared.Drive.TheVariants.{Released, Driven}
use Rattle.wire.specs.Wire.{Party, as_bit, station_drive}
use Rattle.wire.specs.Machines.{Core, header_for, quiet, before_reads, before_writes, clocks_with, read_of, plain_answer, left_by_read, left_by_write, plain_after}
use Rattle.wire.proofs.Runs.{Goes, goes-as, goes_to}
use Rattle.wire.proofs.Quiet.{quiet-append}
use Rattle.wire.proofs.Followers.{shown}
use Rattle.agreement.specs.Follows.{Line, Follows, Ready, OneAnswers}
use Rattle.agreement.specs.Levels.{ones, at, heard, answer_levels, levels_of}
use Rattle.agreement.specs.Agrees.{Accepted, station_for, rest, Agrees}
use Rattle.agreement.proofs.Phase.{hears, Fits}
use Rattle.agreement.proofs.Seen.{hears-row, hears-read, shown-row, nobody-fits, silent-fits}
use Rattle.agreement.proofs.Reading.{Reading}
use Rattle.agreement.proofs.Rows.{header_row, frame_row, station-rows, header_word, header-long, header-heard, header-shown, header-fits, header-says}
use Rattle.agreement.proofs.Heard.{heard-read}
use Rattle.agreement.proofs.Sends.{at_header, headed, framed, reads, sends}

-- a read is heard as its answer says
read-levels : (t : Transaction) (someone : Bool) (word : ℕ) → hears someone word 14 (replicate 18 Released) ≡ answer_levels (cond someone (answer_to t answered word) (answer_to t silent 0))
read-levels t true word = hears-read true word
read-levels t false word = hears-read false word

unanswered : (someone : Bool) → 0 ≡ as_bit someone → someone ≡ false
unanswered true e = absurd (omega arith)
unanswered false e = refl

module _ {P : Type 0} {wire : Party P} {core : Core P} {line : Line P} {Good : P → Type 0} (laws : Follows wire core line Good)
    (m : ℕ) (t : Transaction) (c : ℕ) (ps : List P) (accepted : Accepted t) (ready : All (Ready line Good m) ps) (one : OneAnswers core ps) where
  -- the run of the transaction with an answer a, which leaves the parties qs
  abbrev Transacts : Answer → List P → Type 0
  Transacts a qs = Goes wire (station_for m t) c ps (levels_of m t a) (c + clocks_with m) (map (rest line) qs)

  abbrev reading : Reading core t (at_header core m t c ps)
  reading = reads laws m t c ps ready one

  -- the parties after a frame whose data was a word
  abbrev leaves : ℕ → List P
  leaves word = quiet core (c + before_writes m) 2 (framed core m t c ps word)

  -- turnaround and data of either kind
  transacts : (frame : List Drive) (a : Answer) (word : ℕ) → map station_drive (frame_row t) ≡ frame → length frame ≡ 18 → All (Fits reading.someone) frame →
      hears reading.someone reading.word 14 frame ≡ answer_levels a → shown (header_word t accepted) (answer_levels a) % 2 ^ 16 ≡ word → Transacts a (leaves word)
  unfolding levels_of join
  transacts frame a word row long fits levels says =
      goes-as wire
      (sends laws m t c ps ready one (map station_drive (header_row t)) frame (header_word t accepted) (header-long t accepted) long (header-shown t accepted) (header-fits t accepted) (header-says t accepted) fits)
      (sym (station-rows m t ∙ ap (λ ds. (replicate m (Driven true) ++ (Driven false ∷ Driven true ∷ [])) ++ (map station_drive (header_row t) ++ (ds ++ (Released ∷ [])))) row))
      (append_assoc (replicate m true) (false ∷ true ∷ []) _ ∙ ap₂ (λ header answer. replicate m true ++ (false ∷ true ∷ (header ++ (answer ++ (true ∷ []))))) (header-heard t accepted) levels)
      (omega arith)
      (ap (λ w. map (rest line) (leaves w)) (ap (λ ls. shown (header_word t accepted) ls % 2 ^ 16) levels ∙ says))

  read-transacts : is_read t ≡ true → Transacts (read_of core t (at_header core m t c ps)) (left_by_read core m t c ps)
  unfolding join headed framed
  read-transacts read =
      goes_to wire
      (transacts (replicate 18 Released) (read_of core t (at_header core m t c ps)) _ (rw read) refl (silent-fits reading.someone 18)
      (read-levels t reading.someone reading.word ∙ ap answer_levels (sym reading.answer))
      refl)
      (ap (map (rest line)) (acted _))
    where
      -- the frame's end does nothing, so its clocks are all quiet
      acted : (word : ℕ) → leaves word ≡ left_by_read core m t c ps
      acted word =
          let left : 18 + 2 ≡ clocks_with m - before_reads m = omega arith in
          let after : List P = headed core m t c ps in
          ap (quiet core (c + before_writes m) 2) (map-stays (core.after_frame (header_for t) word) (λ p. laws.read-end (header_for t) word p (eqb-true t.op 2 read)) (quiet core (c + before_reads m) 18 after))
          ∙ sym (quiet-append core 18 2 (c + before_reads m) (c + before_writes m) after (omega arith))
          ∙ ap (λ k. quiet core (c + before_reads m) k after) left

  write-transacts : is_read t ≡ false → Transacts (answer_to t sent t.«data») (left_by_write core m t c ps)
  unfolding join headed framed shift_in
  write-transacts write =
      goes_to wire
      (transacts (map station_drive row) (answer_to t sent t.«data») t.«data»
      (rw write (ap (λ bs. Driven true ∷ Driven false ∷ map station_drive bs) (append-nil (bits 16 t.«data»))))
      (ap (λ n. suc (suc n)) (length-map (bits 16 t.«data») station_drive ∙ length-bits 16 t.«data»))
      (subst (λ b. All (Fits b) (map station_drive row)) (sym nobody) (nobody-fits (map station_drive row)))
      (ap (λ b. hears b reading.word 14 (map station_drive row)) nobody ∙ hears-row reading.word 14 row small)
      says)
      (ap (map (rest line)) acted)
    where
      op : t.op ≡ 1
      op = accepted.op write

      row : List ℕ
      row = 1 ∷ 0 ∷ bits 16 t.«data»

      small : All (λ b. b < 2) row
      small = (omega arith, (omega arith, bits_small 16 t.«data»))

      nobody : reading.someone ≡ false
      nobody =
          unanswered reading.someone
          (sym (count_none (core.answers (header_for t)) (at_header core m t c ps) (λ p. laws.write-unanswered (header_for t) p op)) ∙ reading.voices)

      -- the last sixteen bits seen are the data
      says : shown (header_word t accepted) (ones row) % 2 ^ 16 ≡ t.«data»
      says =
          let before : ℕ = (header_word t accepted * 2 + 1) * 2 + 0 in
          let word : shown (header_word t accepted) (ones row) ≡ before * 2 ^ 16 + t.«data» % 2 ^ 16 = shown-row 14 (header_word t accepted) row small (header-fits t accepted) (omega (arith, length-bits 16 t.«data»)) ∙ shift_in-bits 16 before t.«data» in
          omega (arith, accepted.word)

      -- the header does nothing, so its clocks are all quiet
      acted : leaves t.«data» ≡ left_by_write core m t c ps
      acted =
          let all : before_reads m + 18 ≡ before_writes m = omega arith in
          let left : 2 ≡ clocks_with m - before_writes m = omega arith in
          ap₂ (λ k qs. quiet core (c + before_writes m) k (map (core.after_frame (header_for t) t.«data») qs)) left
          (ap (quiet core (c + before_reads m) 18) (map-stays (core.after_header (header_for t)) (λ p. laws.write-header (header_for t) p op) (at_header core m t c ps))
          ∙ sym (quiet-append core (before_reads m) 18 c (c + before_reads m) ps refl)
          ∙ ap (λ k. quiet core c k ps) all)

  pub transaction-runs : Transacts (plain_answer core m t c ps) (plain_after core m t c ps)
  transaction-runs = go (is_read t) refl
    where
      go : (b : Bool) → is_read t ≡ b → Transacts (cond b (read_of core t (at_header core m t c ps)) (answer_to t sent t.«data»)) (cond b (left_by_read core m t c ps) (left_by_write core m t c ps))
      go true read = read-transacts read
      go false write = write-transacts write

  pub transaction-heard : heard m t (at (levels_of m t (plain_answer core m t c ps))) ≡ plain_answer core m t c ps
  transaction-heard = go (is_read t) refl
    where
      go : (b : Bool) → is_read t ≡ b → let a = cond b (read_of core t (at_header core m t c ps)) (answer_to t sent t.«data») in heard m t (at (levels_of m t a)) ≡ a
      go true read = subst (λ a. heard m t (at (levels_of m t a)) ≡ a) (sym reading.answer) (heard-read m t reading.someone reading.word reading.fits read)
      go false write = rw write

  pub agrees : Agrees wire core line m t c ps
  agrees =
      let run = transaction-runs in
      record {
        parties = run.after;
        levels = run.levels-are;
        answer = ap (λ ls. heard m t (at ls)) run.levels-are ∙ transaction-heard;
        alone = run.alone;
      }
