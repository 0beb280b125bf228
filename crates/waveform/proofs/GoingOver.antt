-- Going over a text clock by clock: the clocks that are read so far, and those that are still to come, are all that it has.
use Prim.Native.Nat.{ℕ, zero, suc, ◌+◌, ◌-◌, ◌<◌}
use mathlib.Core.Path.{◌≡◌, refl, ap, sym, ◌∙◌}
use mathlib.Core.Bool.{true, false}
use mathlib.Core.List.{List, [], ◌∷◌, ◌++◌, map, map-append, append-nil}
use Rattle.std.specs.Prelude.{Option, None, Some}
use Rattle.std.proofs.lemmas.Option.{none-some}
use native.Mathlib.Omega.{arith}
use native.Mathlib.Numerals.{add-one}
use lib.ListN.{length, take, drop, set, length-append}
use Rattle.verdict.specs.Refusal.{Done, Refused, wrong_text}
use Rattle.std.proofs.lemmas.List.{take_more_set}
use Rattle.frame.specs.Steps.{most_steps}
use Rattle.waveform.specs.declared.signals.Signals.{Signals}
use Rattle.waveform.specs.Text.{starts_with}
use Rattle.waveform.specs.Signals.{signals_of, flags_of}
use Rattle.waveform.specs.Waveform.{header}
use Rattle.waveform.specs.Passes.{Shown, Next, Clock, Closing, Foreign, next_in, prepend, clocks_by, clocks_from, clocks_in, GoneOver}

-- clocks in front of those that are still to come
unfoldable pub prepend_all : List Signals → Option (List Signals) → Option (List Signals)
prepend_all [] rest = rest
prepend_all (signals ∷ past) rest = prepend signals (prepend_all past rest)

one_more : (past : List Signals) (signals : Signals) (rest : Option (List Signals)) → prepend_all (past ++ (signals ∷ [])) rest ≡ prepend_all past (prepend signals rest)
unfolding prepend_all
one_more [] signals rest = refl
one_more (first ∷ past) signals rest = ap (prepend first) (one_more past signals rest)

prepend-none : (past : List Signals) → prepend_all past None ≡ None
unfolding prepend_all
prepend-none [] = refl
prepend-none (first ∷ past) = ap (prepend first) (prepend-none past)

prepend-some : (past rest : List Signals) → prepend_all past (Some rest) ≡ Some (past ++ rest)
unfolding prepend_all
prepend-some [] rest = refl
prepend-some (first ∷ past) rest = ap (prepend first) (prepend-some past rest)

-- the clocks of the rest of a text behind i of them
unfoldable pub rest_at : ℕ → List ℕ → Signals → Option (List Signals)
rest_at i rest old = clocks_from (most_steps - i) rest (i + 1) old

rest-next : (i : ℕ) (rest : List ℕ) (old : Signals) → i < most_steps →
    rest_at i rest old ≡ clocks_by (next_in rest (i + 1) old) (λ shown. rest_at (i + 1) shown.rest shown.value)
unfolding rest_at clocks_from
rest-next i rest old few =
    let left : most_steps - i ≡ suc (most_steps - (i + 1)) = omega arith in
    rw (left, add-one (i + 1))

-- whatever is to come behind the next clock
record Later (i : ℕ) (rest : List ℕ) (old : Signals) : Type 0 where
  pub later : Shown → Option (List Signals)
  pub is : rest_at i rest old ≡ clocks_by (next_in rest (i + 1) old) later

rest-by : (i : ℕ) (rest : List ℕ) (old : Signals) → Later i rest old
unfolding rest_at clocks_from
rest-by i rest old = go (most_steps - i) refl
  where
    go : (left : ℕ) → most_steps - i ≡ left → Later i rest old
    go zero e = record { later = λ shown. None; is = rw e }
    go (suc left) e = record { later = λ shown. clocks_from left shown.rest (suc (i + 1)) shown.value; is = rw e }

module _ (text : List ℕ) where
  pub record GoesOver (flags rest : List ℕ) (old : Signals) (i : ℕ) : Type 0 where
    pub past : List Signals
    pub count : length past ≡ i
    pub all : clocks_in text ≡ prepend_all past (rest_at i rest old)
    pub output : take i flags ≡ map flags_of past

  -- behind the header
  pub goes_first : (flags : List ℕ) → starts_with header text ≡ true → GoesOver flags (drop (length header) text) (signals_of 0) 0
  unfolding prepend_all rest_at clocks_in
  goes_first flags there = record { past = []; count = refl; all = rw there; output = refl }

  -- where nothing can be read nothing is promised of the flags
  pub foreign : (flags : List ℕ) → clocks_in text ≡ None → GoneOver text (Refused wrong_text 0) flags
  foreign flags unread = record { verdict = rw unread; output = λ clocks read. absurd (none-some clocks (sym unread ∙ read)) }

  pub no_header : (flags : List ℕ) → starts_with header text ≡ false → GoneOver text (Refused wrong_text 0) flags
  unfolding clocks_in
  no_header flags absent = foreign flags (rw absent)

  module _ {flags rest : List ℕ} {old : Signals} {i : ℕ} (now : GoesOver flags rest old i) where
    -- no other clock
    pub closes : next_in rest (i + 1) old ≡ Closing → (flags' : List ℕ) → take i flags' ≡ take i flags → GoneOver text (Done i) flags'
    closes next flags' same =
        let behind = rest-by i rest old in
        let read : clocks_in text ≡ Some now.past =
        now.all ∙ ap (prepend_all now.past) (behind.is ∙ ap (λ n. clocks_by n behind.later) next) ∙ prepend-some now.past [] ∙ ap Some (append-nil now.past) in
        record {
          verdict = rw read (ap Done (sym now.count));
          output = λ clocks is.
              let found : now.past ≡ clocks = let e = sym read ∙ is in cc in
              ap (λ n. take n flags') (sym (ap length found) ∙ now.count) ∙ same ∙ now.output ∙ ap (map flags_of) found;
        }

    pub ends : next_in rest (i + 1) old ≡ Foreign → (flags' : List ℕ) → GoneOver text (Refused wrong_text 0) flags'
    ends next flags' =
        let behind = rest-by i rest old in
        foreign flags' (now.all ∙ ap (prepend_all now.past) (behind.is ∙ ap (λ n. clocks_by n behind.later) next) ∙ prepend-none now.past)

    -- one clock more than there may be
    pub runs-out : i ≡ most_steps → (shown : Shown) → next_in rest (i + 1) old ≡ Clock shown → (flags' : List ℕ) → GoneOver text (Refused wrong_text 0) flags'
    unfolding rest_at clocks_from
    runs-out last shown next flags' =
        let none_left : most_steps - i ≡ 0 = omega arith in
        foreign flags' (now.all ∙ ap (prepend_all now.past) (rw (none_left, next)) ∙ prepend-none now.past)

    -- so behind as many as there may be only the closing time is ours
    pub ends-there : i ≡ most_steps → (next_in rest (i + 1) old ≡ Closing → ⊥) → (flags' : List ℕ) → GoneOver text (Refused wrong_text 0) flags'
    ends-there last other flags' = go (next_in rest (i + 1) old) refl
      where
        go : (next : Next) → next_in rest (i + 1) old ≡ next → GoneOver text (Refused wrong_text 0) flags'
        go (Clock shown) e = runs-out last shown e flags'
        go Closing e = absurd (other e)
        go Foreign e = ends e flags'

    -- another clock, whose flags are put behind those of the others
    pub goes_on : i < most_steps → i < length flags → (shown : Shown) → next_in rest (i + 1) old ≡ Clock shown →
        (flags' : List ℕ) → flags' ≡ set flags i (flags_of shown.value) → GoesOver flags' shown.rest shown.value (i + 1)
    goes_on few place shown next flags' puts =
        record {
          past = now.past ++ (shown.value ∷ []);
          count = omega (arith, now.count, length-append now.past (shown.value ∷ []));
          all =
              now.all
              ∙ ap (prepend_all now.past) (rest-next i rest old few ∙ ap (λ n. clocks_by n (λ s. rest_at (i + 1) s.rest s.value)) next)
              ∙ sym (one_more now.past shown.value _);
          output =
              ap (take (i + 1)) puts
              ∙ take_more_set flags i (flags_of shown.value) place
              ∙ ap (λ done. done ++ (flags_of shown.value ∷ [])) now.output
              ∙ sym (map-append flags_of now.past (shown.value ∷ []));
        }
