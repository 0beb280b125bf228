-- What the reader takes from a text is what the writer puts there: it passes over a clock's lines exactly, since no line starts like another.
use Prim.Native.Nat.{ℕ, zero, suc, ◌+◌, ◌≤◌, ◌<◌}
use mathlib.Core.Path.{◌≡◌, refl, ap, ap₂, sym, ◌∙◌}
use mathlib.Core.Bool.{Bool, true, false, cond}
use mathlib.Core.List.{List, [], ◌∷◌, ◌++◌, append_assoc, append-nil}
use Rattle.std.specs.Prelude.{Option, None, Some}
use Rattle.std.proofs.lemmas.Option.{none-some}
use native.Mathlib.Omega.{arith}
use lib.ListN.{length, drop, length-append}
use lib.Seq.{drop-append_seam}
use lib.Dec.{eqb, ltb}
use borrow.Author.Tests.{eqb-true, ltb-false, ne_eqb, le-ltb}
use Rattle.frame.specs.Steps.{most_steps}
use Rattle.waveform.specs.declared.signals.Signals.{Signals}
use Rattle.waveform.specs.Text.{time_line, starts_with}
use Rattle.waveform.specs.Signals.{signals_of}
use Rattle.waveform.specs.Waveform.{header, shows_any, value_lines, clock_lines, lines_from, text_of}
use Rattle.waveform.specs.Passes.{Shown, shown_in, least, Next, Clock, Closing, Foreign, next_in, prepend, clocks_by, clocks_from, clocks_in}
use Rattle.waveform.proofs.ValueLines.{same-untold, sees, clock-seen, all_same, finds-all}
use Rattle.waveform.proofs.Starts.{starts, started, behind}
use Rattle.waveform.proofs.Texts.{no-time, length-time, no_value}

length-zero : (xs : List ℕ) → length xs ≡ 0 → xs ≡ []
length-zero [] e = refl
length-zero (x ∷ xs) e = absurd (omega arith)

-- What is read was written. What may come next: the closing time, or a clock's lines, of which there may be none
data Goes (text : List ℕ) (clock : ℕ) (old : Signals) : Next → Type 0 where
  closes : text ≡ time_line clock → Goes text clock old Closing
  goes_on : {shown : Shown} → text ≡ clock_lines clock old shown.value ++ shown.rest → Goes text clock old (Clock shown)
  foreign : Goes text clock old Foreign

-- what the reader takes for next is there
goes : (text : List ℕ) (clock : ℕ) (old : Signals) → Goes text clock old (next_in text clock old)
unfolding next_in shown_in clock_lines
goes text clock old = go _ _ _ _ refl refl refl refl
  where
    values : List ℕ
    values = drop (length (time_line clock)) text

    all : Shown
    all = shown_in values old (eqb clock 1)

    go : (time end first few : Bool) → starts_with (time_line clock) text ≡ time → eqb (length values) 0 ≡ end → eqb clock 1 ≡ first → ltb (length values) (least (eqb clock 1) + length all.rest) ≡ few →
        Goes text clock old (cond time (cond end Closing (cond few Foreign (Clock all))) (cond first Foreign (Clock (record { value = old; rest = text }))))
    go true true first few p q r s =
        let nothing : values ≡ [] = length-zero values (eqb-true (length values) 0 q) in
        closes (started (time_line clock) text p ∙ ap (λ more. time_line clock ++ more) nothing ∙ append-nil (time_line clock))
    go true false first true p q r s = foreign
    go true false first false p q r s =
        goes_on (clock-seen values clock old (sees _ _ _ _) (sees _ _ _ _) (sees _ _ _ _) (ltb-false _ _ s) (started (time_line clock) text p))
    go false end true few p q r s = foreign
    go false end false few p q r s =
        goes_on {shown = record { value = old; rest = text }} (rw (r, same-untold old.level, same-untold old.enable, same-untold old.contention))

-- so where it takes it for the closing time nothing else is there
pub closing-alone : (text : List ℕ) (clock : ℕ) (old : Signals) → next_in text clock old ≡ Closing → text ≡ time_line clock
closing-alone text clock old = go (goes text clock old)
  where
    go : {next : Next} → Goes text clock old next → next ≡ Closing → text ≡ time_line clock
    go (closes here) e = here
    go (goes_on here) e = absurd (let z : ◌≡◌ {A = ℕ} 0 1 = cc in omega arith)
    go foreign e = absurd (let z : ◌≡◌ {A = ℕ} 0 1 = cc in omega arith)

-- the text is the lines of these clocks, of which there are few enough
abbrev pub Holds : List ℕ → ℕ → ℕ → Signals → List Signals → Type 0
Holds text left clock old clocks = (text ≡ lines_from clock old clocks) × (length clocks ≤ left)

-- if what is read behind the next clock was written, so was what is read before it
reads : (text : List ℕ) (left clock : ℕ) (old : Signals) (clocks : List Signals) (later : Shown → Option (List Signals)) →
    ((shown : Shown) (rest : List Signals) → later shown ≡ Some rest → (shown.rest ≡ lines_from (suc clock) shown.value rest) × (length rest < left)) →
    {next : Next} → Goes text clock old next → clocks_by next later ≡ Some clocks → Holds text left clock old clocks
unfolding lines_from
reads text left clock old clocks later rest (closes here) e =
    let nothing : [] ≡ clocks = cc in
    rw (← nothing) (here, omega arith)
reads text left clock old clocks later rest foreign e = absurd (none-some clocks e)
reads text left clock old clocks later rest (goes_on {shown} here) e = go (later shown) refl e
  where
    go : (o : Option (List Signals)) → later shown ≡ o → prepend shown.value o ≡ Some clocks → Holds text left clock old clocks
    go None p e = absurd (none-some clocks e)
    go (Some more) p e =
        let r = rest shown more p in
        let all : shown.value ∷ more ≡ clocks = cc in
        rw (← all) (here ∙ ap (λ lines. clock_lines clock old shown.value ++ lines) r.0, r.1)

-- so from any clock on what is read was written
pub sound : (text : List ℕ) (left clock : ℕ) (old : Signals) (clocks : List Signals) → clocks_from left text clock old ≡ Some clocks → Holds text left clock old clocks
unfolding clocks_from
sound text zero clock old clocks e =
    reads text zero clock old clocks _ (λ shown rest p. absurd (none-some rest p)) (goes text clock old) e
sound text (suc left) clock old clocks e =
    reads text (suc left) clock old clocks _
    (λ shown rest p. let r = sound shown.rest left (suc clock) shown.value rest p in (r.0, omega (arith, r.1)))
    (goes text clock old)
    e

-- What is written is read. What follows a clock starts with the time line of a later one
record Timed (from most : ℕ) (lines : List ℕ) : Type 0 where
  pub number : ℕ
  pub more : List ℕ
  pub early : from ≤ number
  pub late : number ≤ most
  pub is : lines ≡ time_line number ++ more

timed : (clocks : List Signals) (clock : ℕ) (old : Signals) → Timed clock (clock + length clocks) (lines_from clock old clocks)
unfolding lines_from clock_lines
timed [] clock old = record { number = clock; more = []; early = omega arith; late = omega arith; is = sym (append-nil (time_line clock)) }
timed (new ∷ later) clock old = go (shows_any clock old new) (timed later (suc clock) new)
  where
    lines : List ℕ
    lines = lines_from (suc clock) new later

    go : (b : Bool) → Timed (suc clock) (suc clock + length later) lines → Timed clock (clock + suc (length later)) (cond b (time_line clock ++ value_lines clock old new) [] ++ lines)
    go true t = record { number = clock; more = _; early = omega arith; late = omega arith; is = append_assoc (time_line clock) (value_lines clock old new) lines }
    go false t = record { number = t.number; more = t.more; early = omega (arith, t.early); late = omega (arith, t.late); is = t.is }

-- what the writer puts next is what the reader takes for next: the closing time,
module _ (text : List ℕ) (clock : ℕ) (old : Signals) where
  pub next-closing : text ≡ time_line clock → next_in text clock old ≡ Closing
  unfolding next_in
  next-closing here =
      let alone = here ∙ sym (append-nil (time_line clock)) in
      let says : starts_with (time_line clock) text ≡ true = rw (alone, starts) in
      rw (says, behind (time_line clock) alone)

  -- or a clock and the lines behind it
  Follows : Signals → List ℕ → Type 0
  Follows new lines = next_in text clock old ≡ Clock (record { value = new; rest = lines })

  module _ (new : Signals) (lines : List ℕ) (most : ℕ) (time : Timed (suc clock) most lines) (small : most < 10000) where
    -- where it shows signals
    next-told : shows_any clock old new ≡ true → text ≡ time_line clock ++ (value_lines clock old new ++ lines) → Follows new lines
    unfolding next_in Follows
    next-told e here =
        let values = value_lines clock old new ++ lines in
        let says : starts_with (time_line clock) text ≡ true = rw (here, starts) in
        let all = finds-all clock old new values lines (λ signal value. rw time.is (no_value time.number signal value time.more)) refl in
        let longer : 0 < length lines = rw (ap length time.is ∙ length-append (time_line time.number) time.more) (omega (arith, length-time time.number)) in
        let open-end : length values ≡ 0 → ⊥ = λ end. omega (arith, end, length-append (value_lines clock old new) lines) in
        rw (says, behind (time_line clock) here, ne_eqb (length values) 0 open-end, all.seen, le-ltb _ _ (all.enough e))

    -- and where it shows none
    next-untold : shows_any clock old new ≡ false → text ≡ lines → Follows new lines
    unfolding next_in Follows
    next-untold e here =
        let same = all_same clock old new e in
        let other = no-time clock time.number time.more (omega (arith, time.early)) (omega (arith, time.late)) in
        let says : starts_with (time_line clock) text ≡ false = rw (here, time.is, other) in
        rw (says, same.0) (ap₂ (λ (signals : Signals) (rest : List ℕ). Clock (record { value = signals; rest = rest })) same.1 here)

    -- in either case the reader takes that clock
    next-clock : text ≡ clock_lines clock old new ++ lines → Follows new lines
    unfolding clock_lines
    next-clock here = go (shows_any clock old new) refl here
      where
        go : (b : Bool) → shows_any clock old new ≡ b → text ≡ cond b (time_line clock ++ value_lines clock old new) [] ++ lines → Follows new lines
        go true e here = next-told e (here ∙ append_assoc (time_line clock) (value_lines clock old new) lines)
        go false e here = next-untold e here

-- so from any clock on what is written is read
pub complete : (text : List ℕ) (clocks : List Signals) (left clock : ℕ) (old : Signals) →
    text ≡ lines_from clock old clocks → length clocks ≤ left → clock + left < 10000 → clocks_from left text clock old ≡ Some clocks
unfolding clocks_from lines_from Follows
complete text [] zero clock old here few small = rw (next-closing text clock old here)
complete text [] (suc left) clock old here few small = rw (next-closing text clock old here)
complete text (new ∷ later) zero clock old here few small = absurd (omega arith)
complete text (new ∷ later) (suc left) clock old here few small =
    let follows = next-clock text clock old new _ _ (timed later (suc clock) new) (omega arith) here in
    rw (follows, complete (lines_from (suc clock) new later) later left (suc clock) new refl (omega arith) (omega arith))

-- Whole texts: what is read was written,
pub read-was-written : (text : List ℕ) (clocks : List Signals) → clocks_in text ≡ Some clocks → (text_of clocks ≡ text) × (length clocks ≤ most_steps)
unfolding clocks_in text_of
read-was-written text clocks e = go (starts_with header text) refl e
  where
    go : (b : Bool) → starts_with header text ≡ b → cond b (clocks_from most_steps (drop (length header) text) 1 (signals_of 0)) None ≡ Some clocks →
        (header ++ lines_from 1 (signals_of 0) clocks ≡ text) × (length clocks ≤ most_steps)
    go true p e =
        let r = sound (drop (length header) text) most_steps 1 (signals_of 0) clocks e in
        (sym (started header text p ∙ ap (λ lines. header ++ lines) r.0), r.1)
    go false p e = absurd (none-some clocks e)

-- and what is written is read
pub written-is-read : (text : List ℕ) (clocks : List Signals) → text_of clocks ≡ text → length clocks ≤ most_steps → clocks_in text ≡ Some clocks
unfolding clocks_in text_of
written-is-read text clocks e few =
    rw (← e, starts) (complete _ clocks most_steps 1 (signals_of 0) (drop-append_seam header _) few (omega arith))

-- so a text tells its clocks
pub text-tells : (xs ys : List Signals) → length xs ≤ most_steps → length ys ≤ most_steps → text_of xs ≡ text_of ys → xs ≡ ys
text-tells xs ys few few' e =
    let p = written-is-read (text_of xs) xs refl few in
    let q = written-is-read (text_of xs) ys (sym e) few' in
    cc
