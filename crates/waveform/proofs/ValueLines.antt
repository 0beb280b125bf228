-- The value lines of one clock: which signals are told, and that reader and writer agree on them.
use Prim.Native.Nat.{ℕ, ◌+◌, ◌≤◌}
use mathlib.Core.Path.{◌≡◌, refl, ap, sym, ◌∙◌}
use mathlib.Core.Bool.{Bool, true, false, not, ◌&&◌, ◌||◌, cond, beq, false≢true, true≢false}
use mathlib.Core.List.{List, ◌++◌, append_assoc}
use native.Mathlib.Omega.{arith}
use lib.ListN.{length, drop, length-append, length-drop}
use lib.Dec.{eqb}
use Rattle.waveform.specs.declared.signals.Signals.{Signals}
use Rattle.waveform.specs.declared.signals.Signal.{Signal}
use Rattle.waveform.specs.declared.signals.Signal.TheVariants.{Level, Enable, Contention}
use Rattle.waveform.specs.Text.{time_line, starts_with}
use Rattle.waveform.specs.Signals.{line_of, value_line}
use Rattle.waveform.specs.Waveform.{shows_any, value_lines, clock_lines}
use Rattle.waveform.specs.Passes.{Seen, seen_in, shown_in, least}
use Rattle.waveform.proofs.Starts.{starts, started, behind}
use Rattle.waveform.proofs.Texts.{letter, length-line, other-value, other-signal}

-- whether a clock shows a signal: at clock 1, or where it changes
abbrev pub told : Bool → Bool → Bool → Bool
told first old new = first || not (beq old new)

-- a change is told at every clock, and what stays only at clock 1
change-told : (first old : Bool) → told first old (not old) ≡ true
change-told true old = refl
change-told false true = refl
change-told false false = refl

pub same-untold : (old : Bool) → told false old old ≡ false
same-untold true = refl
same-untold false = refl

-- What is seen was written. One signal: a line that the writer puts there, or none, which is too little at clock 1
pub record Sees (text : List ℕ) (signal : Signal) (old first : Bool) (seen : Seen Bool) : Type 0 where
  pub most : length text ≤ 3 + length seen.rest
  pub hidden : told first old seen.value ≡ false → seen.rest ≡ text
  pub line : (first ≡ true → 3 + length seen.rest ≤ length text) → text ≡ value_line signal (told first old seen.value) seen.value ++ seen.rest

module _ (text : List ℕ) (signal : Signal) (old first : Bool) where
  sees-line : (value : Bool) → starts_with (line_of signal value) text ≡ true → told first old value ≡ true → Sees text signal old first (record { value = value; rest = drop 3 text })
  sees-line value says tells =
      record {
        most = omega (arith, length-drop 3 text);
        hidden = λ h. absurd (true≢false (sym tells ∙ h));
        line = λ h. rw tells (rw length-line at (started (line_of signal value) text says));
      }

  sees-none : Sees text signal old first (record { value = old; rest = text })
  sees-none = record { most = omega arith; hidden = λ h. refl; line = go first }
    where
      go : (first : Bool) → (first ≡ true → 3 + length text ≤ length text) → text ≡ value_line signal (told first old old) old ++ text
      go true long = absurd (omega (arith, long refl))
      go false long = rw (same-untold old)

  pub sees : Sees text signal old first (seen_in text signal old first)
  unfolding seen_in
  sees = go (starts_with (line_of signal (not old)) text) first (starts_with (line_of signal old) text) refl refl refl
    where
      go : (other first' same : Bool) → starts_with (line_of signal (not old)) text ≡ other → first ≡ first' → starts_with (line_of signal old) text ≡ same →
          Sees text signal old first (cond other (record { value = not old; rest = drop 3 text }) (cond (first' && same) (record { value = old; rest = drop 3 text }) (record { value = old; rest = text })))
      go true first' same p q r = sees-line (not old) p (change-told first old)
      go false true true p q r = sees-line old r (rw q)
      go false true false p q r = sees-none
      go false false same p q r = sees-none

-- what is left behind a signal is no longer than the text
pub seen-within : (text : List ℕ) (signal : Signal) (old first : Bool) → length (seen_in text signal old first).rest ≤ length text
unfolding seen_in
seen-within text signal old first = go (starts_with (line_of signal (not old)) text) (first && starts_with (line_of signal old) text)
  where
    behind-line : length (drop 3 text) ≤ length text
    behind-line = omega (arith, length-drop 3 text)

    go : (other same : Bool) →
        length (cond {A = Seen Bool} other (record { value = not old; rest = drop 3 text }) (cond same (record { value = old; rest = drop 3 text }) (record { value = old; rest = text }))).rest ≤ length text
    go true same = behind-line
    go false true = behind-line
    go false false = omega arith

-- and neither is what is left behind a clock
pub shown-within : (text : List ℕ) (old : Signals) (first : Bool) → length (shown_in text old first).rest ≤ length text
unfolding shown_in
shown-within text old first =
    let level = seen_in text Level old.level first in
    let enable = seen_in level.rest Enable old.enable first in
    omega (
      arith,
      seen-within text Level old.level first,
      seen-within level.rest Enable old.enable first,
      seen-within enable.rest Contention old.contention first,
    )

-- All three: where lines enough are passed over they are a clock's, and there is one among them
module _ (values : List ℕ) (clock : ℕ) (old : Signals) {l e c : Seen Bool}
    (level : Sees values Level old.level (eqb clock 1) l)
    (enable : Sees l.rest Enable old.enable (eqb clock 1) e)
    (contention : Sees e.rest Contention old.contention (eqb clock 1) c)
    (enough : least (eqb clock 1) + length c.rest ≤ length values) where
  abbrev pub new : Signals
  new = record { level = l.value; enable = e.value; contention = c.value }

  -- with no line too few would be passed over
  some-told : shows_any clock old new ≡ true
  some-told = go (eqb clock 1) _ _ _ enough level.hidden enable.hidden contention.hidden
    where
      go : (first a b c' : Bool) → least first + length c.rest ≤ length values →
          (a ≡ false → l.rest ≡ values) → (b ≡ false → e.rest ≡ l.rest) → (c' ≡ false → c.rest ≡ e.rest) → a || b || c' ≡ true
      go first true b c' h p q r = refl
      go first false true c' h p q r = refl
      go first false false true h p q r = refl
      go true false false false h p q r = absurd (omega (arith, ap length (p refl), ap length (q refl), ap length (r refl)))
      go false false false false h p q r = absurd (omega (arith, ap length (p refl), ap length (q refl), ap length (r refl)))

  -- at clock 1 each passes over a line
  lines-seen : values ≡ value_lines clock old new ++ c.rest
  lines-seen =
      let all : eqb clock 1 ≡ true → 9 + length c.rest ≤ length values = λ first. omega (arith, enough, ap least first) in
      let of-level = level.line (λ first. omega (arith, all first, enable.most, contention.most)) in
      let of-enable = enable.line (λ first. omega (arith, all first, level.most, contention.most)) in
      let of-contention = contention.line (λ first. omega (arith, all first, level.most, enable.most)) in
      simp append_assoc (rw (← of-contention, ← of-enable, ← of-level))

  pub clock-seen : {here : List ℕ} → here ≡ time_line clock ++ values → here ≡ clock_lines clock old new ++ c.rest
  unfolding clock_lines
  clock-seen time =
      rw some-told
      (time
      ∙ ap (λ more. time_line clock ++ more) lines-seen
      ∙ sym (append_assoc (time_line clock) (value_lines clock old new) c.rest))

-- what is not told did not change, and the clock is not the first
same_old : (first old now : Bool) → told first old now ≡ false → (first ≡ false) × (old ≡ now)
same_old true old now e = absurd (true≢false e)
same_old false true true e = (refl, refl)
same_old false true false e = absurd (true≢false e)
same_old false false true e = absurd (true≢false e)
same_old false false false e = (refl, refl)

-- of three tests none passes
none_of : (a b c : Bool) → a || b || c ≡ false → (a ≡ false) × (b ≡ false) × (c ≡ false)
none_of true b c e = absurd (true≢false e)
none_of false true c e = absurd (true≢false e)
none_of false false true e = absurd (true≢false e)
none_of false false false e = (refl, refl, refl)

-- so where nothing is told all signals are what they were
pub all_same : (clock : ℕ) (old new : Signals) → shows_any clock old new ≡ false → (eqb clock 1 ≡ false) × (old ≡ new)
all_same clock old new e =
    let no = none_of _ _ _ e in
    let level = same_old (eqb clock 1) old.level new.level no.0 in
    let enable = same_old (eqb clock 1) old.enable new.enable no.1 in
    let contention = same_old (eqb clock 1) old.contention new.contention no.2 in
    (level.0, λ i. record { level = level.1 i; enable = enable.1 i; contention = contention.1 i })

-- What is written is seen. The value of a signal
abbrev value_of : Signal → Signals → Bool
value_of Level signals = signals.level
value_of Enable signals = signals.enable
value_of Contention signals = signals.contention

-- a text that goes on with nothing of a signal
abbrev pub Silent : Signal → List ℕ → Type 0
Silent signal more = (value : Bool) → starts_with (line_of signal value) more ≡ false

-- one signal: the reader finds the line that the writer puts, or none where it puts none
record Finds (text : List ℕ) (signal : Signal) (old first new : Bool) (more : List ℕ) : Type 0 where
  pub seen : seen_in text signal old first ≡ record { value = new; rest = more }
  pub size : length text ≡ cond (told first old new) 3 0 + length more

module _ (text : List ℕ) (signal : Signal) (more : List ℕ) (silent : Silent signal more) where
  behind-line : (value : Bool) → text ≡ line_of signal value ++ more → drop 3 text ≡ more
  behind-line value here = rw length-line at (behind (line_of signal value) here)

  line-long : (value : Bool) → text ≡ line_of signal value ++ more → length text ≡ 3 + length more
  line-long value here = omega (arith, ap length here, length-append (line_of signal value) more, length-line signal value)

  finds-change : (first old : Bool) → text ≡ line_of signal (not old) ++ more → Finds text signal old first (not old) more
  unfolding seen_in
  finds-change first old here =
      let says : starts_with (line_of signal (not old)) text ≡ true = rw (here, starts) in
      record { seen = rw (says, behind-line (not old) here); size = rw change-told (line-long (not old) here) }

  finds-same : (old : Bool) → text ≡ line_of signal old ++ more → Finds text signal old true old more
  unfolding seen_in
  finds-same old here =
      let other : starts_with (line_of signal (not old)) text ≡ false = rw (here, other-value) in
      let says : starts_with (line_of signal old) text ≡ true = rw (here, starts) in
      record { seen = rw (other, says, behind-line old here); size = line-long old here }

  finds-none : (old : Bool) → text ≡ more → Finds text signal old false old more
  unfolding seen_in
  finds-none old here = record { seen = rw (here, silent (not old)); size = rw same-untold (omega (arith, ap length here)) }

  finds : (first old new : Bool) → text ≡ value_line signal (told first old new) new ++ more → Finds text signal old first new more
  finds true true false here = finds-change true true here
  finds true false true here = finds-change true false here
  finds false true false here = finds-change false true here
  finds false false true here = finds-change false false here
  finds true true true here = finds-same true here
  finds true false false here = finds-same false here
  finds false true true here = finds-none true here
  finds false false false here = finds-none false here

-- All three: at clock 1 three lines, later one at least
enough-told : (first a b c : Bool) → (first || a) || (first || b) || (first || c) ≡ true → least first ≤ cond (first || a) 3 0 + cond (first || b) 3 0 + cond (first || c) 3 0
enough-told true a b c e = omega arith
enough-told false true b c e = omega arith
enough-told false false true c e = omega arith
enough-told false false false true e = omega arith
enough-told false false false false e = absurd (false≢true e)

module _ (clock : ℕ) (old new : Signals) where
  -- what the writer puts of a signal
  abbrev line_in : Signal → List ℕ
  line_in signal = value_line signal (told (eqb clock 1) (value_of signal old) (value_of signal new)) (value_of signal new)

  -- which says nothing of another one
  silent-before : (signal other : Signal) → eqb (letter signal) (letter other) ≡ false → (more : List ℕ) → Silent signal more → Silent signal (line_in other ++ more)
  silent-before signal other differ more silent value = go (told (eqb clock 1) (value_of other old) (value_of other new))
    where
      go : (b : Bool) → starts_with (line_of signal value) (value_line other b (value_of other new) ++ more) ≡ false
      go true = other-signal signal other differ value (value_of other new) more
      go false = silent value

  pub record FindsAll (values more : List ℕ) : Type 0 where
    pub seen : shown_in values old (eqb clock 1) ≡ record { value = new; rest = more }
    pub enough : shows_any clock old new ≡ true → least (eqb clock 1) + length more ≤ length values

  pub finds-all : (values more : List ℕ) → ((signal : Signal) → Silent signal more) → values ≡ value_lines clock old new ++ more → FindsAll values more
  unfolding shown_in
  finds-all values more silent here =
      let level : Finds values Level old.level (eqb clock 1) new.level (line_in Enable ++ (line_in Contention ++ more)) =
      finds values Level _ (silent-before Level Enable refl _ (silent-before Level Contention refl more (silent Level))) _ _ _ (simp append_assoc at here) in
      let enable : Finds (line_in Enable ++ (line_in Contention ++ more)) Enable old.enable (eqb clock 1) new.enable (line_in Contention ++ more) =
      finds _ Enable _ (silent-before Enable Contention refl more (silent Enable)) _ _ _ refl in
      let contention : Finds (line_in Contention ++ more) Contention old.contention (eqb clock 1) new.contention more =
      finds _ Contention more (silent Contention) _ _ _ refl in
      record {
        seen = rw (level.seen, enable.seen, contention.seen);
        enough = λ e. omega (arith, enough-told (eqb clock 1) _ _ _ e, level.size, enable.size, contention.size);
      }
