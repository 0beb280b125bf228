-- The lines of a clock: by what it shows, and how many bytes they take.
use Prim.Native.Nat.{ℕ, ◌-◌, ◌/◌, ◌%◌}
use mathlib.Core.Path.{◌≡◌, refl, ap, ◌∙◌}
use mathlib.Core.Bool.{Bool, true, false, ◌||◌}
use mathlib.Core.List.{List, [], ◌∷◌, ◌++◌, append_assoc}
use native.Mathlib.Omega.{arith}
use lib.ListN.{set}
use lib.Dec.{ltb}
use borrow.Rule.Slice.PartMut.{mid_of}
use Rattle.waveform.specs.declared.signals.Signals.{Signals}
use Rattle.waveform.specs.Text.{digit_of, digits, places, time_line}
use Rattle.waveform.specs.declared.signals.Signal.TheVariants.{Level, Enable, Contention}
use Rattle.waveform.specs.Signals.{value_line}
use Rattle.waveform.specs.Passes.{shown_at}
use Rattle.waveform.specs.Waveform.{shows_any, value_lines, clock_lines}

-- a time line is the end of six bytes: its digits behind its first character, and a newline
pub time-line-in : (clock p thousands hundreds tens ones : ℕ) → p ≡ places clock →
    thousands ≡ digit_of (clock / 1000 % 10) → hundreds ≡ digit_of (clock / 100 % 10) → tens ≡ digit_of (clock / 10 % 10) → ones ≡ digit_of (clock % 10) →
    mid_of (4 - p) (6 - (4 - p)) (set (0 ∷ thousands ∷ hundreds ∷ tens ∷ ones ∷ 10 ∷ []) (4 - p) 35) ≡ time_line clock
unfolding time_line
time-line-in clock p thousands hundreds tens ones is e₃ e₂ e₁ e₀ = go (ltb clock 10) (ltb clock 100) (ltb clock 1000) refl refl refl
  where
    lowest : clock % 10 ≡ clock / 1 % 10
    lowest = omega arith

    go : (one two three : Bool) → ltb clock 10 ≡ one → ltb clock 100 ≡ two → ltb clock 1000 ≡ three →
        mid_of (4 - p) (6 - (4 - p)) (set (0 ∷ thousands ∷ hundreds ∷ tens ∷ ones ∷ 10 ∷ []) (4 - p) 35) ≡ 35 ∷ (digits (places clock) clock ++ (10 ∷ []))
    go true two three f g h = rw (is, f, e₀, lowest)
    go false true three f g h = rw (is, f, g, e₁, e₀, lowest)
    go false false true f g h = rw (is, f, g, h, e₂, e₁, e₀, lowest)
    go false false false f g h = rw (is, f, g, h, e₃, e₂, e₁, e₀, lowest)

module _ (clock : ℕ) (old new : Signals) where
  pub lines-shown : shows_any clock old new ≡ true → clock_lines clock old new ≡ time_line clock ++ value_lines clock old new
  unfolding clock_lines
  lines-shown shows = rw shows

  pub lines-hidden : shows_any clock old new ≡ false → clock_lines clock old new ≡ []
  unfolding clock_lines
  lines-hidden hides = rw hides

-- the lines by the signals that the clock shows
abbrev pub lines_shown : ℕ → Signals → Signals → List ℕ
lines_shown clock new shown =
    time_line clock ++ (value_line Level shown.level new.level ++ (value_line Enable shown.enable new.enable ++ value_line Contention shown.contention new.contention))

module _ (clock : ℕ) (old new shown : Signals) (is : shown ≡ shown_at clock old new) where
  pub lines-by : shown.level || shown.enable || shown.contention ≡ true → clock_lines clock old new ≡ lines_shown clock new shown
  lines-by any =
      rw is
      (lines-shown clock old new (rw is at any)
      ∙ ap (λ values. time_line clock ++ values) (append_assoc (value_line Level _ new.level) (value_line Enable _ new.enable) (value_line Contention _ new.contention)))

  pub no-lines-by : shown.level || shown.enable || shown.contention ≡ false → clock_lines clock old new ≡ []
  no-lines-by none = lines-hidden clock old new (rw is at none)
