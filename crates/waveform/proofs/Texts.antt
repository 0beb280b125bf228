-- No line starts like another: a time line tells its number by its digits, a value line its signal by its letter and its value by its first byte.
use Prim.Native.Nat.{ℕ, zero, suc, ◌+◌, ◌*◌, ◌-◌, ◌/◌, ◌%◌, ◌^◌, ◌<◌}
use mathlib.Core.Path.{◌≡◌, refl, ap, sym, ◌∙◌}
use mathlib.Core.Bool.{Bool, true, false, not, cond, and-false}
use mathlib.Core.List.{List, [], ◌∷◌, ◌++◌, append_assoc}
use native.Mathlib.Omega.{arith}
use native.Mathlib.Nat.{pow-succ', one-le-pow, mod-eq_of_lt}
use lib.Arith.{mod-mul}
use lib.ListN.{length, get_or, drop, length-append}
use lib.Dec.{eqb, ltb}
use borrow.Author.Tests.{ne_eqb, ltb-true}
use Rattle.waveform.specs.declared.signals.Signal.{Signal}
use Rattle.waveform.specs.declared.signals.Signal.TheVariants.{Level, Enable, Contention}
use Rattle.waveform.specs.Text.{ascii, digit_of, digits, places, time_line, starts_with}
use Rattle.waveform.specs.Signals.{line_of}
use Rattle.waveform.proofs.Starts.{started, line-within}

-- the number that the digits up to a newline say, behind digits that say `before`
said : ℕ → List ℕ → ℕ
said before [] = before
said before (c ∷ text) = cond (eqb c 10) before (said (before * 10 + (c - 48)) text)

-- a digit is no newline, and says its value
no-newline : (d : ℕ) → eqb (48 + d) 10 ≡ false
no-newline d = ne_eqb (48 + d) 10 (λ e. omega arith)

digit-says : (d : ℕ) → 48 + d - 48 ≡ d
digit-says d = omega arith

-- the last k digits of a number say what they are, whatever stands behind their newline
digits-say : (k n before : ℕ) (more : List ℕ) → said before (digits k n ++ (10 ∷ more)) ≡ before * 10 ^ k + n % 10 ^ k
unfolding said
digits-say zero n before more = omega arith
digits-say (suc k) n before more =
    let d = n / 10 ^ k % 10 in
    let one_more : n % (10 * 10 ^ k) ≡ d * 10 ^ k + n % 10 ^ k = mod-mul n (omega arith) (one-le-pow k 10 (omega arith)) in
    rw (no-newline d, digit-says d, digits-say k n (before * 10 + d) more, pow-succ' 10 k) (omega arith)

-- a number below 10,000 has no more digits than its time line
fits : (n : ℕ) → n < 10000 → n < 10 ^ places n
fits n small = go (ltb n 10) (ltb n 100) (ltb n 1000) refl refl refl
  where
    go : (a b c : Bool) → ltb n 10 ≡ a → ltb n 100 ≡ b → ltb n 1000 ≡ c → n < 10 ^ cond a 1 (cond b 2 (cond c 3 4))
    go true b c p q r = ltb-true n 10 p
    go false true c p q r = ltb-true n 100 q
    go false false true p q r = ltb-true n 1000 r
    go false false false p q r = small

-- so the line says its number, whatever stands behind it
says : (n : ℕ) (more : List ℕ) → n < 10000 → said 0 (drop 1 (time_line n ++ more)) ≡ n
unfolding time_line
says n more small = rw (append_assoc (digits (places n) n)) (digits-say (places n) n 0 more ∙ omega (arith, mod-eq_of_lt (fits n small)))

-- two texts that are one start with the time line of one number
pub time-tells : (m n : ℕ) (more rest : List ℕ) → m < 10000 → n < 10000 → time_line m ++ more ≡ time_line n ++ rest → m ≡ n
time-tells m n more rest hm hn e = sym (says m more hm) ∙ ap (λ text. said 0 (drop 1 text)) e ∙ says n rest hn

-- so no time line starts with another's
pub no-time : (m n : ℕ) (more : List ℕ) → m < n → n < 10000 → starts_with (time_line m) (time_line n ++ more) ≡ false
no-time m n more less small = go (starts_with (time_line m) (time_line n ++ more)) refl
  where
    go : (b : Bool) → starts_with (time_line m) (time_line n ++ more) ≡ b → b ≡ false
    go true e = absurd (omega (arith, time-tells n m more _ small (omega arith) (started (time_line m) (time_line n ++ more) e)))
    go false e = refl

-- the bytes of a time line: its digits between two characters
length_digits : (k n : ℕ) → length (digits k n) ≡ k
length_digits zero n = refl
length_digits (suc k) n = ap suc (length_digits k n)

pub length-time : (n : ℕ) → length (time_line n) ≡ 2 + places n
unfolding time_line
length-time n = omega (arith, length_digits (places n) n, length-append (digits (places n) n) (ascii "\n"))

-- what starts with a time line has the number's last digit in its place
in-place : (n before : ℕ) (more : List ℕ) → get_or (time_line n ++ more) (places n) before ≡ digit_of (n % 10)
unfolding time_line
in-place n before more = go (ltb n 10) (ltb n 100) (ltb n 1000)
  where
    lowest : n / 1 % 10 ≡ n % 10
    lowest = omega arith

    go : (one two three : Bool) → get_or (35 ∷ ((digits (cond one 1 (cond two 2 (cond three 3 4))) n ++ (10 ∷ [])) ++ more)) (cond one 1 (cond two 2 (cond three 3 4))) before ≡ digit_of (n % 10)
    go true two three = ap digit_of lowest
    go false true three = ap digit_of lowest
    go false false true = ap digit_of lowest
    go false false false = ap digit_of lowest

pub last-digit : (n : ℕ) (text : List ℕ) (before : ℕ) → starts_with (time_line n) text ≡ true → get_or text (places n) before ≡ digit_of (n % 10)
last-digit n text before there = ap (λ t. get_or t (places n) before) (started (time_line n) text there) ∙ in-place n before _

pub place-within : (n : ℕ) (text : List ℕ) → starts_with (time_line n) text ≡ true → places n < length text
place-within n text there = omega (arith, line-within text 0 (time_line n) (omega arith) there, length-time n)

-- the bytes of a value line: its value, its signal's letter, a newline
abbrev pub letter : Signal → ℕ
letter Level = 76
letter Enable = 69
letter Contention = 67

abbrev pub figure : Bool → ℕ
figure value = cond value 49 48

pub line-is : (signal : Signal) (value : Bool) → line_of signal value ≡ figure value ∷ letter signal ∷ 10 ∷ []
unfolding line_of
line-is Level true = refl
line-is Level false = refl
line-is Enable true = refl
line-is Enable false = refl
line-is Contention true = refl
line-is Contention false = refl

pub length-line : (signal : Signal) (value : Bool) → length (line_of signal value) ≡ 3
length-line signal value = rw line-is

-- it says one value only,
pub other-value : (signal : Signal) (value : Bool) (more : List ℕ) → starts_with (line_of signal (not value)) (line_of signal value ++ more) ≡ false
other-value signal true more = rw (line-is signal true, line-is signal false)
other-value signal false more = rw (line-is signal true, line-is signal false)

-- and of one signal only,
pub other-signal : (signal other : Signal) → eqb (letter signal) (letter other) ≡ false → (value value' : Bool) (more : List ℕ) → starts_with (line_of signal value) (line_of other value' ++ more) ≡ false
other-signal signal other differ value value' more =
    rw (line-is signal value, line-is other value', differ) (and-false (eqb (figure value) (figure value')))

-- and a time line says no value
pub no_value : (n : ℕ) (signal : Signal) (value : Bool) (more : List ℕ) → starts_with (line_of signal value) (time_line n ++ more) ≡ false
unfolding time_line
no_value n signal true more = rw (line-is signal true)
no_value n signal false more = rw (line-is signal false)
