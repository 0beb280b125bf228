-- What `{:02}`, `{}` and `{:04X}` write of an answer's numbers, digit by digit.
use Prim.Native.Nat.{ℕ, suc, ◌-◌, ◌/◌, ◌%◌, ◌^◌, ◌≤◌, ◌<◌}
use mathlib.Core.Path.{◌≡◌, refl, ap, ap₂, sym, ◌∙◌}
use mathlib.Core.Bool.{Bool, true, false, cond}
use lib.Dec.{eqb}
use mathlib.Core.Logic.{⊎_elim}
use mathlib.Core.List.{List, [], ◌∷◌, ◌++◌}
use native.Mathlib.Omega.{arith}
use lib.Utf8.{encode}
use borrow.Author.Tests.{eq-eqb, ne_eqb, lt-ltb, le-ltb}
use native.Mathlib.Decide.{ℕ_discrete}
use Rattle.std.specs.Fmt.{decimal, digits, digits_onto, digit_glyph, char_count, padded_integral, format_spec}
use Rattle.std.proofs.lemmas.Fmt.{decimal_digit, decimal_step, hex_one_digit, hex_two_digits}
use Rattle.std.proofs.lemmas.Bool.{cases_lt}
use Rattle.frame.specs.declared.answer.Answer.{Answer}
use Rattle.mdiobench.specs.Line.{digit_of, letter_of, after_ordinal}

glyph_is : (d : ℕ) → digit_glyph true d ≡ digit_of d
unfolding digit_of
glyph_is d = ⊎_elim
    (λ below. rw (lt-ltb d 10 below))
    (λ above. rw (le-ltb d 10 above) (omega arith))
    (cases_lt d 10)

-- a decimal digit
digit_text : (n : ℕ) → n < 10 → decimal n ≡ digit_of n ∷ []
unfolding digit_of
digit_text n small = rw (lt-ltb n 10 small) (decimal_digit n small)

-- two of them
pub two_digits : (n : ℕ) → n < 100 → padded_integral (format_spec 32 0 4 2 (2 ^ 64 - 1)) false [] (decimal n) ≡ digit_of (n / 10) ∷ digit_of (n % 10) ∷ []
unfolding padded_integral char_count digit_of
two_digits n small = ⊎_elim
    (λ one. let high : n / 10 ≡ 0 = omega arith in let low : n % 10 ≡ n = omega arith in rw (decimal_digit n one, high, low, lt-ltb n 10 one))
    (λ two.
    let high : n / 10 < 10 = omega arith in
    let low : n % 10 < 10 = omega arith in
    let fits : n < 2 ^ 64 = omega arith in
    rw (decimal_step n two fits, decimal_digit (n / 10) high, lt-ltb (n / 10) 10 high, lt-ltb (n % 10) 10 low))
    (cases_lt n 10)

-- a digit is put before those behind it, as long as there are more
digits_put : (n : ℕ) → digits_onto 64 16 true n [] ≡ digits 16 true n
unfolding digits
digits_put n = refl

module _ (n : ℕ) (acc : List ℕ) where
  one_put : (k : ℕ) (t : Bool) → eqb (n / 16) 0 ≡ t → digits_onto (suc k) 16 true n acc ≡ cond t (digit_glyph true (n % 16) ∷ acc) (digits_onto k 16 true (n / 16) (digit_glyph true (n % 16) ∷ acc))
  one_put k t e = ap (λ (b : Bool). cond b (digit_glyph true (n % 16) ∷ acc) (digits_onto k 16 true (n / 16) (digit_glyph true (n % 16) ∷ acc))) e

  last_put : (k : ℕ) → n / 16 ≡ 0 → digits_onto (suc k) 16 true n acc ≡ digit_glyph true (n % 16) ∷ acc
  last_put k e = one_put k true (eq-eqb _ 0 e)

  next_put : (k : ℕ) → (n / 16 ≡ 0 → ⊥) → digits_onto (suc k) 16 true n acc ≡ digits_onto k 16 true (n / 16) (digit_glyph true (n % 16) ∷ acc)
  next_put k e = one_put k false (ne_eqb _ 0 e)

-- three and four hexadecimal digits, in capitals
three_hex : (n : ℕ) → 256 ≤ n → n < 4096 → digits 16 true n ≡ digit_glyph true (n / 256) ∷ digit_glyph true (n / 16 % 16) ∷ digit_glyph true (n % 16) ∷ []
three_hex n large small =
    let low = digit_glyph true (n % 16) ∷ [] in
    let top : n / 16 / 16 % 16 ≡ n / 256 = omega arith in
    sym (digits_put n) ∙ next_put n [] 63 (omega arith)
    ∙ next_put (n / 16) low 62 (omega arith)
    ∙ last_put (n / 16 / 16) (digit_glyph true (n / 16 % 16) ∷ low) 61 (omega arith)
    ∙ ap (λ d. digit_glyph true d ∷ digit_glyph true (n / 16 % 16) ∷ low) top

four_hex : (n : ℕ) → 4096 ≤ n → n < 65536 → digits 16 true n ≡ digit_glyph true (n / 4096) ∷ digit_glyph true (n / 256 % 16) ∷ digit_glyph true (n / 16 % 16) ∷ digit_glyph true (n % 16) ∷ []
four_hex n large small =
    let low = digit_glyph true (n / 16 % 16) ∷ digit_glyph true (n % 16) ∷ [] in
    let top : n / 16 / 16 / 16 % 16 ≡ n / 4096 = omega arith in
    let next : n / 16 / 16 % 16 ≡ n / 256 % 16 = omega arith in
    sym (digits_put n) ∙ next_put n [] 63 (omega arith)
    ∙ next_put (n / 16) (digit_glyph true (n % 16) ∷ []) 62 (omega arith)
    ∙ next_put (n / 16 / 16) low 61 (omega arith)
    ∙ last_put (n / 16 / 16 / 16) (digit_glyph true (n / 16 / 16 % 16) ∷ low) 60 (omega arith)
    ∙ ap₂ (λ d e. digit_glyph true d ∷ digit_glyph true e ∷ low) top next

-- a word's four, with zeros in front
word_glyphs : (n : ℕ) → n < 65536 → padded_integral (format_spec 32 0 4 4 (2 ^ 64 - 1)) false [] (digits 16 true n) ≡ digit_glyph true (n / 4096) ∷ digit_glyph true (n / 256 % 16) ∷ digit_glyph true (n / 16 % 16) ∷ digit_glyph true (n % 16) ∷ []
unfolding padded_integral char_count
word_glyphs n small = ⊎_elim
    (λ one. let a : n / 4096 ≡ 0 = omega arith in let b : n / 256 % 16 ≡ 0 = omega arith in let d : n / 16 % 16 ≡ 0 = omega arith in let e : n % 16 ≡ n = omega arith in rw (hex_one_digit true n one, a, b, d, e))
    (λ more. ⊎_elim
    (λ two. let a : n / 4096 ≡ 0 = omega arith in let b : n / 256 % 16 ≡ 0 = omega arith in let d : n / 16 % 16 ≡ n / 16 = omega arith in rw (hex_two_digits true n more two, a, b, d))
    (λ more. ⊎_elim
    (λ three. let a : n / 4096 ≡ 0 = omega arith in let b : n / 256 % 16 ≡ n / 256 = omega arith in rw (three_hex n more three, a, b))
    (λ four. rw (four_hex n four small))
    (cases_lt n 4096))
    (cases_lt n 256))
    (cases_lt n 16)

four_digits : (n : ℕ) → n < 65536 → padded_integral (format_spec 32 0 4 4 (2 ^ 64 - 1)) false [] (digits 16 true n) ≡ digit_of (n / 4096 % 16) ∷ digit_of (n / 256 % 16) ∷ digit_of (n / 16 % 16) ∷ digit_of (n % 16) ∷ []
four_digits n small =
    let top : n / 4096 ≡ n / 4096 % 16 = omega arith in
    word_glyphs n small
    ∙ rw (glyph_is (n / 4096), glyph_is (n / 256 % 16), glyph_is (n / 16 % 16), glyph_is (n % 16))
    (ap (λ d. digit_of d ∷ digit_of (n / 256 % 16) ∷ digit_of (n / 16 % 16) ∷ digit_of (n % 16) ∷ []) top)

-- the letter
letter_text : (op : ℕ) → encode (letter_of op) ≡ letter_of op ∷ []
unfolding letter_of encode
letter_text op = elim (ℕ_discrete op 2) [ yes read ↦ rw (eq-eqb op 2 read) | no other ↦ rw (ne_eqb op 2 other) ]

-- a number below 256, by its last two decimal digits
last_two : (n : ℕ) → padded_integral (format_spec 32 0 4 2 (2 ^ 64 - 1)) false [] (decimal (n % 100)) ≡ digit_of (n / 10 % 10) ∷ digit_of (n % 10) ∷ []
last_two n =
    let high : n % 100 / 10 ≡ n / 10 % 10 = omega arith in
    let low : n % 100 % 10 ≡ n % 10 = omega arith in
    two_digits (n % 100) (omega arith) ∙ rw (high, low)

pub line_text : (a : Answer) → a.«data» < 65536 →
    32 ∷ (encode (letter_of a.op)
    ++ (32 ∷ (padded_integral (format_spec 32 0 4 2 (2 ^ 64 - 1)) false [] (decimal (a.address % 100))
    ++ (32 ∷ (padded_integral (format_spec 32 0 4 2 (2 ^ 64 - 1)) false [] (decimal (a.register % 100))
    ++ (32 ∷ (decimal (a.status % 10)
    ++ (32 ∷ (padded_integral (format_spec 32 0 4 4 (2 ^ 64 - 1)) false [] (digits 16 true a.«data»)
    ++ (10 ∷ []))))))))))
    ≡ after_ordinal a
unfolding after_ordinal
line_text a small =
    let status : a.status % 10 < 10 = omega arith in
    rw (letter_text a.op, last_two a.address, last_two a.register, digit_text (a.status % 10) status, four_digits a.«data» small)
