-- Whether a text starts with a line: byte by byte, and what then stands behind the line.
use Prim.Native.Nat.{ℕ, ◌+◌, ◌≤◌, ◌<◌}
use mathlib.Core.Path.{◌≡◌, refl, ap, ap₂, sym, ◌∙◌}
use mathlib.Core.Bool.{Bool, true, false, ◌&&◌, and-false, and-eq-true_iff, false≢true}
use mathlib.Core.List.{List, [], ◌∷◌, ◌++◌}
use native.Mathlib.Omega.{arith}
use lib.ListN.{length, drop, take, length-append, length-drop}
use lib.Seq.{drop-append_seam}
use lib.Dec.{eqb}
use borrow.Author.Tests.{eqb-true, eqb-false, eq-eqb, ne_eqb}
use Rattle.std.specs.Borrow.{Bor}
use Rattle.std.specs.Prelude.{Option, None, Some, MatchOption, nat_eq}
use Rattle.std.specs.Cmp.Lexicographic.{pointwise}
use Rattle.waveform.specs.Text.{starts_with}
use Rattle.waveform.specs.Passes.{IsBehind}

-- what the bytes in the line's place say, compared with the line's
either-way : (m n : ℕ) → eqb m n ≡ eqb n m
either-way m n = go (eqb m n) refl
  where
    go : (b : Bool) → eqb m n ≡ b → b ≡ eqb n m
    go true e = sym (eq-eqb n m (sym (eqb-true m n e)))
    go false e = sym (ne_eqb n m (λ same. eqb-false m n e (sym same)))

pub compared : (line text : List ℕ) → pointwise nat_eq (take (length line) text) line ≡ starts_with line text
compared [] text = refl
compared (b ∷ line) [] = refl
compared (b ∷ line) (c ∷ text) = ap₂ ◌&&◌ (either-way c b) (compared line text)

-- the same of a line that is known
pub asked : (line known text : List ℕ) (b : Bool) → line ≡ known → pointwise nat_eq (take (length line) text) line ≡ b → starts_with known text ≡ b
asked line known text b same is = sym (compared known text) ∙ ap (λ l. pointwise nat_eq (take (length l) text) l) (sym same) ∙ is

-- and what then stands behind it
pub behind_asked : (line known text : List ℕ) → line ≡ known → (r : Option (Bor (List ℕ))) →
    MatchOption r (pointwise nat_eq (take (length line) text) line ≡ false) (λ rest. (pointwise nat_eq (take (length line) text) line ≡ true) × (rest.now ≡ drop (length line) text) × (length rest.now + length line ≡ length text)) →
    IsBehind known text r
behind_asked line known text same None absent = asked line known text false same absent
behind_asked line known text same (Some rest) there = (asked line known text true same there.0, there.1 ∙ ap (λ l. drop (length l) text) same)

-- a text that is too short
pub too_short : (line text : List ℕ) → length text < length line → starts_with line text ≡ false
too_short [] text h = absurd (omega arith)
too_short (b ∷ line) [] h = refl
too_short (b ∷ line) (c ∷ text) h = rw (too_short line text (omega arith)) (and-false (eqb b c))

-- a line with anything behind it starts with the line
pub starts : (line more : List ℕ) → starts_with line (line ++ more) ≡ true
starts [] more = refl
starts (b ∷ line) more = rw (eq-eqb b b refl) (starts line more)

-- and what starts with a line is the line with something behind it
pub started : (line text : List ℕ) → starts_with line text ≡ true → text ≡ line ++ drop (length line) text
started [] text e = refl
started (b ∷ line) [] e = absurd (false≢true e)
started (b ∷ line) (c ∷ text) e =
    let both = (and-eq-true_iff (eqb b c) (starts_with line text)).0 e in
    ap₂ ◌∷◌ (sym (eqb-true b c both.0)) (started line text both.1)

-- a line that is there is not longer than the text
pub line-within : (text : List ℕ) (at : ℕ) (line : List ℕ) → at ≤ length text → starts_with line (drop at text) ≡ true → at + length line ≤ length text
line-within text at line within there =
    omega (arith, ap length (started line (drop at text) there), length-append line (drop (length line) (drop at text)), length-drop at text)

-- what stands behind a line
pub behind : (line : List ℕ) {text more : List ℕ} → text ≡ line ++ more → drop (length line) text ≡ more
behind line {more = more} here = ap (drop (length line)) here ∙ drop-append_seam line more
