-- The byte in the last digit's place is asked for first: where it is another the text doesn't start with the line.
use Prim.Native.Nat.{ℕ, ◌%◌}
use mathlib.Core.Path.{◌≡◌, refl, ap, sym, ◌∙◌}
use mathlib.Core.Bool.{Bool, true, false, not, false≢true}
use mathlib.Core.List.{List}
use lib.ListN.{length, get_or}
use lib.Dec.{eqb, ltb}
use Rattle.std.specs.Borrow.{Bor}
use borrow.Author.Tests.{eq-eqb, lt-ltb}
use Rattle.std.specs.Prelude.{Option, None, Some}
use Rattle.std.specs.Option.{is_some, IfSome, option_eq}
use Rattle.waveform.specs.Text.{digit_of, places, time_line, starts_with}
use Rattle.waveform.proofs.Starts.{behind_asked}
use Rattle.waveform.proofs.Texts.{last-digit, place-within}
use Rattle.waveform.proofs.read.behind_time.Goals as goal

module _ (text : List ℕ) (clock place : ℕ) (digit : Bor ℕ) (at : place ≡ places clock) (is : digit.now ≡ digit_of (clock % 10)) where
  same : starts_with (time_line clock) text ≡ true → (here : Option (Bor ℕ)) → is_some here ≡ ltb place (length text) → IfSome here (λ x. x.now ≡ get_or text place x.now) →
      option_eq (λ x y. eqb x.now y.now) here (Some digit) ≡ true
  same there None some byte = absurd (false≢true (some ∙ lt-ltb _ _ (rw at (place-within clock text there))))
  same there (Some x) some byte = eq-eqb _ _ (byte ∙ ap (λ p. get_or text p x.now) at ∙ last-digit clock text x.now there ∙ sym is)

  other : (here : Option (Bor ℕ)) → is_some here ≡ ltb place (length text) → IfSome here (λ x. x.now ≡ get_or text place x.now) →
      not (option_eq (λ x y. eqb x.now y.now) here (Some digit)) ≡ true → starts_with (time_line clock) text ≡ false
  other here some byte differs = go (starts_with (time_line clock) text) refl
    where
      go : (b : Bool) → starts_with (time_line clock) text ≡ b → b ≡ false
      go true there = absurd (false≢true (ap not (sym (same there here some byte)) ∙ differs))
      go false there = refl

pub returns-then-ne : goal.returns-then-ne
returns-then-ne c =
    let here = c.get.ensures.lookup in
    other c.args.text.now c.args.clock _ _ c.places.ensures c.digit.ensures c.get.result here.0 here.1 (sym c.ne.ensures ∙ c.if-ne.true)

pub returns : goal.returns
returns c = behind_asked _ _ _ c.time_line-time.ensures c.strip_prefix.result c.strip_prefix.ensures.cases
