-- Text is put piece by piece: what is put behind a piece makes one longer piece with it.
use Prim.Native.Nat.{ℕ, ◌+◌, ◌≤◌}
use mathlib.Core.Path.{◌≡◌, refl, ap, ap₂, sym, ◌∙◌}
use mathlib.Core.List.{List, [], ◌++◌, append_assoc}
use native.Mathlib.Omega.{arith}
use lib.ListN.{length, take, drop, length-append}
use lib.Seq.{length-take-le, take_at, drop_at, drop-drop, paste-zero, length-paste, take-length}
use Rattle.verdict.specs.Output.{written}
use Rattle.waveform.specs.declared.write.Output.{Output}
use Rattle.waveform.specs.Passes.{HasRoom, put, Puts}

-- what is put at the start is written
pub put_first : (more text : List ℕ) → put 0 more text ≡ written more text
put_first more text = let behind : 0 + length more ≡ length more = omega arith in rw behind

module _ (text : List ℕ) (at : ℕ) where
  -- an empty piece
  pub put-nothing : put at [] text ≡ text
  put-nothing = sym (paste-zero text at [])

  pub length-put : (more : List ℕ) → at + length more ≤ length text → length (put at more text) ≡ length text
  length-put more fits = ap (λ piece. length (take at text ++ piece ++ drop (at + length more) text)) (sym (take-length more)) ∙ length-paste text at more (length more) fits (omega arith)

  -- a piece behind another
  pub put-behind : (first second : List ℕ) → at ≤ length text → put (at + length first) second (put at first text) ≡ put at (first ++ second) text
  put-behind first second within =
      let head : length (take at text ++ first) ≡ at + length first = length-append (take at text) first ∙ ap (λ n. n + length first) (length-take-le at text within) in
      let rest = drop (at + length first) text in
      let place : at + length first + length second ≡ at + length (first ++ second) = omega (arith, length-append first second) in
      ap₂ (λ (front back : List ℕ). front ++ second ++ back)
      (take_at (take at text ++ first) rest (at + length first) head)
      (sym (drop-drop (length second) (at + length first) (take at text ++ first ++ rest)) ∙ ap (drop (length second)) (drop_at (take at text ++ first) rest (at + length first) head) ∙ drop-drop (length second) (at + length first) text ∙ ap (λ n. drop n text) place)
      ∙ ap (λ (front : List ℕ). front ++ drop (at + length (first ++ second)) text) (append_assoc (take at text) first second)

-- room for two pieces is room for the first
pub room-first : (out : Output) (first second : List ℕ) → HasRoom out (first ++ second) → HasRoom out first
room-first out first second room = omega (arith, room, length-append first second)

-- where nothing is put nothing changes
pub puts-nothing : (out : Output) → Puts out [] out
puts-nothing out = record { same_text = refl; behind = omega arith; output = sym (put-nothing out.text.now out.at) }

module _ {out out' : Output} where
  -- the text keeps its length
  pub puts-length : {more : List ℕ} → HasRoom out more → Puts out more out' → length out'.text.now ≡ length out.text.now
  puts-length {more} room puts = ap length puts.output ∙ length-put out.text.now out.at more room

  -- and then there is room for the second
  pub room-second : (first second : List ℕ) → HasRoom out (first ++ second) → Puts out first out' → HasRoom out' second
  room-second first second room puts =
      omega (arith, room, length-append first second, puts.behind, puts-length (room-first out first second room) puts)

  -- two pieces that are put are put as one
  pub puts_both : (first second : List ℕ) {out'' : Output} → HasRoom out (first ++ second) → Puts out first out' → Puts out' second out'' → Puts out (first ++ second) out''
  puts_both first second room one two =
      record {
        same_text = two.same_text ∙ one.same_text;
        behind = omega (arith, one.behind, two.behind, length-append first second);
        output =
            two.output
            ∙ ap (λ place. put place second out'.text.now) one.behind
            ∙ ap (put (out.at + length first) second) one.output
            ∙ put-behind out.text.now out.at first second (omega (arith, room));
      }
