-- Outputs: a promise fixes the answer and every byte, and a loop fills an output, or an array, from its start.
use Prim.Native.Nat.{ℕ, suc, ◌+◌, ◌*◌, ◌-◌, ◌≤◌, ◌<◌}
use mathlib.Core.Path.{◌≡◌, refl, sym, ap₂, ◌∙◌}
use mathlib.Core.Bool.{Bool, true, false}
use mathlib.Core.List.{List, [], ◌∷◌, ◌++◌, append_assoc, append-nil}
use native.Mathlib.Omega.{arith}
use native.Mathlib.Nat.{suc-mul}
use native.Mathlib.Numerals.{add-one}
use borrow.Rule.Slice.PartMut.{put_mid}
use lib.ListN.{length, drop, set, length-append, length-drop}
use lib.Dec.{ltb}
use lib.Seq.{drop-cons, set_at, take_at, drop_at, drop-drop}
use borrow.Author.Tests.{le-ltb, ltb-false}
use Rattle.std.specs.Prelude.{Result}
use Rattle.verdict.specs.declared.Refusal.{Refusal}
use Rattle.verdict.specs.Refusal.{Verdict, Done, Refused, said, no_room, ◌when◌, refuse}
use Rattle.verdict.specs.Output.{tabulate, join, written, room_for, Writes}
use Rattle.verdict.proofs.Faults.{one_result}
use Rattle.verdict.proofs.Lists.{length-tabulate, join-append, length-pieces}

module _ {answer : Verdict} {result out : List ℕ} {r s : Verdict} {out₁ out₂ : List ℕ} where
  -- two results that meet the promise are equal
  pub writes-unique : Writes answer result out r out₁ → Writes answer result out s out₂ → (r ≡ s) × (out₁ ≡ out₂)
  writes-unique p q = (p.verdict ∙ sym q.verdict, p.output ∙ sym q.output)

module _ {answer : Verdict} {result out : List ℕ} {r s : Result ℕ Refusal} {out₁ out₂ : List ℕ} where
  -- and so are the results of calls that say them
  pub result-unique : Writes answer result out (said r) out₁ → Writes answer result out (said s) out₂ → (r ≡ s) × (out₁ ≡ out₂)
  result-unique p q = let same = writes-unique p q in (one_result r s same.0, same.1)

-- a refusal leaves the output as it was
pub refuses : {answer r : Verdict} {c k : ℕ} (result out : List ℕ) → answer ≡ Refused c k → r ≡ Refused c k → Writes answer result out r out
refuses result out e p = record { verdict = p ∙ sym e; output = rw e }

-- success writes the result
pub succeeds : {answer : Verdict} {n : ℕ} {result out out' : List ℕ} → answer ≡ Done n → out' ≡ written result out → Writes answer result out (Done n) out'
succeeds e p = record { verdict = sym e; output = rw e p }

never : {A : Type 0} {n c k : ℕ} → Refused c k ≡ Done n → A
never e = absurd (let z : ◌≡◌ {A = ℕ} 0 1 = cc in omega arith)

-- a room that is large enough, and one that was
pub room-done : (out : List ℕ) (n : ℕ) → n ≤ length out → room_for out n ≡ Done n
room-done out n fits = rw (le-ltb (length out) n fits)

pub room_fits : (out : List ℕ) (n m : ℕ) → room_for out n ≡ Done m → n ≤ length out
room_fits out n m e = go (ltb (length out) n) refl e
  where
    go : (b : Bool) → ltb (length out) n ≡ b → refuse (no_room when b) 0 (Done n) ≡ Done m → n ≤ length out
    go true p e = never e
    go false p e = ltb-false (length out) n p

-- A result that grows: one value more, put in the place behind those that are there
pub set_next : {A : Type 0} (done out : List A) (i : ℕ) (v : A) → length done ≡ i → i < length out → set (done ++ drop i out) i v ≡ (done ++ (v ∷ [])) ++ drop (i + 1) out
set_next done out i v long h =
    rw (drop-cons out i v h, set_at done _ _ v i long, add-one)
    (sym (append_assoc done (v ∷ []) (drop (suc i) out)))

-- An output filled value by value: the first i values are put, the others stand
module _ {A : Type 0} (f : ℕ → A) (out : List A) where
  abbrev pub filled : ℕ → List A
  filled i = tabulate i f ++ drop i out

  pub length-filled : (i : ℕ) → i ≤ length out → length (filled i) ≡ length out
  length-filled i h = simp (length-append, length-tabulate, length-drop) (omega arith)

  -- one value more
  pub fill-next : (i : ℕ) → i < length out → set (filled i) i (f i) ≡ filled (i + 1)
  unfolding tabulate
  fill-next i h = set_next (tabulate i f) out i (f i) (length-tabulate i f) h ∙ rw add-one

  -- the same of a list that is filled so far
  pub fill : (xs : List A) (i : ℕ) (v : A) → i < length out → xs ≡ filled i → v ≡ f i → set xs i v ≡ filled (i + 1)
  fill xs i v h so_far here = ap₂ (λ (ys : List A) (w : A). set ys i w) so_far here ∙ fill-next i h

-- The same with w values more, put in the place behind those that are there
pub put_next : (done piece out : List ℕ) (at w : ℕ) → length done ≡ at → length piece ≡ w →
    put_mid at (at + w - at) (done ++ drop at out) piece ≡ (done ++ piece) ++ drop (at + w) out
put_next done piece out at w long size =
    let width : at + w - at ≡ w = omega arith in
    rw (take_at done (drop at out) at long, drop_at done (drop at out) at long, width, drop-drop)
    (sym (append_assoc done piece (drop (at + w) out)))

-- An output filled piece by piece, each w values long
abbrev pub pieced : ℕ → (ℕ → List ℕ) → List ℕ → ℕ → List ℕ
pieced w piece out k = join (tabulate k piece) ++ drop (k * w) out

module _ (w : ℕ) (piece : ℕ → List ℕ) (size : (k : ℕ) → length (piece k) ≡ w) (out : List ℕ) where
  pub length-pieced : (k : ℕ) → k * w ≤ length out → length (pieced w piece out k) ≡ length out
  length-pieced k h = simp (length-append, length-pieces w k piece size, length-drop) (omega arith)

  more : (k : ℕ) → join (tabulate k piece) ++ piece k ≡ join (tabulate (k + 1) piece)
  unfolding tabulate join
  more k = rw (add-one, join-append (tabulate k piece) (piece k ∷ []), append-nil)

  -- one piece more, put in the place of w values after k pieces
  pub piece-next : (k : ℕ) → put_mid (k * w) (k * w + w - k * w) (pieced w piece out k) (piece k) ≡ pieced w piece out (k + 1)
  piece-next k =
      let place : k * w + w ≡ (k + 1) * w = rw (add-one, suc-mul) in
      put_next (join (tabulate k piece)) (piece k) out (k * w) w (length-pieces w k piece size) (size k)
      ∙ ap₂ (λ (xs : List ℕ) (n : ℕ). xs ++ drop n out) (more k) place

  -- all pieces are the result
  pub pieced-all : (n : ℕ) → pieced w piece out n ≡ written (join (tabulate n piece)) out
  pieced-all n = rw (length-pieces w n piece size)
