-- An output in parts of one width, a part for each transaction of a list, and a function that puts a part.
use Rattle.std.specs.Prelude.{ℕ, ◌*◌, ◌≡◌, ◌<◌, List, length}
use Rattle.std.specs.Borrow.{MutBor}
use Rattle.std.specs.Fn.{Shared}
use Rattle.verdict.specs.Refusal.{Verdict}
use Rattle.verdict.specs.Output.{tabulate, join, room_for, Writes}
use Rattle.frame.specs.declared.list.Transaction.{Transaction}
use Rattle.frame.specs.List.{transaction_at}

module _ {F : Type 0} (calls : Shared F (Transaction × (ℕ × (MutBor (List ℕ) × Unit {0}))) (Unit {0} × (MutBor (List ℕ) × Unit {0}))) (put : F) (list : List ℕ) (width : ℕ) where
  -- `put` may be called with each of the first `count` transactions, its index and its part
  abbrev pub Takes : ℕ → Type 0
  Takes count =
      (k : ℕ) (t : Transaction) (part : MutBor (List ℕ)) → k < count → t ≡ transaction_at list k → length part.now ≡ width → calls.pre put (t, (k, (part, tt)))

  -- the part that `put` leaves for transaction k is piece k
  pub record Puts (piece : ℕ → List ℕ) : Type 0 where
    pub size : (k : ℕ) → length (piece k) ≡ width
    pub leaves : (k : ℕ) (t : Transaction) (part left : MutBor (List ℕ)) → t ≡ transaction_at list k → length part.now ≡ width → calls.post put (t, (k, (part, tt))) (tt, (left, tt)) → left.now ≡ piece k

  -- a call that has `put` put `count` parts writes the pieces one after the other, where the output has room for them
  abbrev pub WritesEach : ℕ → List ℕ → Verdict → List ℕ → Type 0
  WritesEach count out r out' =
      (piece : ℕ → List ℕ) → Puts piece → Writes (room_for out (count * width)) (join (tabulate count piece)) out r out'
