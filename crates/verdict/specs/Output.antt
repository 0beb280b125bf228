-- Document 01, "Refusal numbers": "Nothing is written" and "Success writes the result from the output's start; later bytes stay."
use Rattle.std.specs.Prelude.{ℕ, zero, suc, ◌≡◌, List, [], ◌∷◌, ◌++◌, length, drop, replicate, ltb}
use Rattle.verdict.specs.Refusal.{Verdict, Done, Refused, no_room, ◌when◌, refuse}

-- the n values f 0, f 1, ..
unfoldable pub tabulate : {A : Type 0} → ℕ → (ℕ → A) → List A
tabulate zero f = []
tabulate (suc n) f = tabulate n f ++ (f n ∷ [])

-- lists one after the other
unfoldable pub join : {A : Type 0} → List (List A) → List A
join [] = []
join (xs ∷ xss) = xs ++ join xss

-- a result from the output's start; later bytes stay
abbrev pub written : List ℕ → List ℕ → List ℕ
written result out = result ++ drop (length result) out

-- the output after a call with this answer
abbrev pub output_after : Verdict → List ℕ → List ℕ → List ℕ
output_after (Done n) result out = written result out
output_after (Refused c k) result out = out

-- 10, output shorter than the full result of n bytes; else n bytes are written
abbrev pub room_for : List ℕ → ℕ → Verdict
room_for out n = refuse (no_room when ltb (length out) n) 0 (Done n)

-- what a call that writes promises: its answer is the one given here, and the output holds the result after success and its old bytes after a refusal
pub record Writes (answer : Verdict) (result out : List ℕ) (r : Verdict) (out' : List ℕ) : Type 0 where
  pub verdict : r ≡ answer
  pub output : out' ≡ output_after answer result out

-- room for an output of n bytes
unfoldable pub zeros : ℕ → List ℕ
zeros n = replicate n 0
