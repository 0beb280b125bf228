-- Document 01, "The plain machine": no wire; "transaction k reads in clock 65(k-1)+46 or stores in 65(k-1)+64, by the register rules (..) events by clock number."
use Rattle.std.specs.Prelude.{ℕ, zero, suc, ◌+◌, ◌-◌, Bool, cond, List, [], ◌∷◌, map}
use Rattle.frame.specs.declared.list.Transaction.{Transaction}
use Rattle.frame.specs.declared.answer.Answer.{Answer}
use Rattle.frame.specs.Frame.{header_bits, frame_bits}
use Rattle.frame.specs.List.{is_read}
use Rattle.frame.specs.Answers.{sent, answered, silent, answer_to}
use Rattle.wire.specs.declared.Header.{Header}
use Rattle.wire.specs.Follower.{our_start}

-- what the plain machine asks of a party: whether it answers a header and with what word, what the header of a read and the end of a frame do to it, and what the events after a clock do
pub record Core (P : Type 0) : Type 0 where
  pub answers : Header → P → Bool
  pub word : Header → P → ℕ
  pub after_header : Header → P → P
  pub after_frame : Header → ℕ → P → P
  pub happens : ℕ → P → P

-- the header that a transaction sends
abbrev pub header_for : Transaction → Header
header_for t = record { start = our_start; op = t.op; address = t.address; register = t.register }

-- A transaction with a preamble of m ones: a read acts in clock m + 14 and a write in m + 32, so these are the clocks before it; then all its clocks, with the idle one
abbrev pub before_reads : ℕ → ℕ
before_reads m = m + header_bits - 1

abbrev pub before_writes : ℕ → ℕ
before_writes m = m + frame_bits - 1

abbrev pub clocks_with : ℕ → ℕ
clocks_with m = m + frame_bits + 1

-- the clocks of a list, whose first transaction has a preamble of m ones and each later one of n
unfoldable pub clocks_of : ℕ → ℕ → List Transaction → ℕ
clocks_of m n [] = 0
clocks_of m n (t ∷ ts) = clocks_with m + clocks_of n n ts

module _ {P : Type 0} (core : Core P) where
  -- n clocks in which nothing acts, after c clocks: their events alone
  unfoldable pub quiet : ℕ → ℕ → List P → List P
  quiet c zero ps = ps
  quiet c (suc n) ps = quiet (suc c) n (map (core.happens (suc c)) ps)

  -- a clocks, then b more, of which the first has an effect
  abbrev pub acting : (P → P) → ℕ → ℕ → ℕ → List P → List P
  acting effect c a b ps = quiet (c + a) b (map effect (quiet c a ps))

  -- the answer to a read: of the party that answers its header, else silent
  abbrev pub read_of : Transaction → List P → Answer
  read_of t [] = answer_to t silent 0
  read_of t (p ∷ ps) =
      cond (core.answers (header_for t) p) (answer_to t answered (core.word (header_for t) p)) (read_of t ps)

  -- one transaction with a preamble of m ones, after c clocks: its answer, and the parties after it
  module _ (m : ℕ) (t : Transaction) (c : ℕ) (ps : List P) where
    abbrev pub plain_answer : Answer
    plain_answer = cond (is_read t) (read_of t (quiet c (before_reads m) ps)) (answer_to t sent t.«data»)

    abbrev pub left_by_read : List P
    left_by_read = acting (core.after_header (header_for t)) c (before_reads m) (clocks_with m - before_reads m) ps

    abbrev pub left_by_write : List P
    left_by_write = acting (core.after_frame (header_for t) t.«data») c (before_writes m) (clocks_with m - before_writes m) ps

    abbrev pub plain_after : List P
    plain_after = cond (is_read t) left_by_read left_by_write

  -- a list after c clocks: its answers, and the parties after it
  unfoldable pub plain_answers : ℕ → ℕ → List Transaction → ℕ → List P → List Answer
  plain_answers m n [] c ps = []
  plain_answers m n (t ∷ ts) c ps = plain_answer m t c ps ∷ plain_answers n n ts (c + clocks_with m) (plain_after m t c ps)

  unfoldable pub plain_parties : ℕ → ℕ → List Transaction → ℕ → List P → List P
  plain_parties m n [] c ps = ps
  plain_parties m n (t ∷ ts) c ps = plain_parties n n ts (c + clocks_with m) (plain_after m t c ps)
