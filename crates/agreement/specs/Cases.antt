-- Document 01, "Bench cases": the starred cases 1 to 12 as rows of one table.
use Rattle.std.specs.Prelude.{ℕ, ◌+◌, ◌*◌, ◌/◌, ◌%◌, ◌≡◌, Bool, true, false, ◌&&◌, List, [], ◌∷◌, ◌++◌, map, length, take, replicate, eqb}
use Rattle.verdict.specs.Refusal.{number}
use Rattle.verdict.specs.Output.{join}
use Rattle.frame.specs.List.{write, read, transactions}
use Rattle.frame.specs.Steps.{frame_word, translation}
use Rattle.frame.specs.Answers.{answered, silent, sent, answer_bytes, answers_in}
use Rattle.board.specs.declared.Board.{Board}
use Rattle.board.specs.Load.{loaded}
use Rattle.phy.specs.Events.{link_up, link_down, restart_done, reset_done}
use Rattle.wire_machine.specs.Run.{log_of_run}
use Rattle.plain_machine.specs.Plain.{planning, answers_of_plain}

-- a word, high byte first
abbrev pub two_bytes : ℕ → List ℕ
two_bytes word = word / 256 ∷ word % 256 ∷ []

-- "Board P: address 1, mask 0000000F, defaults 3000, 7849, 0, 0": its record of 134 bytes
abbrev pub record_of_p : List ℕ
record_of_p = (1 ∷ 0 ∷ 0 ∷ 0 ∷ 0 ∷ 0x0F ∷ []) ++ (two_bytes 0x3000 ++ (two_bytes 0x7849 ++ replicate 124 0))

abbrev pub board_p : Board
board_p = (loaded record_of_p).board

-- a line of a script, each with its address and register: a write of a word, a read that must give a word, a read that must be silent
pub data Line : Type 0 where
  writes : ℕ → ℕ → ℕ → Line
  gives : ℕ → ℕ → ℕ → Line
  nothing : ℕ → ℕ → Line

-- a write of register 0 of PHY 1, and reads of its registers 0 and 1
abbrev pub set : ℕ → Line
set word = writes 1 0 word

abbrev pub control : ℕ → Line
control word = gives 1 0 word

abbrev pub status : ℕ → Line
status word = gives 1 1 word

-- the list record of a line, and the answer record that must come back
abbrev pub sends : Line → List ℕ
sends (writes address register word) = write ∷ address ∷ register ∷ 0 ∷ two_bytes word
sends (gives address register word) = read ∷ address ∷ register ∷ 0 ∷ two_bytes 0
sends (nothing address register) = read ∷ address ∷ register ∷ 0 ∷ two_bytes 0

abbrev pub returns : Line → List ℕ
returns (writes address register word) = sent ∷ write ∷ address ∷ register ∷ two_bytes word
returns (gives address register word) = answered ∷ read ∷ address ∷ register ∷ two_bytes word
returns (nothing address register) = silent ∷ read ∷ address ∷ register ∷ two_bytes 0

-- an event of PHY 1 after a clock of the transaction at index k
abbrev pub after : ℕ → ℕ → ℕ → List ℕ
after k clock code = two_bytes (k * 65 + clock) ++ (1 ∷ code ∷ [])

-- what is sent to a fresh board P and must come back, the events, and the frame words that its first lines must have on the wire
pub record Row : Type 0 where
  pub script : List Line
  pub events : List (List ℕ)
  pub words : List ℕ

abbrev pub row : List Line → List (List ℕ) → Row
row script events = record { script = script; events = events; words = [] }

abbrev pub framed : Line → ℕ → Row
framed line word = record { script = line ∷ []; events = []; words = word ∷ [] }

abbrev pub table : List Row
table =
    -- 1 fresh read of 0: 3000
    row (control 0x3000 ∷ []) []
    -- 2 write 2100: 2100
    ∷ row (set 0x2100 ∷ control 0x2100 ∷ []) []
    -- 3 write 0040: 2000
    ∷ row (set 0x0040 ∷ control 0x2000 ∷ []) []
    -- 4 write 2040: 2000
    ∷ row (set 0x2040 ∷ control 0x2000 ∷ []) []
    -- 5 write 1200: 1200; event 6: 1000
    ∷ row (set 0x1200 ∷ control 0x1200 ∷ control 0x1000 ∷ []) (after 1 65 restart_done ∷ [])
    -- 6 write 0200: 0000
    ∷ row (set 0x0200 ∷ control 0x0000 ∷ []) []
    -- 7 write 8100: B000; write 2100: B000; event 7: 3000
    ∷ row (set 0x8100 ∷ control 0xB000 ∷ set 0x2100 ∷ control 0xB000 ∷ control 0x3000 ∷ []) (after 3 65 reset_done ∷ [])
    -- 8 link up, two status reads: 7849, 784D
    ∷ row (status 0x7849 ∷ status 0x784D ∷ []) (after 0 0 link_up ∷ [])
    -- 9 then link down, link up, two reads: 7849, 784D
    ∷ row (status 0x7849 ∷ status 0x784D ∷ status 0x7849 ∷ status 0x784D ∷ [])
    (after 0 0 link_up ∷ after 1 65 link_down ∷ after 1 65 link_up ∷ [])
    -- 10 last status 784D, link up, one more read with link down at its clock 45: 7849
    ∷ row (status 0x7849 ∷ status 0x784D ∷ status 0x7849 ∷ []) (after 0 0 link_up ∷ after 2 45 link_down ∷ [])
    -- at 46: 784D, and the next read 7849
    ∷ row (status 0x7849 ∷ status 0x784D ∷ status 0x784D ∷ status 0x7849 ∷ []) (after 0 0 link_up ∷ after 2 46 link_down ∷ [])
    -- 11 read of register 4, or address 2: status 2, data 0
    ∷ row (nothing 1 4 ∷ nothing 2 0 ∷ []) []
    -- 12 write of 1200 to PHY 3 register 0: frame word 51821200
    ∷ framed (writes 3 0 0x1200) 0x51821200
    ∷ []

module _ (r : Row) where
  abbrev pub list_of : List ℕ
  list_of = join (map sends r.script)

  abbrev pub events_of : List ℕ
  events_of = join r.events

  abbrev pub expected : List ℕ
  expected = join (map returns r.script)

  -- what the plain machine answers, and what the wire's log decodes to
  abbrev pub plainly : List ℕ
  plainly = join (map answer_bytes (answers_of_plain board_p list_of events_of))

  abbrev pub clocked : List ℕ
  clocked = join (map answer_bytes (answers_in list_of (log_of_run board_p (translation list_of) events_of)))

  -- the frame words of the first lines, as many as the row has
  abbrev pub frames_of : List ℕ
  frames_of = take (length r.words) (map frame_word (transactions list_of))

  -- a row's claim: the call is accepted, both machines give what must come back, and the frame words are the row's
  pub record Holds : Type 0 where
    pub accepted : number (planning board_p list_of events_of (replicate (length expected) 0)) ≡ 0
    pub plain : plainly ≡ expected
    pub wire : clocked ≡ expected
    pub frames : frames_of ≡ r.words

-- a test that computes
unfoldable pub same : List ℕ → List ℕ → Bool
same [] [] = true
same [] (y ∷ ys) = false
same (x ∷ xs) [] = false
same (x ∷ xs) (y ∷ ys) = eqb x y && same xs ys

abbrev pub right : Row → Bool
right r =
    eqb (number (planning board_p (list_of r) (events_of r) (replicate (length (expected r)) 0))) 0
    && (same (plainly r) (expected r) && (same (clocked r) (expected r) && same (frames_of r) r.words))

unfoldable pub all_right : List Row → Bool
all_right [] = true
all_right (r ∷ rows) = right r && all_right rows
