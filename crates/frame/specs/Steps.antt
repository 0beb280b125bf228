-- Document 01, "Clock steps": "Steps, one byte each: 0 drive zero, 1 drive one, 2 release, 3 release and sample. A transaction is 65 clocks, by position".
use Rattle.std.specs.Prelude.{ℕ, zero, suc, ◌*◌, Bool, true, false, List, [], ◌∷◌, map, get_or, take, drop, replicate}
use Rattle.verdict.specs.Refusal.{Verdict, and_then}
use Rattle.verdict.specs.Bits.{bits, value_of}
use Rattle.verdict.specs.Output.{join, room_for, Writes}
use Rattle.frame.specs.declared.list.Transaction.{Transaction}
use Rattle.frame.specs.Frame.{preamble, frame_bits, clocks}
use Rattle.frame.specs.List.{most_transactions, is_read, list_verdict, transactions}

abbrev pub drive_zero : ℕ
drive_zero = 0

abbrev pub drive_one : ℕ
drive_one = 1

abbrev pub release : ℕ
release = 2

abbrev pub release_and_sample : ℕ
release_and_sample = 3

-- "over 4,160 clock steps": as many as the longest list has
abbrev pub most_steps : ℕ
most_steps = most_transactions * clocks

-- 11: "clock step over 3"
abbrev pub largest_step : ℕ
largest_step = release_and_sample

-- the table's columns: what stands for a write, and for a read
abbrev pub column : {A : Type 0} → Bool → A → A → A
column false for_write for_read = for_write
column true for_write for_read = for_read

-- the table's rows
abbrev pub start_steps : List ℕ
start_steps = drive_zero ∷ drive_one ∷ []

abbrev pub op_steps : Bool → List ℕ
op_steps reads = column reads drive_zero drive_one ∷ column reads drive_one drive_zero ∷ []

abbrev pub turnaround_steps : Bool → List ℕ
turnaround_steps reads = column reads drive_one release ∷ column reads drive_zero release_and_sample ∷ []

abbrev pub data_steps : Bool → ℕ → List ℕ
data_steps reads word = column reads (bits 16 word) (replicate 16 release_and_sample)

-- the table after a preamble of m ones: start, op, address, register, turnaround, data, idle
abbrev pub table : ℕ → Transaction → List (List ℕ)
table m t =
    replicate m drive_one
    ∷ start_steps
    ∷ op_steps (is_read t)
    ∷ bits 5 t.address
    ∷ bits 5 t.register
    ∷ turnaround_steps (is_read t)
    ∷ data_steps (is_read t) t.«data»
    ∷ (release ∷ [])
    ∷ []

-- the 65 steps of a transaction
unfoldable pub steps_of : Transaction → List ℕ
steps_of t = join (table preamble t)

-- the step at a position, from 1; the station releases the wire outside its transaction
unfoldable pub step_at : Transaction → ℕ → ℕ
step_at t zero = release
step_at t (suc i) = get_or (steps_of t) i release

-- the frame word: what the 32 bits after the preamble say where the station drives them all
abbrev pub frame_word : Transaction → ℕ
frame_word t = value_of (take frame_bits (drop preamble (steps_of t)))

-- the steps of a list, transaction by transaction
abbrev pub translation : List ℕ → List ℕ
translation list = join (map steps_of (transactions list))

-- the list's checks, then 10
abbrev pub translating : List ℕ → List ℕ → Verdict
translating list out = and_then (list_verdict list) (λ n. room_for out (n * clocks))

-- what `translate` promises
abbrev pub Translated : List ℕ → List ℕ → Verdict → List ℕ → Type 0
Translated list out r out' = Writes (translating list out) (translation list) out r out'
