-- Document 01, "Refusal numbers": each number by what it is given for, and how checks are put in order.
use Rattle.std.specs.Prelude.{ℕ, zero, suc, Bool, true, false, Result, Ok, Err}
use Rattle.verdict.specs.declared.Fault.{Fault}
use Rattle.verdict.specs.declared.Fault.TheVariants.{WrongLength, TooMany, WrongField, AddressUsed, WrongRegisterSet, WrongDefault, WrongOp, WrongEvent, WrongClock, NoRoom, WrongStep, NotSound, WrongLogLength, WrongLevel, WrongText}
use Rattle.verdict.specs.declared.Refusal.{Refusal}

infixl 40 ◌when◌
infixr 35 ◌else◌
-- length is no whole number of records (board, list, events)
abbrev pub wrong_length : ℕ
wrong_length = 1

-- more records than allowed, or over 4,160 clock steps
abbrev pub too_many : ℕ
too_many = 2

-- board or list: PHY address or register over 31, a zero byte not zero, a read with data
abbrev pub wrong_field : ℕ
wrong_field = 3

-- an address already used by an earlier board record
abbrev pub address_used : ℕ
address_used = 4

-- register set wrong
abbrev pub wrong_register_set : ℕ
wrong_register_set = 5

-- default or write mask wrong
abbrev pub wrong_default : ℕ
wrong_default = 6

-- op not 1 or 2
abbrev pub wrong_op : ℕ
wrong_op = 7

-- event code not 1 to 7, or address not on the board
abbrev pub wrong_event : ℕ
wrong_event = 8

-- event clock below the one before it, or past the last clock
abbrev pub wrong_clock : ℕ
wrong_clock = 9

-- output shorter than the full result
abbrev pub no_room : ℕ
no_room = 10

-- clock step over 3
abbrev pub wrong_step : ℕ
wrong_step = 11

-- board value not sound
abbrev pub not_sound : ℕ
not_sound = 12

-- log length is not 325 times the list's record count
abbrev pub wrong_log_length : ℕ
wrong_log_length = 13

-- a saved level over 1 (document 02, E1)
abbrev pub wrong_level : ℕ
wrong_level = 16

-- text of a waveform that the writer never writes (document 02, E3)
abbrev pub wrong_text : ℕ
wrong_text = 18

-- each fault's number (document 01, "Which shape goes where": "For each case of the enum, the definition gives this paper's number and values")
abbrev pub number_of : Fault → ℕ
number_of WrongLength = wrong_length
number_of TooMany = too_many
number_of WrongField = wrong_field
number_of AddressUsed = address_used
number_of WrongRegisterSet = wrong_register_set
number_of WrongDefault = wrong_default
number_of WrongOp = wrong_op
number_of WrongEvent = wrong_event
number_of WrongClock = wrong_clock
number_of NoRoom = no_room
number_of WrongStep = wrong_step
number_of NotSound = not_sound
number_of WrongLogLength = wrong_log_length
number_of WrongLevel = wrong_level
number_of WrongText = wrong_text

-- the refusal that a fault of the record at an index is
abbrev pub refusal_at : Fault → ℕ → Refusal
refusal_at fault index = record { fault = fault; index = index }

-- the answer of every call: done with the bytes or records that there are, or refused with a number at an index
pub data Verdict : Type 0 where
  Done : ℕ → Verdict
  Refused : ℕ → ℕ → Verdict

-- what a call's result says
abbrev pub said : Result ℕ Refusal → Verdict
said (Ok n) = Done n
said (Err r) = Refused (number_of r.fault) r.index

-- and one that gives what refuses as the number itself
abbrev pub said_by_number : Result ℕ (ℕ × ℕ) → Verdict
said_by_number (Ok n) = Done n
said_by_number (Err r) = Refused r.0 r.1

-- what checks find of a record: it is good, and says this, or bad with a refusal's number
pub data Judged (A : Type 0) : Type 0 where
  Good : A → Judged A
  Bad : ℕ → Judged A

module _ {A : Type 0} where
  -- what a result says of a record
  abbrev pub judged : Result A Fault → Judged A
  judged (Ok a) = Good a
  judged (Err fault) = Bad (number_of fault)

  -- a record by the number that its checks find, 0 where it passes
  abbrev pub judged_by : ℕ → A → Judged A
  judged_by zero a = Good a
  judged_by (suc c) a = Bad (suc c)

  -- that number
  abbrev pub refusal_of : Judged A → ℕ
  refusal_of (Good a) = 0
  refusal_of (Bad c) = c

-- what checks find, where a good record says nothing more: a refusal's number, or 0
abbrev pub finding : Result (Unit {0}) Fault → ℕ
finding (Ok done) = 0
finding (Err fault) = number_of fault

-- "A refusal returns its number and the record's index from 0": of each answer its number, 0 for none, and its index
abbrev pub number : Verdict → ℕ
number (Done n) = 0
number (Refused c k) = c

abbrev pub index : Verdict → ℕ
index (Done n) = 0
index (Refused c k) = k

-- a check's finding: the number that it refuses with, or 0
abbrev pub ◌when◌ : ℕ → Bool → ℕ
◌when◌ c true = c
◌when◌ c false = 0

-- "each checked by rising number": the first finding counts
abbrev pub ◌else◌ : ℕ → ℕ → ℕ
◌else◌ zero d = d
◌else◌ (suc c) d = suc c

-- a finding at an index refuses; none lets the answer stand
abbrev pub refuse : ℕ → ℕ → Verdict → Verdict
refuse zero k v = v
refuse (suc c) k v = Refused (suc c) k

-- what comes next is asked only where what came before is done
abbrev pub and_then : Verdict → (ℕ → Verdict) → Verdict
and_then (Done n) next = next n
and_then (Refused c k) next = Refused c k
