-- Document 01, "Records": "All files are records of one fixed size with no header, numbers high byte first."
use Rattle.std.specs.Prelude.{ℕ, zero, suc, ◌+◌, ◌*◌, ◌/◌, ◌%◌, not, List, length, get_or, eqb, ltb}
use Rattle.verdict.specs.Refusal.{Verdict, Done, wrong_length, too_many, ◌when◌, refuse}

-- a file's bytes; past the end a byte reads 0
abbrev pub byte_at : List ℕ → ℕ → ℕ
byte_at file i = get_or file i 0

-- a number of two bytes, high byte first
abbrev pub word_at : List ℕ → ℕ → ℕ
word_at file i = byte_at file i * 256 + byte_at file (i + 1)

-- how many whole records of a size a file has
abbrev pub records : ℕ → List ℕ → ℕ
records size file = length file / size

-- "In a file: 1, 2": a whole number of records, and no more than allowed; done says how many there are. Of size 0 there are none.
unfoldable pub counting : ℕ → ℕ → List ℕ → Verdict
counting zero most file = Done 0
counting (suc size) most file =
    refuse (wrong_length when not (eqb (length file % suc size) 0)) 0
    (refuse (too_many when ltb most (records (suc size) file)) 0
    (Done (records (suc size) file)))

-- "records in order": the records from index k on, of which there are `left`; `fault` is what the checks find of a record
unfoldable pub in_order : (ℕ → ℕ) → ℕ → ℕ → Verdict → Verdict
in_order fault k zero v = v
in_order fault k (suc left) v = refuse (fault k) k (in_order fault (suc k) left v)

-- "In a file: 1, 2, then records in order"; done says how many records there are
unfoldable pub file_verdict : ℕ → ℕ → (ℕ → ℕ) → List ℕ → Verdict
file_verdict size most fault file =
    refuse (wrong_length when not (eqb (length file % size) 0)) 0
    (refuse (too_many when ltb most (records size file)) 0
    (in_order fault 0 (records size file) (Done (records size file))))

-- a file of single bytes: what the check finds of the byte at index k, which must not be over the largest
abbrev pub byte_fault : ℕ → ℕ → List ℕ → ℕ → ℕ
byte_fault largest number file k = number when ltb largest (byte_at file k)

-- and its checks: 2, then that number at the first byte over the largest; done says how many bytes there are
unfoldable pub bytes_verdict : ℕ → ℕ → ℕ → List ℕ → Verdict
bytes_verdict most largest number file =
    refuse (too_many when ltb most (length file)) 0
    (in_order (byte_fault largest number file) 0 (length file) (Done (length file)))
