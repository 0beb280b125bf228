-- Document 01, "Records": "List, 6 bytes, 0 to 64: op (1 write, 2 read), PHY address, register, a zero byte, data (2 bytes, zero for a read)."
use Rattle.std.specs.Prelude.{ℕ, ◌+◌, ◌*◌, Bool, not, ◌&&◌, ◌||◌, List, eqb, ltb}
use Rattle.verdict.specs.Refusal.{Verdict, Judged, judged_by, wrong_field, wrong_op, ◌when◌, ◌else◌}
use Rattle.verdict.specs.File.{byte_at, word_at, records, file_verdict}
use Rattle.verdict.specs.Output.{tabulate}
use Rattle.frame.specs.declared.list.Transaction.{Transaction}

abbrev pub list_record : ℕ
list_record = 6

abbrev pub most_transactions : ℕ
most_transactions = 64

abbrev pub write : ℕ
write = 1

abbrev pub read : ℕ
read = 2

abbrev pub is_read : Transaction → Bool
is_read t = eqb t.op read

-- the transaction of the record at index k
unfoldable pub transaction_at : List ℕ → ℕ → Transaction
transaction_at list k =
    record {
      op = byte_at list (k * list_record);
      address = byte_at list (k * list_record + 1);
      register = byte_at list (k * list_record + 2);
      «data» = word_at list (k * list_record + 4);
    }

-- the zero byte of the record at index k
abbrev pub zero_byte_at : List ℕ → ℕ → ℕ
zero_byte_at list k = byte_at list (k * list_record + 3)

-- 3: "PHY address or register over 31, a zero byte not zero, a read with data"
abbrev pub fields_wrong : Transaction → ℕ → Bool
fields_wrong t zero_byte =
    ltb 31 t.address || (ltb 31 t.register || (not (eqb zero_byte 0) || (is_read t && not (eqb t.«data» 0))))

-- 7: "op not 1 or 2"
abbrev pub op_wrong : Transaction → Bool
op_wrong t = not (eqb t.op write || is_read t)

-- what the checks find of a record, by rising number; 0 where it passes
abbrev pub fault_of : Transaction → ℕ → ℕ
fault_of t zero_byte = (wrong_field when fields_wrong t zero_byte) else (wrong_op when op_wrong t)

unfoldable pub record_fault : List ℕ → ℕ → ℕ
record_fault list k = fault_of (transaction_at list k) (zero_byte_at list k)

-- a record is a good transaction, or bad with a refusal's number
unfoldable pub parsed : List ℕ → ℕ → Judged Transaction
parsed list k = judged_by (record_fault list k) (transaction_at list k)

-- the list file's checks: 1, 2, then its records in order by 3 and 7
abbrev pub list_verdict : List ℕ → Verdict
list_verdict list = file_verdict list_record most_transactions (record_fault list) list

-- the transactions of a list, in order
abbrev pub transactions : List ℕ → List Transaction
transactions list = tabulate (records list_record list) (transaction_at list)
