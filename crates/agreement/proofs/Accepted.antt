-- The list's checks let a record through only with op 1 or 2 and with address and register that fit; its data fits by its bytes.
use Prim.Native.Nat.{ℕ, ◌+◌, ◌*◌, ◌^◌, ◌<◌}
use mathlib.Core.Path.{◌≡◌, refl}
use mathlib.Core.Bool.{Bool, true, false, ◌||◌}
use native.Mathlib.Omega.{arith}
use lib.Dec.{eqb, ltb}
use borrow.Author.Tests.{ltb-false, eqb-true, not-false}
use mathlib.Core.List.{List}
use Rattle.verdict.specs.Refusal.{Done, ◌when◌, ◌else◌}
use Rattle.verdict.specs.File.{byte_at, records}
use Rattle.verdict.specs.Lists.{All}
use Rattle.verdict.proofs.Lists.{all-tabulate}
use Rattle.frame.specs.declared.list.Transaction.{Transaction}
use Rattle.frame.specs.List.{list_record, is_read, transaction_at, zero_byte_at, fields_wrong, op_wrong, fault_of, record_fault, list_verdict, transactions}
use Rattle.frame.proofs.Lists.{accepted-list}
use Rattle.agreement.specs.Agrees.{Accepted}

neither : (a b : Bool) → (a || b) ≡ false → (a ≡ false) × (b ≡ false)
neither true b e = (e, cc)
neither false b e = (refl, e)

first_holds : (a b : Bool) → (a || b) ≡ true → b ≡ false → a ≡ true
first_holds true b e f = refl
first_holds false b e f = cc

neither-finds : (b d : Bool) → ((3 when b) else (7 when d)) ≡ 0 → (b ≡ false) × (d ≡ false)
neither-finds true d e = absurd (omega arith)
neither-finds false true e = absurd (omega arith)
neither-finds false false e = (refl, refl)

pub accepted : (t : Transaction) (zero_byte : ℕ) → fault_of t zero_byte ≡ 0 → t.«data» < 2 ^ 16 → Accepted t
accepted t zero_byte passes fits =
    let found = neither-finds (fields_wrong t zero_byte) (op_wrong t) passes in
    let fields = neither (ltb 31 t.address) _ found.0 in
    record {
      op = λ write. eqb-true t.op 1 (first_holds (eqb t.op 1) (is_read t) (not-false _ found.1) write);
      address = omega (arith, ltb-false 31 t.address fields.0);
      register = omega (arith, ltb-false 31 t.register (neither (ltb 31 t.register) _ fields.1).0);
      word = fits;
    }

-- the transactions of a list that the checks let through
pub accepted-all : (list : List ℕ) (n : ℕ) → list_verdict list ≡ Done n → ((i : ℕ) → byte_at list i < 256) → All Accepted (transactions list)
unfolding record_fault transaction_at
accepted-all list n passes bytes =
    let file = accepted-list list n passes in
    all-tabulate Accepted (records list_record list) (transaction_at list)
    (λ k within. accepted (transaction_at list k) (zero_byte_at list k)
    (file.all_pass k (omega (arith, file.count)))
    (omega (arith, bytes (k * 6 + 4), bytes (k * 6 + 4 + 1))))
