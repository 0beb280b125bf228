-- A fault is known by its number, and what is said of a result fixes it.
use Prim.Native.Nat.{ℕ}
use mathlib.Core.Path.{◌≡◌, refl, ap, sym, ◌∙◌}
use mathlib.Core.Bool.{cond}
use lib.Dec.{eqb}
use native.Mathlib.Omega.{arith}
use Rattle.std.specs.Prelude.{Result, Ok, Err}
use Rattle.verdict.specs.declared.Fault.{Fault}
use Rattle.verdict.specs.declared.Fault.TheVariants.{WrongLength, TooMany, WrongField, AddressUsed, WrongRegisterSet, WrongDefault, WrongOp, WrongEvent, WrongClock, NoRoom, WrongStep, NotSound, WrongLogLength, WrongLevel, WrongText}
use Rattle.verdict.specs.declared.Refusal.{Refusal}
use Rattle.verdict.specs.Refusal.{said_by_number, number_of, refusal_at, Verdict, Done, Refused, said, Judged, Good, Bad, judged}

-- every fault has a number that refuses
pub some_number : (fault : Fault) → number_of fault ≡ 0 → ⊥
some_number WrongLength e = omega arith
some_number TooMany e = omega arith
some_number WrongField e = omega arith
some_number AddressUsed e = omega arith
some_number WrongRegisterSet e = omega arith
some_number WrongDefault e = omega arith
some_number WrongOp e = omega arith
some_number WrongEvent e = omega arith
some_number WrongClock e = omega arith
some_number NoRoom e = omega arith
some_number WrongStep e = omega arith
some_number NotSound e = omega arith
some_number WrongLogLength e = omega arith
some_number WrongLevel e = omega arith
some_number WrongText e = omega arith

-- the fault that has a number; of one that no fault has, the last
abbrev fault_numbered : ℕ → Fault
fault_numbered n =
    cond (eqb n 1) WrongLength
    (cond (eqb n 2) TooMany
    (cond (eqb n 3) WrongField
    (cond (eqb n 4) AddressUsed
    (cond (eqb n 5) WrongRegisterSet
    (cond (eqb n 6) WrongDefault
    (cond (eqb n 7) WrongOp
    (cond (eqb n 8) WrongEvent
    (cond (eqb n 9) WrongClock
    (cond (eqb n 10) NoRoom
    (cond (eqb n 11) WrongStep
    (cond (eqb n 12) NotSound
    (cond (eqb n 13) WrongLogLength
    (cond (eqb n 16) WrongLevel
    WrongText)))))))))))))

by_number : (fault : Fault) → fault_numbered (number_of fault) ≡ fault
by_number WrongLength = refl
by_number TooMany = refl
by_number WrongField = refl
by_number AddressUsed = refl
by_number WrongRegisterSet = refl
by_number WrongDefault = refl
by_number WrongOp = refl
by_number WrongEvent = refl
by_number WrongClock = refl
by_number NoRoom = refl
by_number WrongStep = refl
by_number NotSound = refl
by_number WrongLogLength = refl
by_number WrongLevel = refl
by_number WrongText = refl

-- two faults of one number are one fault
pub one_fault : (one other : Fault) → number_of one ≡ number_of other → one ≡ other
one_fault one other same = sym (by_number one) ∙ ap fault_numbered same ∙ by_number other

-- the result that says a verdict
abbrev result_saying : Verdict → Result ℕ Refusal
result_saying (Done n) = Ok n
result_saying (Refused c k) = Err (refusal_at (fault_numbered c) k)

back : (result : Result ℕ Refusal) → result_saying (said result) ≡ result
back (Ok n) = refl
back (Err r) = ap (λ fault. Err (refusal_at fault r.index)) (by_number r.fault)

-- two results that say the same are one result: a promise of what a result says fixes it
pub one_result : (one other : Result ℕ Refusal) → said one ≡ said other → one ≡ other
one_result one other same = sym (back one) ∙ ap result_saying same ∙ back other

-- and so of one that gives what refuses as the number itself
abbrev numbered_saying : Verdict → Result ℕ (ℕ × ℕ)
numbered_saying (Done n) = Ok n
numbered_saying (Refused c k) = Err (c, k)

back_numbered : (result : Result ℕ (ℕ × ℕ)) → numbered_saying (said_by_number result) ≡ result
back_numbered (Ok n) = refl
back_numbered (Err r) = refl

pub one_by_number : (one other : Result ℕ (ℕ × ℕ)) → said_by_number one ≡ said_by_number other → one ≡ other
one_by_number one other same = sym (back_numbered one) ∙ ap numbered_saying same ∙ back_numbered other

-- and so of what checks find
module _ {A : Type 0} where
  abbrev found_saying : Judged A → Result A Fault
  found_saying (Good a) = Ok a
  found_saying (Bad number) = Err (fault_numbered number)

  back_judged : (result : Result A Fault) → found_saying (judged result) ≡ result
  back_judged (Ok a) = refl
  back_judged (Err fault) = ap Err (by_number fault)

  pub one_judged : (one other : Result A Fault) → judged one ≡ judged other → one ≡ other
  one_judged one other same = sym (back_judged one) ∙ ap found_saying same ∙ back_judged other
