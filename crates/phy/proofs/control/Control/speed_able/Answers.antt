-- The mask of bits 6 and 13 says which speed is asked for.
use Rattle.phy.proofs.NewBits.{speed-eleven}
use native.Mathlib.Omega.{arith}
use Rattle.phy.proofs.NewBits.{speed-bits}
use Rattle.phy.proofs.control.Control.speed_able.Goals as goal

pub returns-in-0 : goal.returns-in-0
returns-in-0 c = let asked = speed-bits c.args.word 0 0 (omega arith) (omega arith) c.in-0.is in rw (asked.0, asked.1) c.ten.ensures

pub returns-in-8192 : goal.returns-in-8192
returns-in-8192 c = let asked = speed-bits c.args.word 0 1 (omega arith) (omega arith) c.in-8192.is in rw (asked.0, asked.1) c.hundred.ensures

pub returns-in-64 : goal.returns-in-64
returns-in-64 c = let asked = speed-bits c.args.word 1 0 (omega arith) (omega arith) c.in-64.is in rw (asked.0, asked.1) c.thousand.ensures

pub returns-in_default : goal.returns-in_default
returns-in_default c = let asked = speed-eleven c.args.word (omega arith) (omega arith) (omega arith) in rw (asked.0, asked.1)
