-- The numbers that document 01 gives, computed from the definitions that the promises cite.
use Prim.Native.Nat.{ℕ}
use mathlib.Core.Path.{◌≡◌, refl}
use lib.Dec.{eqb}
use Rattle.verdict.specs.Bits.{bit}
use Rattle.frame.specs.Frame.{preamble}
use Rattle.wire.specs.declared.Drive.TheVariants.{Driven}
use Rattle.wire.specs.Follower.{answering}
use Rattle.wire.specs.Machines.{before_reads, before_writes}

-- "transaction k reads in clock 65(k-1)+46 or stores in 65(k-1)+64": so many clocks come before
pub reads-in-46 : before_reads preamble ≡ 45
reads-in-46 = refl

pub stores-in-64 : before_writes preamble ≡ 63
stores-in-64 = refl

-- "the word for bits 17 to 32": with 16 bits seen its high bit, with 31 seen its low bit
pub high-bit-first : (word : ℕ) → answering 16 word ≡ Driven (eqb (bit 15 word) 1)
unfolding answering
high-bit-first word = refl

pub low-bit-last : (word : ℕ) → answering 31 word ≡ Driven (eqb (bit 0 word) 1)
unfolding answering
low-bit-last word = refl
