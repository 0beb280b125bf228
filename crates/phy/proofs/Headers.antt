-- Who a header is for: op 2 and op 1 exclude each other, a foreign header has another start, and an own one goes to an address that is taken.
use Prim.Native.Nat.{ℕ, ◌*◌, ◌+◌, ◌/◌, ◌%◌, ◌^◌}
use mathlib.Core.Path.{◌≡◌, refl, ap, ap₂}
use mathlib.Core.Bool.{Bool, true, false, ◌&&◌, and-false}
use native.Mathlib.Omega.{arith}
use lib.Dec.{eqb}
use borrow.Author.Tests.{eq-eqb, eqb-true, ne_eqb}
use Rattle.wire.specs.declared.Header.{Header}
use Rattle.wire.specs.Follower.{one_more, header_of, header_seen}
use Rattle.phy.specs.declared.own.Own.{Own}
use Rattle.phy.specs.declared.Phy.{Phy}
use Rattle.phy.specs.Own.{takes, is_own, implements, answers, stores}
use Rattle.phy.specs.Clock.{after_header, after_frame}
use Rattle.phy.proofs.Every.{both}

-- A PHY takes its own address, and no other. What else is shown of frames rests on these two and not on the text of `takes`
pub takes-own : (own : Own) → takes own.address own ≡ true
unfolding takes
takes-own own = eq-eqb own.address own.address refl

pub taken_own : (address : ℕ) (own : Own) → takes address own ≡ true → address ≡ own.address
unfolding takes
taken_own address own taken = eqb-true address own.address taken

module _ (header : Header) (own : Own) where
  -- an own header goes to an address that is taken
  own-taken : (op : ℕ) → is_own op header own ≡ true → takes header.address own ≡ true
  own-taken op is =
      let taken = takes header.address own in
      (both (eqb header.op op) taken (both (eqb header.start 1) (eqb header.op op && taken) is).1).1

  -- so whoever answers it takes that address, and so does whoever stores by it
  pub answers-taken : answers header own ≡ true → takes header.address own ≡ true
  unfolding answers
  answers-taken does = own-taken 2 (both (is_own 2 header own) (implements header.register own) does).0

  pub stores-taken : stores header own ≡ true → takes header.address own ≡ true
  unfolding stores
  stores-taken does = own-taken 1 does

  -- a header that is not own is neither answered nor stored by
  pub unanswered : is_own 2 header own ≡ false → answers header own ≡ false
  unfolding answers
  unanswered other = rw other

  pub unstored : is_own 1 header own ≡ false → stores header own ≡ false
  unfolding stores
  unstored other = other

  other-op : (op : ℕ) → (header.op ≡ op → ⊥) → is_own op header own ≡ false
  other-op op n = rw (ne_eqb header.op op n) (and-false (eqb header.start 1))

  other-start : (op : ℕ) → (header.start ≡ 1 → ⊥) → is_own op header own ≡ false
  other-start op n = rw (ne_eqb header.start 1 n)

  -- nobody answers a write header, nor any op but 2; nobody stores by a read header, nor by any op but 1
  pub answers-reads-only : (header.op ≡ 2 → ⊥) → answers header own ≡ false
  answers-reads-only n2 = unanswered (other-op 2 n2)

  pub stores-writes-only : (header.op ≡ 1 → ⊥) → stores header own ≡ false
  stores-writes-only n1 = unstored (other-op 1 n1)

  -- nor does anybody by one that does not start 01
  pub foreign-unanswered : (header.start ≡ 1 → ⊥) → answers header own ≡ false
  foreign-unanswered foreign = unanswered (other-start 2 foreign)

  pub foreign-unstored : (header.start ≡ 1 → ⊥) → stores header own ≡ false
  foreign-unstored foreign = unstored (other-start 1 foreign)

-- start, op and address do not go by a header's last bit, so whether it is own is known before that bit
pub same-header : (bits : ℕ) (level : Bool) (op : ℕ) (own : Own)
    → is_own op (header_seen 14 (one_more bits level)) own ≡ is_own op (header_seen 14 (one_more bits false)) own
unfolding header_of
same-header bits false op own = refl
same-header bits true op own =
    let m = bits % 2 ^ 31 in
    let s : (m * 2 + 1) / 2 ^ 0 / 2 ^ 12 ≡ (m * 2) / 2 ^ 0 / 2 ^ 12 = omega arith in
    let o : (m * 2 + 1) / 2 ^ 0 / 2 ^ 10 ≡ (m * 2) / 2 ^ 0 / 2 ^ 10 = omega arith in
    let a : (m * 2 + 1) / 2 ^ 0 / 2 ^ 5 ≡ (m * 2) / 2 ^ 0 / 2 ^ 5 = omega arith in
    ap₂ ◌&&◌ (ap (λ x. eqb (x % 4) 1) s) (ap₂ (λ x y. eqb (x % 4) op && takes (y % 32) own) o a)

-- what is not answered has no effect at its header, and what is not stored by none at its frame's end
module _ (header : Header) (phy : Phy) where
  pub after_header-silent : answers header phy.own ≡ false → after_header header phy ≡ phy
  unfolding after_header
  after_header-silent silent = rw silent

  pub after_frame-silent : (word : ℕ) → stores header phy.own ≡ false → after_frame header word phy ≡ phy
  unfolding after_frame
  after_frame-silent word silent = rw silent

-- a write does nothing at its header, and a read nothing at its frame's end
pub write-header : (header : Header) (phy : Phy) → header.op ≡ 1 → after_header header phy ≡ phy
write-header header phy e = after_header-silent header phy (answers-reads-only header phy.own (λ n. omega arith))

pub read-frame : (header : Header) (word : ℕ) (phy : Phy) → header.op ≡ 2 → after_frame header word phy ≡ phy
read-frame header word phy e = after_frame-silent header phy word (stores-writes-only header phy.own (λ n. omega arith))
