-- The sentences of "Registers" and "Events" that are no definition line.
use Prim.Native.Nat.{ℕ, ◌≤◌, ◌<◌}
use mathlib.Core.Path.{◌≡◌, refl, sym, ap, ◌∙◌}
use mathlib.Core.Bool.{Bool, true, false, not, ◌&&◌, cond, and-false, true≢false}
use native.Mathlib.Omega.{arith}
use lib.ListN.{length}
use lib.Seq.{get_or-set_same}
use lib.Dec.{eqb}
use borrow.Author.Tests.{ne_eqb, le-leb}
use Rattle.verdict.specs.Bits.{bit}
use Rattle.phy.specs.declared.Phy.{Phy}
use Rattle.phy.specs.Abilities.{one}
use Rattle.phy.specs.Words.{clear_bit}
use Rattle.phy.specs.Own.{implements}
use Rattle.phy.specs.Fields.{register_of}
use Rattle.phy.specs.Registers.{in_reset, masked, held_after, read_status, after_read, write_by, after_write}
use Rattle.phy.specs.Events.{is_event, happening, event}
use Rattle.phy.proofs.Words.{pick-lt, set_other, clear-other, set_same, clear-same, bit-word_of}

cond_same : {A : Type 0} (t : Bool) (a : A) → cond t a a ≡ a
cond_same true a = refl
cond_same false a = refl

-- "Register 1 ignores writes."
pub status-ignores-writes : (word : ℕ) (phy : Phy) → after_write 1 word phy ≡ phy
unfolding after_write write_by
status-ignores-writes word phy = cond_same (implements 1 phy.own && not (in_reset phy)) phy

-- "In reset all writes are ignored"
pub reset-ignores-writes : (r word : ℕ) (phy : Phy) → in_reset phy ≡ true → after_write r word phy ≡ phy
unfolding after_write
reset-ignores-writes r word phy e = rw (e, and-false)

-- "In reset only 7 acts"
pub reset-ignores-events : (code : ℕ) (phy : Phy) → in_reset phy ≡ true → (code ≡ 7 → ⊥) → event code phy ≡ phy
unfolding event
reset-ignores-events code phy e n7 = rw (e, ne_eqb code 7 n7)

-- a number that is no event's changes nothing
apart : (code n : ℕ) → is_event code ≡ false → 1 ≤ n → n ≤ 7 → code ≡ n → ⊥
apart code n unknown from to e =
    let known : is_event n ≡ true = rw (le-leb 1 n from, le-leb n 7 to) in
    true≢false (sym known ∙ ap (λ (k : ℕ). is_event k) (sym e) ∙ unknown)

pub unknown_event : (code : ℕ) (phy : Phy) → is_event code ≡ false → event code phy ≡ phy
unfolding event happening
unknown_event code phy unknown =
    let none : (n : ℕ) → 1 ≤ n → n ≤ 7 → eqb code n ≡ false = λ n from to. ne_eqb code n (apart code n unknown from to) in
    rw (none 1 (omega arith) (omega arith), none 2 (omega arith) (omega arith), none 3 (omega arith) (omega arith), none 4 (omega arith) (omega arith), none 5 (omega arith) (omega arith), none 6 (omega arith) (omega arith), none 7 (omega arith) (omega arith))
    (cond_same (in_reset phy && true) phy)

-- "then 1.4 and 1.1 clear and 1.2 becomes the link's state": what register 1 holds after a status read. That the read returns it as it was is shown by `clock-header`
pub status-read : (phy : Phy) → 1 < length phy.registers → register_of 1 (after_read 1 phy) ≡ held_after phy.link (register_of 1 phy)
unfolding after_read read_status
status-read phy long = get_or-set_same phy.registers 1 (held_after phy.link (register_of 1 phy)) 0 long

pub held-fault : (link : Bool) (w : ℕ) → bit 4 (held_after link w) ≡ 0
held-fault true w = set_other 2 4 _ (omega arith) ∙ clear-other 1 4 _ (omega arith) ∙ clear-same 4 w
held-fault false w = clear-other 2 4 _ (omega arith) ∙ clear-other 1 4 _ (omega arith) ∙ clear-same 4 w

pub held-jabber : (link : Bool) (w : ℕ) → bit 1 (held_after link w) ≡ 0
held-jabber true w = set_other 2 1 _ (omega arith) ∙ clear-same 1 (clear_bit 4 w)
held-jabber false w = clear-other 2 1 _ (omega arith) ∙ clear-same 1 (clear_bit 4 w)

pub held_link : (link : Bool) (w : ℕ) → bit 2 (held_after link w) ≡ cond link 1 0
held_link true w = set_same 2 (clear_bit 1 (clear_bit 4 w))
held_link false w = clear-same 2 (clear_bit 1 (clear_bit 4 w))

pub held-others : (link : Bool) (w i : ℕ) → (i ≡ 4 → ⊥) → (i ≡ 2 → ⊥) → (i ≡ 1 → ⊥) → bit i (held_after link w) ≡ bit i w
held-others true w i n4 n2 n1 = set_other 2 i _ n2 ∙ clear-other 1 i _ n1 ∙ clear-other 4 i w n4
held-others false w i n4 n2 n1 = clear-other 2 i _ n2 ∙ clear-other 1 i _ n1 ∙ clear-other 4 i w n4

-- a read of any other register has no effect
pub other-read : (r : ℕ) (phy : Phy) → (r ≡ 1 → ⊥) → after_read r phy ≡ phy
unfolding after_read
other-read r phy n1 = rw (ne_eqb r 1 n1)

-- "Ordinary: masked bits take the data, others stay."
pub masked-bit : (mask old word i : ℕ) → i < 16 → bit i (masked mask old word) ≡ cond (one i mask) (bit i word) (bit i old)
unfolding masked
masked-bit mask old word = bit-word_of 16 (λ j. cond (one j mask) (bit j word) (bit j old)) (pick-lt mask old word)
