-- Place by place: after i turns the first i addresses stand.
use Prim.Native.Nat.{ℕ}
use mathlib.Core.Path.{◌≡◌, refl, sym, ◌∙◌}
use mathlib.Core.List.{append-nil}
use native.Mathlib.Omega.{arith}
use lib.ListN.{length, length-map, get_or-map}
use borrow.Author.Rules.{rules}
use Rattle.verdict.proofs.Lists.{tabulate-of}
use Rattle.verdict.proofs.Outputs.{fill}
use Rattle.phy.specs.declared.Phy.{Phy}
use Rattle.phy.specs.Sound.{nowhere}
use Rattle.board.specs.Record.{addresses_of}
use Rattle.board.proofs.events.addresses_of.Goals as goal

pub loop-i-preserved : goal.loop-i-preserved
loop-i-preserved c =
    let loop = c.loop-i in
    fill _ _ loop.address-items loop.i _ (omega arith) loop.invariant refl

pub returns : goal.returns
returns c =
    let board = c.args.board in
    let loop = c.loop-i in
    let places : length board.phys ≡ 32 = search rules in
    let all : loop.i ≡ 32 = omega arith in
    let address : Phy → ℕ = λ phy. phy.own.address in
    loop.invariant ∙ rw (all, append-nil) (sym (tabulate-of 32 _ (addresses_of board.phys) 0 (length-map board.phys address ∙ places) (λ i l. get_or-map address board.phys i nowhere)))
