-- Transaction by transaction: after k turns the output begins with the first k parts.
use Prim.Native.Nat.{ℕ, suc, ◌+◌, ◌*◌, ◌-◌, ◌≤◌, ◌<◌}
use mathlib.Core.Path.{◌≡◌, ap, sym, ◌∙◌}
use mathlib.Core.List.{List}
use native.Mathlib.Omega.{arith}
use native.Mathlib.Nat.{mul-le-mul, mul-le-mul_right, suc-mul, zero-mul}
use lib.ListN.{length, take, drop, length-take, length-drop}
use borrow.Author.Rules.{rules}
use borrow.Author.Tests.{le-ltb}
use Rattle.verdict.specs.Output.{tabulate, join}
use Rattle.verdict.proofs.Outputs.{succeeds, pieced, piece-next, pieced-all}
use Rattle.frame.proofs.Lists.{good-is-own, accepted-list, accepted-not-bad}
use Rattle.frame.proofs.parts.put_each.Goals as goal

-- an output with room for all has a part for each
part-length : (out : List ℕ) (k count width : ℕ) → k < count → count * width ≤ length out → length (take (k * width + width - k * width) (drop (k * width) out)) ≡ width
part-length out k count width among room =
    let next : suc k * width ≤ count * width = mul-le-mul_right width among in
    let place : suc k * width ≡ k * width + width = suc-mul k width in
    simp (length-take, length-drop) (omega arith)

pub overflow_mul-count : goal.overflow_mul-count
overflow_mul-count g c =
    let few : c.args.count ≤ 64 = (accepted-list _ _ c.requires.accepted).allowed in
    let most : c.args.count * c.args.width ≤ 64 * 65 = mul-le-mul few c.requires.narrow in
    search rules

pub loop-k-init : goal.loop-k-init
unfolding tabulate join
loop-k-init g c = λ piece puts. rw zero-mul

pub returns-in_default : goal.returns-in_default
returns-in_default g c = absurd (accepted-not-bad _ _ c.requires.accepted _ _ (search rules) (sym c.in_default.ensures))

pub put-requires : goal.put-requires
put-requires g c =
    let sent = good-is-own c.args.list.now c.loop-k.k _ (sym c.in-Ok.ensures) in
    c.requires.takes c.loop-k.k _ _ (search rules) sent (part-length c.loop-k.out c.loop-k.k c.args.count c.args.width (omega arith) (omega arith))

pub loop-k-preserved : goal.loop-k-preserved
loop-k-preserved g c = λ piece puts.
    let sent = good-is-own c.args.list.now c.loop-k.k _ (sym c.in-Ok.ensures) in
    let left = puts.leaves c.loop-k.k _ _ _ sent (part-length c.loop-k.out c.loop-k.k c.args.count c.args.width (omega arith) (omega arith)) c.put.ensures in
    rw (left, c.loop-k.invariant piece puts) (piece-next c.args.width piece puts.size c.args.out.now c.loop-k.k)

pub returns : goal.returns
returns g c = λ piece puts.
    let all : c.loop-k.k ≡ c.args.count = search rules in
    succeeds {out' = c.loop-k.out} (rw (le-ltb _ _ c.if-out-count.false))
    (c.loop-k.invariant piece puts
    ∙ ap (pieced c.args.width piece c.args.out.now) all
    ∙ pieced-all c.args.width piece puts.size c.args.out.now c.args.count)
