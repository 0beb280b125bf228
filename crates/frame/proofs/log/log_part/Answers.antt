-- Where the tests on k and on the log's length have passed, the part is the one that `has_part` names.
use Prim.Native.Nat.{ℕ, ◌+◌, ◌*◌, ◌-◌, ◌≤◌}
use mathlib.Core.Path.{◌≡◌, refl, ap, ap₂}
use mathlib.Core.Bool.{true}
use native.Mathlib.Omega.{arith}
use lib.ListN.{length, take, drop}
use borrow.Author.Tests.{le-leb}
use Rattle.frame.specs.Log.{has_part, log_part}
use Rattle.frame.proofs.log.log_part.Goals as goal

pub returns : goal.returns
unfolding log_part
returns c =
    let k = c.args.k in
    let log = c.args.log in
    let few : k ≤ 64 = omega arith in
    let long : k * 325 ≤ length log.now = omega arith in
    let part : has_part log.now k ≡ true = rw (le-leb 1 k c.if-k-lt1.false, le-leb k 64 few, le-leb _ _ long) in
    let size : k * 325 - (k * 325 - 325) ≡ 325 = omega arith in
    let start : k * 325 - 325 ≡ (k - 1) * 325 = omega arith in
    record {
      bytes = rw part (ap₂ (λ (n a : ℕ). take n (drop a log.now)) size start);
      block = refl;
      place = rw part (ap (λ a. a + log.ref_ptr.1) start);
    }
