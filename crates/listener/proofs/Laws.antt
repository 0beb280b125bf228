-- What document 02 says of the listener beside its promise.
use Prim.Native.Nat.{ℕ, ◌*◌, ◌≤◌}
use mathlib.Core.Path.{◌≡◌}
use mathlib.Core.List.{List}
use native.Mathlib.Omega.{arith}
use lib.ListN.{length}
use borrow.Author.Tests.{le-ltb}
use Rattle.verdict.specs.Refusal.{said, Verdict, Done, wrong_level}
use Rattle.verdict.specs.declared.Refusal.{Refusal}
use Rattle.std.specs.Prelude.{Result}
use Rattle.verdict.proofs.Checks.{passed-bytes}
use Rattle.verdict.proofs.Outputs.{result-unique}
use Rattle.frame.specs.Answers.{answer_record}
use Rattle.listener.specs.Listening.{most_levels, largest_level, capture_verdict, records_in, listening, Listened}
use Rattle.listener.proofs.Frames.{most-records}

-- two results that meet the promise of `listen` are equal, as are the outputs
pub listen-unique : (capture out : List ℕ) {r s : Result ℕ Refusal} {out₁ out₂ : List ℕ} → Listened capture out (said r) out₁ → Listened capture out (said s) out₂ → (r ≡ s) × (out₁ ≡ out₂)
listen-unique capture out p q = result-unique p q

-- 390 bytes are room for every capture
pub room-for-all : (capture out : List ℕ) (n : ℕ) → capture_verdict capture ≡ Done n → 390 ≤ length out → listening capture out ≡ Done (length (records_in capture) * answer_record)
room-for-all capture out n accepted room =
    let few = most-records capture (passed-bytes most_levels largest_level wrong_level capture n accepted).few in
    rw (accepted, le-ltb (length out) (length (records_in capture) * answer_record) (omega (arith, few)))
