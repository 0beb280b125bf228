-- A read more puts its bytes behind those that are there.
use Rattle.std.proofs.Common.{◌≡◌, ℕ, ◌+◌, ◌≤◌, List, ◌++◌, rules, length, take, sym, ap, ap₂, ◌∙◌, subst, le_refl, drop_at, length-take-le}
use Rattle.std.proofs.lemmas.Slice.{take-put_mid_below}
use Rattle.std.proofs.KnownBytes.{Consumes-trans}
use Rattle.std.specs.Io.KnownBytes.{Consumes}
use borrow.Rule.Slice.PartMut.{put_mid, post_of}
use lib.Seq.{take-add, take-append-le}
use Rattle.verdict.proofs.read_full.Goals as goal

put_behind : (a k n : ℕ) (xs ys : List ℕ) → a ≤ length xs → n ≤ length ys → take (a + n) (put_mid a k xs ys) ≡ take a xs ++ take n ys
put_behind a k n xs ys within fits =
    let after = post_of a k xs in
    let behind = ap (take n) (drop_at (take a xs) (ys ++ after) a (length-take-le a xs within)) ∙ take-append-le n ys after fits in
    take-add a n (put_mid a k xs ys) ∙ ap₂ ◌++◌ (take-put_mid_below a k xs ys a (le_refl a) within) behind

pub loop-done-preserved : goal.loop-done-preserved
loop-done-preserved g c =
    let more = c.read_some-more in
    let held = c.loop-done.invariant in
    let joined = put_behind c.loop-done.done _ more.result c.loop-done.buffer more.new.buffer held.within more.ensures.within in
    record {
      within = search rules;
      bytes = subst (Consumes _ _) (sym joined) (Consumes-trans _ _ _ _ _ held.bytes more.ensures.bytes);
    }
