-- A frame takes 64 clocks, 32 ones and 32 bits, so few fit in a capture.
use Prim.Native.Nat.{ℕ, ◌+◌, ◌*◌, ◌≤◌, min}
use mathlib.Core.Path.{◌≡◌, refl, ap, ◌∙◌}
use mathlib.Core.Bool.{Bool, true, false, ◌&&◌, cond}
use mathlib.Core.List.{List, [], ◌∷◌, ◌++◌, map, map-append}
use native.Mathlib.Omega.{arith}
use lib.ListN.{length, length-append, length-map}
use lib.Dec.{leb, eqb}
use borrow.Author.Tests.{leb-true}
use Rattle.verdict.specs.Output.{join}
use Rattle.verdict.proofs.Lists.{join-append}
use Rattle.frame.specs.Answers.{answer_by}
use Rattle.wire.specs.declared.Follower.{Follower}
use Rattle.wire.specs.declared.Follower.TheVariants.{Hunting, Inside}
use Rattle.wire.specs.Follower.{one_more, follow}
use Rattle.listener.specs.Frames.{enough, at_first, frames_ending, frames_from}
use Rattle.listener.specs.Records.{transaction_in, turnaround_in, starts_right, is_ours, records_of, records_of_all}
use Rattle.listener.specs.Listening.{most_levels, levels_in, records_in}
use Rattle.listener.specs.Parts.{frames_in}

pub records-append : (a b : List ℕ) → records_of_all (a ++ b) ≡ records_of_all a ++ records_of_all b
records-append a b = ap join (map-append records_of a b) ∙ join-append (map records_of a) (map records_of b)

-- the clocks of the next frame that a follower has behind it, of 64
abbrev behind : Follower → ℕ
behind (Hunting ones) = min ones 32
behind (Inside seen bits) = 32 + seen

-- a clock brings it on by one at most, and a frame that ends spends all 64
spends : (level : Bool) (f : Follower) → 64 * length (frames_ending level f) + behind (follow enough level f) ≤ behind f + 1
unfolding follow
spends true (Hunting ones) = omega arith
spends false (Hunting ones) = go (leb 32 ones) refl
  where
    go : (b : Bool) → leb 32 ones ≡ b → 0 + behind (cond b (Inside 1 0) (Hunting 0)) ≤ min ones 32 + 1
    go true e = omega (arith, leb-true 32 ones e)
    go false e = omega arith
spends level (Inside seen bits) = go (leb 31 seen) refl
  where
    go : (ends : Bool) → leb 31 seen ≡ ends →
        64 * length (cond ends (one_more bits level ∷ []) []) + behind (cond ends (Hunting 0) (Inside (seen + 1) (one_more bits level))) ≤ 32 + seen + 1
    go true e = omega (arith, leb-true 31 seen e)
    go false e = omega arith

frames-few : (f : Follower) (levels : List Bool) → 64 * length (frames_from f levels) ≤ behind f + length levels
unfolding frames_from
frames-few f [] = omega arith
frames-few f (level ∷ levels) =
    omega (arith, spends level f, frames-few (follow enough level f) levels, length-append (frames_ending level f) (frames_from (follow enough level f) levels))

-- a frame gives one record at most
one-record : (frame : ℕ) → length (records_of frame) ≤ 1
unfolding records_of
one-record frame = go (starts_right frame && is_ours (transaction_in frame))
  where
    go : (b : Bool) → length (cond b (answer_by (transaction_in frame) (turnaround_in frame) (transaction_in frame).«data» ∷ []) []) ≤ 1
    go true = omega arith
    go false = omega arith

records-few : (frames : List ℕ) → length (records_of_all frames) ≤ length frames
unfolding join
records-few [] = omega arith
records-few (frame ∷ frames) = omega (arith, one-record frame, records-few frames, length-append (records_of frame) (records_of_all frames))

-- so 64 clocks are gone for each record, and "up to 4,160" levels hold 65 at most
pub clocks-gone : (capture : List ℕ) → 64 * length (records_in capture) ≤ length capture
unfolding records_in
clocks-gone capture =
    let levels = levels_in capture in
    omega (arith, records-few (frames_from at_first levels), frames-few at_first levels, length-map capture (λ byte. eqb byte 1))

pub most-records : (capture : List ℕ) → length capture ≤ most_levels → length (records_in capture) ≤ 65
most-records capture few = omega (arith, clocks-gone capture)

-- so does each frame that is heard, whatever it says
pub frames-gone : (capture : List ℕ) → 64 * length (frames_in capture) ≤ length capture
unfolding frames_in
frames-gone capture = omega (arith, frames-few at_first (levels_in capture), length-map capture (λ byte. eqb byte 1))
