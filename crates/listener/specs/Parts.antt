-- What the parts of `listen` promise each other, of what is left of a capture.
use Rattle.std.specs.Prelude.{ℕ, List, eqb}
use Rattle.std.specs.List.{fold}
use Rattle.wire.specs.declared.Follower.{Follower}
use Rattle.wire.specs.declared.Follower.TheVariants.{Inside}
use Rattle.wire.specs.Follower.{one_more}
use Rattle.listener.specs.Frames.{at_first, frames_from}
use Rattle.listener.specs.Listening.{levels_in}

-- the frames that are heard whole in it, by a listener that hunts as at first
unfoldable pub frames_in : List ℕ → List ℕ
frames_in capture = frames_from at_first (levels_in capture)

-- a listener that has just heard the 0 of a start
abbrev pub started : Follower
started = Inside 1 0

-- and the frames that such a one hears
unfoldable pub frames_started : List ℕ → List ℕ
frames_started capture = frames_from started (levels_in capture)

-- the number that the bits of a frame behind its first 0 say
abbrev pub frame_of : List ℕ → ℕ
frame_of capture = fold (λ bits byte. one_more bits (eqb byte 1)) 0 capture
