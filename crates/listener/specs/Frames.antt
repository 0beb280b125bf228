-- The frames that are heard whole. Document 02, E1: the listener "starts with 0 ones, hunts with 32 and follows frames as a PHY does".
use Rattle.std.specs.Prelude.{ℕ, ◌-◌, Bool, cond, List, [], ◌∷◌, ◌++◌, leb}
use Rattle.frame.specs.Frame.{frame_bits}
use Rattle.wire.specs.declared.Follower.{Follower}
use Rattle.wire.specs.declared.Follower.TheVariants.{Hunting, Inside}
use Rattle.wire.specs.Follower.{one_more, follow}

-- the ones that let a 0 start a frame, and the follower before the first level
abbrev pub enough : ℕ
enough = 32

abbrev pub at_first : Follower
at_first = Hunting 0

-- the frame that a level ends, as the number that its 32 bits say; "one cut off at the end" is ended by none
abbrev pub frames_ending : Bool → Follower → List ℕ
frames_ending level (Hunting ones) = []
frames_ending level (Inside seen bits) = cond (leb (frame_bits - 1) seen) (one_more bits level ∷ []) []

-- the frames that levels end, from a follower on
unfoldable pub frames_from : Follower → List Bool → List ℕ
frames_from follower [] = []
frames_from follower (level ∷ levels) = frames_ending level follower ++ frames_from (follow enough level follower) levels
