-- One clock of a capture: what is heard behind it, and how the follower's kind tells whether it started or ended a frame.
use Prim.Native.Nat.{ℕ, ◌+◌, ◌≤◌, ◌<◌}
use mathlib.Core.Path.{◌≡◌, refl, ap, ap₂, sym, ◌∙◌}
use mathlib.Core.Bool.{Bool, true, false, cond}
use mathlib.Core.List.{List, [], ◌∷◌, ◌++◌}
use native.Mathlib.Omega.{arith}
use native.Mathlib.Numerals.{add-one}
use lib.ListN.{length, get_or, drop, drop_of_length-le}
use lib.Seq.{drop-cons}
use lib.Dec.{leb, eqb}
use Rattle.wire.specs.declared.Follower.{Follower}
use Rattle.wire.specs.declared.Follower.TheVariants.{Hunting, Inside}
use Rattle.wire.specs.Follower.{one_more, follow}
use Rattle.listener.specs.Frames.{enough, at_first, frames_ending, frames_from}
use Rattle.listener.specs.Listening.{levels_in}
use Rattle.listener.specs.Parts.{frames_in, frames_started, started}

-- the level of the clock behind i others
abbrev level : List ℕ → ℕ → Bool
level capture i = eqb (get_or capture i 0) 1

-- the frames that the levels behind so many clocks end, for a listener with this follower
unfoldable pub frames_behind : List ℕ → Follower → ℕ → List ℕ
frames_behind capture follower i = frames_from follower (levels_in (drop i capture))

module _ (capture : List ℕ) (follower : Follower) (i : ℕ) where
  pub nothing-behind : length capture ≤ i → frames_behind capture follower i ≡ []
  unfolding frames_behind frames_from
  nothing-behind past = ap (λ rest. frames_from follower (levels_in rest)) (drop_of_length-le capture past)

  pub next-clock : i < length capture →
      frames_behind capture follower i ≡ frames_ending (level capture i) follower ++ frames_behind capture (follow enough (level capture i) follower) (i + 1)
  unfolding frames_behind frames_from
  next-clock more =
      ap (λ rest. frames_from follower (levels_in rest)) (drop-cons capture i 0 more)
      ∙ ap (λ k. frames_ending (level capture i) follower ++ frames_from (follow enough (level capture i) follower) (levels_in (drop k capture))) (sym (add-one i))

-- a follower is of one kind
never : {A : Type 0} {n seen bits : ℕ} → Hunting n ≡ Inside seen bits → A
never e = absurd (let z : ◌≡◌ {A = ℕ} 0 1 = cc in omega arith)

-- a listener that hunts and finds itself inside a frame has heard the 0 of its start
pub now-started : (level : Bool) (ones seen bits : ℕ) → follow enough level (Hunting ones) ≡ Inside seen bits → follow enough level (Hunting ones) ≡ started
unfolding follow
now-started true ones seen bits e = never e
now-started false ones seen bits e = go (leb enough ones) e
  where
    go : (b : Bool) → cond b (Inside 1 0) (Hunting 0) ≡ Inside seen bits → cond b (Inside 1 0) (Hunting 0) ≡ started
    go true e = refl
    go false e = never e

module _ (level : Bool) (seen bits : ℕ) where
  -- one inside a frame that finds itself hunting hunts as at first
  pub now-hunting : (ones : ℕ) → follow enough level (Inside seen bits) ≡ Hunting ones → follow enough level (Inside seen bits) ≡ at_first
  unfolding follow
  now-hunting ones e = go (leb 31 seen) e
    where
      go : (ends : Bool) → let next = cond ends (Hunting 0) (Inside (seen + 1) (one_more bits level)) in next ≡ Hunting ones → next ≡ at_first
      go true e = refl
      go false e = never (sym e)

  -- and while it is inside, no frame has ended
  pub none-ended : (seen' bits' : ℕ) → follow enough level (Inside seen bits) ≡ Inside seen' bits' → frames_ending level (Inside seen bits) ≡ []
  unfolding follow
  none-ended seen' bits' e = go (leb 31 seen) e
    where
      go : (ends : Bool) → cond ends (Hunting 0) (Inside (seen + 1) (one_more bits level)) ≡ Inside seen' bits' → cond ends (one_more bits level ∷ []) [] ≡ []
      go true e = never e
      go false e = refl

-- a listener that hunts has lost nothing of what is heard
pub record Hunts (capture : List ℕ) (follower : Follower) (i : ℕ) : Type 0 where
  pub ones : ℕ
  pub hunting : follower ≡ Hunting ones
  pub frames : frames_in capture ≡ frames_behind capture follower i

pub hunts-first : (capture : List ℕ) → Hunts capture at_first 0
unfolding frames_in frames_behind
hunts-first capture = record { ones = 0; hunting = refl; frames = refl }

-- a clock of such a one, who ends no frame: it hunts on, or has heard a start
module _ (capture : List ℕ) (i : ℕ) {follower next : Follower} (more : i < length capture) (moves : next ≡ follow enough (level capture i) follower) (now : Hunts capture follower i) where
  on : frames_in capture ≡ frames_behind capture next (i + 1)
  on =
      now.frames ∙ next-clock capture follower i more
      ∙ ap₂ (λ frames f. frames ++ frames_behind capture f (i + 1)) (ap (frames_ending (level capture i)) now.hunting) (sym moves)

  pub still-hunts : {n : ℕ} → next ≡ Hunting n → Hunts capture next (i + 1)
  still-hunts {n} is = record { ones = n; hunting = is; frames = on }

  pub starts : {seen bits : ℕ} → next ≡ Inside seen bits → frames_in capture ≡ frames_started (drop (i + 1) capture)
  unfolding frames_started frames_behind
  starts {seen} {bits} is =
      let moved : next ≡ follow enough (level capture i) (Hunting now.ones) = moves ∙ ap (follow enough (level capture i)) now.hunting in
      let kind : next ≡ started = moved ∙ now-started (level capture i) now.ones seen bits (sym moved ∙ is) in
      on ∙ ap (λ f. frames_behind capture f (i + 1)) kind

-- at the capture's end nothing more is heard
pub hunts-to-end : {capture : List ℕ} {follower : Follower} {i : ℕ} → Hunts capture follower i → length capture ≤ i → frames_in capture ≡ []
hunts-to-end {capture} {follower} {i} now past = now.frames ∙ nothing-behind capture follower i past
