-- A test of every register, as a closure makes it.
use Rattle.std.specs.Prelude.{ℕ, ◌<◌, ◌≡◌, Bool}
use Rattle.phy.specs.Record.{register_count}

-- each register may be tested
abbrev pub AtEach : (ℕ → Type 0) → Type 0
AtEach may = (r : ℕ) → r < register_count → may r

-- and what is found of each is what a test says
abbrev pub Finds : (ℕ → Bool → Type 0) → (ℕ → Bool) → Type 0
Finds found test = (r : ℕ) → r < register_count → (b : Bool) → found r b → b ≡ test r
