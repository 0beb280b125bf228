-- What Rust's types say of a board value: 32 places, each a PHY whose fields are within their types.
use Rattle.std.specs.Prelude.{ℕ, ◌<◌, ◌≡◌, length}
use Rattle.phy.specs.Typed.{Typed}
use Rattle.board.specs.declared.Board.{Board}
use Rattle.board.specs.Check.{places, place_at}

pub record TypedBoard (board : Board) : Type 0 where
  pub long : length board.phys ≡ places
  pub each : (k : ℕ) → k < places → Typed (place_at board k)
