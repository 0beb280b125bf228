-- An input longer than its buffer, which has room for one record more than is allowed. It is refused whatever its bytes:
-- by 1 if its length is no whole number of records, else by 2 (document 01, "Refusal numbers").
use Rattle.std.specs.Prelude.{ℕ, ◌≡◌, ◌+◌, ◌-◌, ◌≤◌, cond, eqb, List, length, take}

-- how many bytes of a buffer with this room stand for an input whose length goes `past` the last whole record of a size
unfoldable pub stand_in : ℕ → ℕ → ℕ → ℕ
stand_in room size past = cond (eqb past 0) room (room - size + past)

-- a count of bytes at the start of a buffer: the buffer has as many, and its part of that length is that long
abbrev pub IsPrefixLen : ℕ → List ℕ → Type 0
IsPrefixLen n xs = (n ≤ length xs) × (n ≡ length (take n xs))
