-- The limits of every shelf.
use Rattle.std.specs.Prelude.{ℕ}

-- the most slots
abbrev pub most_slots : ℕ
most_slots = 64

-- the most bytes of a text, and the length of a line
abbrev pub longest : ℕ
longest = 80

-- the largest number
abbrev pub largest : ℕ
largest = 4294967295
