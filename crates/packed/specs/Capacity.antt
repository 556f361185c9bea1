-- The capacity that a pool of so many bytes makes.
use Rattle.std.specs.Prelude.{ℕ, ◌*◌, min}
use Rattle.shelf.specs.Limits.{most_slots, longest}

-- more bytes could not be on a shelf
abbrev pub most_bytes : ℕ
most_bytes = most_slots * longest

abbrev pub capacity_of : ℕ → ℕ
capacity_of bytes = min most_bytes bytes
