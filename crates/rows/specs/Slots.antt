-- How many slots memory of so many bytes makes: a row for each.
use Rattle.std.specs.Prelude.{ℕ, ◌/◌, min}
use Rattle.shelf.specs.Limits.{most_slots, longest}

abbrev pub slots_of : ℕ → ℕ
slots_of bytes = min most_slots (bytes / longest)
