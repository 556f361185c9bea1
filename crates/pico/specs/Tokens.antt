-- How many words a text may still have.
use Rattle.std.specs.Prelude.{ℕ, ◌+◌, ◌-◌, Some, None, Option}

-- behind the place p of a text of n bytes; none behind a fault
abbrev pub most_left : Option ℕ → ℕ → ℕ
most_left (Some p) n = n - p + 1
most_left None n = 0
