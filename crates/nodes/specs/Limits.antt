-- The limits of a sheet, one name each.
use Rattle.std.specs.Prelude.{ℕ}

abbrev pub most_nodes : ℕ
most_nodes = 512

abbrev pub most_letters : ℕ
most_letters = 4096

abbrev pub most_variables : ℕ
most_variables = 64

abbrev pub deepest_level : ℕ
deepest_level = 32

abbrev pub deepest_nest : ℕ
deepest_nest = 16
