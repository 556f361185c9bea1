-- The list that a value of `Rows` stands for.
use Rattle.std.specs.Prelude.{ℕ, List, vec_items}
use Rattle.shelf.specs.declared.entry.Entry.{Entry}
use Rattle.shelf.specs.Limits.{longest}
use Rattle.shelf.specs.Value.{Value}
use Rattle.shelf.specs.Entries.{laid}
use Rattle.rows.specs.declared.rows.Rows.{Rows}

-- every entry takes a row
abbrev pub row : Entry → ℕ
row e = longest

unfoldable pub list_of : Rows → List Value
list_of s = laid row s.entries.items (vec_items s.memory)
