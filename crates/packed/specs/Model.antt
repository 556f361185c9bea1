-- The list that a value of `Packed` stands for.
use Rattle.std.specs.Prelude.{List, vec_items}
use Rattle.shelf.specs.Value.{Value}
use Rattle.shelf.specs.Entries.{laid, extent}
use Rattle.packed.specs.declared.packed.Packed.{Packed}
use Rattle.packed.specs.Slots.{entries_of}

-- every entry takes just the bytes of its text
unfoldable pub list_of : Packed → List Value
list_of s = laid extent (entries_of s.slots.items) (vec_items s.pool)
