-- What the slots of a packed shelf hold.
use Rattle.std.specs.Prelude.{ℕ, List, map}
use Rattle.shelf.specs.declared.entry.Entry.{Entry}
use Rattle.packed.specs.declared.slot.Slot.{Slot}

abbrev pub entry_of : Slot → Entry
entry_of slot = slot.entry

abbrev pub start_of : Slot → ℕ
start_of slot = slot.start

abbrev pub entries_of : List Slot → List Entry
entries_of slots = map entry_of slots

abbrev pub starts_of : List Slot → List ℕ
starts_of slots = map start_of slots
