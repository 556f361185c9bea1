-- Where the texts of entries begin that lie back to back.
use Rattle.std.specs.Prelude.{◌≡◌, ℕ, ◌<◌, List, take, sum_by, slice_index}
use Rattle.shelf.specs.declared.entry.Entry.{Entry}
use Rattle.shelf.specs.Entries.{extent}

-- each of the first n entries starts behind all those before it
abbrev pub Placed : ℕ → List Entry → List ℕ → Type 0
Placed n es starts = (k : ℕ) → k < n → slice_index starts k ≡ sum_by extent (take k es)
