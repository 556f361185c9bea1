use Rattle.std.proofs.Common.{◌≡◌, ◌-◌, map, length, take, drop, replicate}
use Rattle.shelf.specs.declared.entry.Entry.TheVariants.{Number}
use Rattle.shelf.specs.Limits.{most_slots}
use Rattle.shelf.specs.Entries.{entry_for}
use Rattle.shelf.proofs.entry.lay.Given as goal

abbrev pub invariant-loop-i : goal.invariant-loop-i
invariant-loop-i l =
    (length l.entries ≡ most_slots)
    × (take l.i l.entries ≡ map entry_for (take l.i l.kinds))
    × (drop l.i l.entries ≡ replicate (most_slots - l.i) (Number 0))
