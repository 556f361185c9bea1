use Rattle.std.proofs.Common.{◌≡◌, map, take}
use Rattle.shelf.specs.Entries.{entry_for}
use Rattle.shelf.proofs.entry.entries_for.Given as goal

abbrev pub invariant-loop-kind : goal.invariant-loop-kind
invariant-loop-kind l = l.entries.items ≡ map entry_for (take l.kind-index l.kinds)
