use Rattle.std.proofs.Common.{◌≡◌, ℕ, take, get_or}
use Rattle.packed.specs.Slots.{entries_of, starts_of}
use Rattle.packed.proofs.slot.slots_for.Given as goal

abbrev pub invariant-loop-entry : goal.invariant-loop-entry
invariant-loop-entry l = record {
  entries : entries_of l.slots.items ≡ take l.entry-index l.entry-items;
  starts : (k : ℕ) → get_or (starts_of l.slots.items) k 0 ≡ 0;
}
