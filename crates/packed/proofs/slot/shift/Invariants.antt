use Rattle.std.proofs.Common.{◌≡◌, ℕ, ◌+◌, ◌-◌, ◌<◌, ◌≤◌, get_or}
use Rattle.packed.specs.Slots.{entries_of, starts_of}
use Rattle.packed.proofs.slot.shift.Given as goal

abbrev pub invariant-loop-slot : goal.invariant-loop-slot
invariant-loop-slot l = record {
  entries : entries_of l.slot-items ≡ entries_of l.initial.slot-items;
  moved : (k : ℕ) → k < l.slot-index → get_or (starts_of l.slot-items) k 0 ≡ get_or (starts_of l.initial.slot-items) k 0 - l.old + l.new;
  left : (k : ℕ) → l.slot-index ≤ k → get_or (starts_of l.slot-items) k 0 ≡ get_or (starts_of l.initial.slot-items) k 0;
}
