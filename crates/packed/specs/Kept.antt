-- That `Packed` keeps the laws of a shelf.
use Rattle.std.specs.Prelude.{◌≡◌, ◌≤◌, length, vec_items}
use Rattle.std.proofs.Common.{sym, ◌∙◌, arith}
use Rattle.std.proofs.lemmas.List.{length-map}
use Rattle.arrayvec.specs.ArrayVec.{array_vec_len}
use Rattle.shelf.specs.Limits.{most_slots}
use Rattle.shelf.specs.Value.{total}
use Rattle.shelf.specs.Laws.{Laws}
use Rattle.shelf.specs.Entries.{extent}
use Rattle.shelf.proofs.Values.{Bounded}
use Rattle.shelf.proofs.Entries.{length_laid, bounded_laid, total_laid}
use Rattle.packed.specs.declared.packed.Packed.{Packed}
use Rattle.packed.specs.Slots.{entry_of, entries_of}
use Rattle.packed.specs.Model.{list_of}

pub length_list : (s : Packed) → length (list_of s) ≡ array_vec_len s.slots
unfolding list_of
length_list s = length_laid extent (entries_of s.slots.items) (vec_items s.pool) ∙ length-map s.slots.items entry_of

pub bounded_list : (s : Packed) → Bounded (list_of s)
unfolding list_of
bounded_list s = bounded_laid extent (entries_of s.slots.items) (vec_items s.pool) s.within

pub total_list : (s : Packed) → total (list_of s) ≡ s.used
unfolding list_of
total_list s = total_laid (entries_of s.slots.items) (vec_items s.pool) (omega arith) ∙ sym s.filled

few_entries : (s : Packed) → length (list_of s) ≤ most_slots
few_entries s = omega (arith, length_list s)

texts_fit : (s : Packed) → total (list_of s) ≤ s.capacity
texts_fit s = omega (arith, total_list s)

pub packed_laws : Laws list_of (λ _. most_slots) (λ s. s.capacity)
packed_laws = record { few = few_entries; small = λ _. omega arith; fits = texts_fit; within = bounded_list }
