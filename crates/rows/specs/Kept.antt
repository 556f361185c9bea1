-- That `Rows` keeps the laws of a shelf.
use Rattle.std.specs.Prelude.{◌≡◌, ◌*◌, ◌≤◌, length, vec_items}
use Rattle.std.proofs.Common.{arith}
use Rattle.arrayvec.specs.ArrayVec.{array_vec_len}
use Rattle.shelf.specs.Limits.{longest}
use Rattle.shelf.specs.Value.{total}
use Rattle.shelf.specs.Laws.{Laws}
use Rattle.shelf.proofs.Values.{Bounded, total_bounded}
use Rattle.shelf.proofs.Entries.{length_laid, bounded_laid}
use Rattle.rows.specs.declared.rows.Rows.{Rows}
use Rattle.rows.specs.Model.{row, list_of}

pub length_list : (s : Rows) → length (list_of s) ≡ array_vec_len s.entries
unfolding list_of
length_list s = length_laid row s.entries.items (vec_items s.memory)

pub bounded_list : (s : Rows) → Bounded (list_of s)
unfolding list_of
bounded_list s = bounded_laid row s.entries.items (vec_items s.memory) s.within

few_entries : (s : Rows) → length (list_of s) ≤ s.slots
few_entries s = omega (arith, length_list s)

texts_fit : (s : Rows) → total (list_of s) ≤ longest * s.slots
texts_fit s = omega (arith, total_bounded (list_of s) (bounded_list s), length_list s)

pub rows_laws : Laws list_of (λ s. s.slots) (λ s. longest * s.slots)
rows_laws = record { few = few_entries; small = λ s. omega arith; fits = texts_fit; within = bounded_list }
