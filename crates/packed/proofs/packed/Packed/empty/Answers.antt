use Rattle.std.proofs.Common.{length, sym, refl, ap, subst, arith}
use Rattle.shelf.specs.Entries.{Within}
use Rattle.packed.specs.Slots.{entries_of}
use Rattle.packed.proofs.Means.{new_list}
use Rattle.packed.proofs.packed.Packed.empty.Goals as goal

pub invariant_of-result : goal.invariant_of-result
invariant_of-result c =
    let none = c.new.ensures in
    record {
      few = omega (arith, ap length none);
      within = subst (λ slots. Within (entries_of slots)) (sym none) (λ k. refl);
      placed = λ k h. absurd (omega (arith, ap length none));
      filled = rw none;
      fits = omega arith;
      sure = c.requires;
    }

pub returns : goal.returns
returns c = record { list = new_list _ c.new.ensures; capacity = refl; memory = refl }
