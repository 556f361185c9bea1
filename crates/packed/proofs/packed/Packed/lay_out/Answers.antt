use Rattle.std.proofs.Common.{length, sym, refl, ap, ◌∙◌, subst, arith}
use Rattle.std.proofs.lemmas.List.{length-map}
use Rattle.shelf.specs.Entries.{Within, entry_for}
use Rattle.shelf.proofs.Entries.{within_entries, entries_all}
use Rattle.packed.specs.Slots.{entry_of, entries_of, starts_of}
use Rattle.packed.proofs.Means.{opened_list, opened_used, opened_placed}
use Rattle.packed.proofs.packed.Packed.lay_out.Goals as goal

pub invariant_of-self : goal.invariant_of-self
invariant_of-self c =
    let ks = c.args.kinds.now in
    let slots = c.slots_for-self.result.items in
    let e = c.slots_for-self.ensures.entries in
    record {
      few = omega (arith, ap length (e ∙ entries_all ks c.requires), length-map slots entry_of, length-map ks entry_for);
      within = subst Within (sym e) (within_entries ks);
      placed = opened_placed (entries_of slots) (starts_of slots) ks (length slots) c.requires e c.slots_for-self.ensures.starts;
      filled = opened_used (entries_of slots) ks c.requires e;
      fits = omega arith;
      sure = c.args.self.now.sure;
    }

pub returns : goal.returns
returns c =
    record {
      list = opened_list _ c.args.kinds.now c.requires c.slots_for-self.ensures.entries;
      capacity = refl;
    }
