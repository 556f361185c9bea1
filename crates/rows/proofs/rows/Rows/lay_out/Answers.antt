use Rattle.std.proofs.Common.{length, sym, refl, ap, ◌∙◌, subst, arith}
use Rattle.std.proofs.lemmas.List.{length-map}
use Rattle.shelf.specs.Entries.{Within, entry_for}
use Rattle.shelf.proofs.Entries.{within_entries, entries_all}
use Rattle.rows.proofs.Means.{opened_list}
use Rattle.rows.proofs.rows.Rows.lay_out.Goals as goal

pub invariant_of-self : goal.invariant_of-self
invariant_of-self c =
    let s = c.args.self.now in
    let ks = c.args.kinds.now in
    let e = c.entries_for-self.ensures in
    record {
      few = omega (arith, ap length (e ∙ entries_all ks (omega arith)), length-map ks entry_for);
      rows = s.rows;
      within = subst Within (sym e) (within_entries ks);
    }

pub returns : goal.returns
returns c =
    record {
      list = opened_list _ c.args.kinds.now (omega arith) c.entries_for-self.ensures;
      slots = refl;
    }
