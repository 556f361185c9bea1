use Rattle.std.proofs.Common.{◌≡◌, false, length, sym, refl, ap, subst, arith, length-set}
use Rattle.std.proofs.lemmas.Bool.{le-ltb}
use Rattle.shelf.specs.declared.entry.Entry.TheVariants.{Number}
use Rattle.shelf.specs.Limits.{largest}
use Rattle.shelf.specs.Value.{number}
use Rattle.shelf.specs.Entries.{too_large, Within}
use Rattle.shelf.proofs.Lists.{items-set}
use Rattle.shelf.proofs.Entries.{within_set}
use Rattle.rows.proofs.Means.{put_entry}
use Rattle.rows.proofs.rows.Rows.set_number.Goals as goal

pub invariant_of-self : goal.invariant_of-self
invariant_of-self c =
    let s = c.args.self.now in
    let e = Number c.args.x in
    let w : too_large e ≡ false = le-ltb largest c.args.x (omega arith) in
    let q = items-set s.entries c.deref_mut.result.now c.args.i e c.deref_mut.ensures.value in
    record {
      few = omega (arith, ap length q, length-set s.entries.items c.args.i e);
      rows = s.rows;
      within = subst Within (sym q) (within_set s.entries.items c.args.i e s.within w);
    }

pub returns : goal.returns
returns c =
    let s = c.args.self.now in
    record {
      list = put_entry s c.args.i c.requires _ (Number c.args.x) (number c.args.x) (items-set s.entries c.deref_mut.result.now c.args.i (Number c.args.x) c.deref_mut.ensures.value) refl refl refl;
      slots = refl;
    }
