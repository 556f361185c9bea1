use Rattle.std.proofs.Common.{◌≡◌, false, get_or, sym, refl, ap, ◌∙◌, subst, sum_by, arith}
use Rattle.std.proofs.lemmas.Bool.{le-ltb}
use Rattle.shelf.specs.declared.entry.Entry.TheVariants.{Number}
use Rattle.shelf.specs.Limits.{largest}
use Rattle.shelf.specs.Entries.{extent, too_large, Within}
use Rattle.shelf.proofs.Entries.{within_set}
use Rattle.packed.specs.declared.slot.Slot.{Slot}
use Rattle.packed.specs.Slots.{starts_of}
use Rattle.packed.proofs.Slots.{blank, length_written, entries_written, starts_written}
use Rattle.packed.proofs.Means.{in_use, used_put, put_number, placed_put, placed_as, behind}
use Rattle.packed.proofs.packed.Packed.set_number.Goals as goal

pub invariant_of-self : goal.invariant_of-self
invariant_of-self c =
    let s = c.args.self.now in
    let i = c.args.i in
    let e = Number c.args.x in
    let w : too_large e ≡ false = le-ltb largest c.args.x (omega arith) in
    let z = ap extent (sym c.slot_at.ensures.entry ∙ c.in-Number.is) in
    let u = used_put s i c.requires e in
    let xs = c.deref_mut.result.now in
    let y : Slot = record { entry = e; start = (get_or xs i blank).start } in
    let n = length_written s.slots xs i y c.deref_mut.ensures.value in
    let es = entries_written s.slots xs i y c.deref_mut.ensures.value in
    let ss = starts_written s.slots xs i y c.deref_mut.ensures.value refl in
    let put = placed_put s i c.requires e (starts_of s.slots.items) (λ k h. refl) (λ k h b. omega (arith, behind s i c.requires k (omega arith) b)) in
    record {
      few = omega arith;
      within = subst Within (sym es) (within_set (in_use s) i e s.within w);
      placed = placed_as _ _ _ _ _ _ n es ss put;
      filled = omega (arith, ap (sum_by extent) es);
      fits = s.fits;
      sure = s.sure;
    }

pub returns-in-Number : goal.returns-in-Number
returns-in-Number c =
    let s = c.args.self.now in
    let xs = c.deref_mut.result.now in
    let y : Slot = record { entry = Number c.args.x; start = (get_or xs c.args.i blank).start } in
    let es = entries_written s.slots xs c.args.i y c.deref_mut.ensures.value in
    record {
      list = put_number s c.args.i c.requires _ c.args.x es refl (ap extent (sym c.slot_at.ensures.entry ∙ c.in-Number.is));
      capacity = refl;
    }
