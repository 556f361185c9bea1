use Rattle.std.proofs.Common.{◌≡◌, ◌+◌, ◌-◌, ◌*◌, false, length, sym, refl, ap, ◌∙◌, subst, arith, length-set}
use borrow.Rule.Slice.PartMut.{put_mid, same_len_mid}
use Rattle.std.proofs.lemmas.List.{with_items_is}
use Rattle.std.proofs.lemmas.Bool.{le-ltb}
use Rattle.shelf.specs.declared.entry.Entry.TheVariants.{Text}
use Rattle.shelf.specs.Limits.{longest}
use Rattle.shelf.specs.Entries.{too_large, Within}
use Rattle.shelf.proofs.Lists.{items-set}
use Rattle.shelf.proofs.Entries.{within_set}
use Rattle.rows.proofs.Means.{put_text, row_fits, texts_fit}
use Rattle.rows.proofs.rows.Rows.set_text.Goals as goal

pub overflow_add-at : goal.overflow_add-at
overflow_add-at c = omega (arith, row_fits c.args.self.now c.args.i c.requires.inside)

pub slice_bounds-copy_from_slice-end : goal.slice_bounds-copy_from_slice-end
slice_bounds-copy_from_slice-end c = omega (arith, row_fits c.args.self.now c.args.i c.requires.inside)

pub invariant_of-self : goal.invariant_of-self
invariant_of-self c =
    let s = c.args.self.now in
    let e = Text (length c.args.bytes.now) in
    let w : too_large e ≡ false = le-ltb longest (length c.args.bytes.now) c.requires.short in
    let q = items-set s.entries c.deref_mut-2.result.now c.args.i e c.deref_mut-2.ensures.value in
    record {
      few = omega (arith, ap length q, length-set s.entries.items c.args.i e);
      rows = s.rows;
      within = subst Within (sym q) (within_set s.entries.items c.args.i e s.within w);
    }

pub returns : goal.returns
returns c =
    let s = c.args.self.now in
    let i = c.args.i in
    let b = c.args.bytes.now in
    let ys = c.copy_from_slice.new.self in
    let j = longest * i + length b in
    let m = c.deref_mut.result.now in
    let f = with_items_is s.memory (put_mid (longest * i) (j - longest * i) m ys) (same_len_mid (longest * i) (j - longest * i) m ys c.copy_from_slice.ensures.len ∙ c.deref_mut.ensures.len) in
    let w = f ∙ ap (λ z. put_mid (longest * i) (j - longest * i) z ys) c.deref_mut.ensures.value in
    record {
      list = put_text s i c.requires.inside _ b ys j c.requires.short (items-set s.entries c.deref_mut-2.result.now i (Text (length b)) c.deref_mut-2.ensures.value) w refl c.copy_from_slice.ensures.after;
      slots = refl;
      fits = texts_fit s i c.requires.inside b c.requires.short;
    }
