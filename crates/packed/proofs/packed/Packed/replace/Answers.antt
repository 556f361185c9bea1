use Rattle.std.proofs.Common.{◌≡◌, ◌+◌, ◌-◌, length, get_or, take, drop, set, sym, refl, ap, ◌∙◌, subst, sum_by, arith}
use Rattle.std.proofs.lemmas.List.{with_items_is}
use Rattle.arrayvec.specs.ArrayVec.{with_items}
use Rattle.arrayvec.proofs.ArrayVecLemmas.{items-with_items}
use Rattle.shelf.specs.Entries.{extent, Within}
use Rattle.shelf.proofs.Entries.{within_set, extent_within}
use Rattle.packed.specs.declared.slot.Slot.{Slot}
use Rattle.packed.specs.Slots.{entries_of, starts_of}
use Rattle.packed.proofs.Slots.{blank, length_written, entries_written, starts_written}
use Rattle.packed.proofs.Means.{in_use, parts, used_put, put_bytes, behind, placed_put, placed_as}
use Rattle.packed.proofs.packed.Packed.replace.Goals as goal

pub overflow_add-from : goal.overflow_add-from
overflow_add-from c = omega (arith, parts c.args.self.now c.args.i c.requires.inside, ap extent c.slot_at-before.ensures.entry)

pub splice-requires : goal.splice-requires
splice-requires c =
    let p = parts c.args.self.now c.args.i c.requires.inside in
    let e = ap extent c.slot_at-before.ensures.entry in
    record { order = (omega arith, omega arith, omega arith); fits = omega arith }

pub shift-requires : goal.shift-requires
shift-requires c =
    let s = c.args.self.now in
    let i = c.args.i in
    let same = c.deref_mut-2.ensures.value in
    let n = ap length same in
    let e = ap extent c.slot_at-before.ensures.entry in
    record {
      ends = omega arith;
      short = omega (arith, extent_within c.args.entry c.requires.within);
      behind = λ k h b.
          let q = behind s i c.requires.inside k (omega arith) (omega arith) in
          let g = ap (λ zs. get_or (starts_of zs) k 0) same in
          (omega arith, omega arith);
    }

pub overflow_sub-self : goal.overflow_sub-self
overflow_sub-self c = omega (arith, parts c.args.self.now c.args.i c.requires.inside, ap extent c.slot_at-before.ensures.entry)

pub overflow_add-self : goal.overflow_add-self
overflow_add-self c = omega (arith, parts c.args.self.now c.args.i c.requires.inside, ap extent c.slot_at-before.ensures.entry)

pub invariant_of-self : goal.invariant_of-self
invariant_of-self c =
    let s = c.args.self.now in
    let i = c.args.i in
    let e = c.args.entry in
    let p = parts s i c.requires.inside in
    let u = used_put s i c.requires.inside e in
    let x = ap extent c.slot_at-before.ensures.entry in
    let same = c.deref_mut-2.ensures.value in
    let v = with_items s.slots c.shift.new.slots in
    let moved : v.items ≡ c.shift.new.slots = items-with_items s.slots c.shift.new.slots (c.shift.auto.slots ∙ ap length same) in
    let xs = c.deref_mut-3.result.now in
    let y : Slot = record { entry = e; start = (get_or xs i blank).start } in
    let n = length_written v xs i y c.deref_mut-3.ensures.value ∙ ap length moved ∙ c.shift.auto.slots ∙ ap length same in
    let es = entries_written v xs i y c.deref_mut-3.ensures.value ∙ ap (λ zs. set zs i e) (ap entries_of moved ∙ c.shift.ensures.entries ∙ ap entries_of same) in
    let ss = starts_written v xs i y c.deref_mut-3.ensures.value refl ∙ ap starts_of moved in
    let put =
    placed_put s i c.requires.inside e (starts_of c.shift.new.slots)
    (λ k h. c.shift.ensures.before k h ∙ ap (λ zs. get_or (starts_of zs) k 0) same)
    (λ k h b. omega (arith, c.shift.ensures.moved k h (omega (arith, ap length same)), ap (λ zs. get_or (starts_of zs) k 0) same)) in
    record {
      few = omega arith;
      within = subst Within (sym es) (within_set (in_use s) i e s.within c.requires.within);
      placed = placed_as _ _ _ _ _ _ n es ss put;
      filled = omega (arith, ap (sum_by extent) es);
      fits = omega arith;
      sure = omega arith;
    }

pub returns : goal.returns
returns c =
    let s = c.args.self.now in
    let i = c.args.i in
    let same = c.deref_mut-2.ensures.value in
    let slots = with_items s.slots c.shift.new.slots in
    let moved : slots.items ≡ c.shift.new.slots = items-with_items s.slots c.shift.new.slots (c.shift.auto.slots ∙ ap length same) in
    let xs = c.deref_mut-3.result.now in
    let y : Slot = record { entry = c.args.entry; start = (get_or xs i blank).start } in
    let es = entries_written slots xs i y c.deref_mut-3.ensures.value ∙ ap (λ zs. set zs i c.args.entry) (ap entries_of moved ∙ c.shift.ensures.entries ∙ ap entries_of same) in
    let k = c.splice.new.pool in
    let from = c.slot_at-before.result.start in
    let to = from + c.size-old.result in
    let f = with_items_is s.pool k (omega arith) in
    let v = c.deref_mut.ensures.value in
    let e = c.splice.ensures in
    let x = ap extent c.slot_at-before.ensures.entry in
    record {
      list = put_bytes s i c.requires.inside _ c.args.entry c.args.bytes.now k from to es f c.slot_at-before.ensures.start (omega arith) c.requires.size (e.before ∙ ap (take from) v) e.here (e.behind ∙ ap (λ z. take (s.used - to) (drop to z)) v);
      capacity = refl;
    }
