use Rattle.std.proofs.Common.{◌≡◌, ℕ, ◌+◌, ◌-◌, ◌<◌, ◌≤◌, ◌≢◌, map, length, get_or, drop, set, sym, refl, ap, ◌∙◌, ⊎_elim, arith, length-take, length-drop}
use Rattle.std.proofs.Math.Seq.{map-set_same}
use Rattle.std.proofs.lemmas.List.{map-set, length-map, get_or-set_same, get_or-set_other}
use Rattle.std.proofs.lemmas.Bool.{cases_lt}
use Rattle.packed.specs.declared.slot.Slot.{Slot}
use Rattle.packed.specs.Slots.{entry_of, start_of, starts_of}
use Rattle.packed.proofs.Slots.{blank, map-put_mid, map-put_mid_same, put_before, put_within, start_in, part_start}
use Rattle.packed.proofs.slot.shift.Goals as goal

pub returns-clause-entries : goal.returns-clause-entries
returns-clause-entries c =
    let xs = c.args.slots.now in
    map-put_mid_same entry_of c.args.from (length xs - c.args.from) xs c.loop-slot.slot-items c.loop-slot.invariant.entries

pub returns-clause-before : goal.returns-clause-before
returns-clause-before c k h =
    let xs = c.args.slots.now in
    let n = length-map xs start_of in
    ap (λ zs. get_or zs k 0) (map-put_mid start_of c.args.from (length xs - c.args.from) xs c.loop-slot.slot-items)
    ∙ put_before (starts_of xs) (starts_of c.loop-slot.slot-items) c.args.from (length xs) k h (omega arith)

pub returns-clause-moved : goal.returns-clause-moved
returns-clause-moved c k h b =
    let xs = c.args.slots.now in
    let a = c.args.from in
    let ys = c.loop-slot.slot-items in
    let n = length-map xs start_of in
    let m = length-map ys start_of in
    let d = length-drop a xs in
    let t = length-take (length xs - a) (drop a xs) in
    let w = ap (λ zs. get_or zs k 0) (map-put_mid start_of a (length xs - a) xs ys) ∙ put_within (starts_of xs) (starts_of ys) a (length xs) k h b (omega arith) (omega arith) in
    let v = c.loop-slot.invariant.moved (k - a) (omega arith) in
    let s = part_start xs a (length xs - a) (k - a) (omega arith) in
    let z : get_or (starts_of xs) (a + (k - a)) 0 ≡ get_or (starts_of xs) k 0 = ap (λ i. get_or (starts_of xs) i 0) (omega arith) in
    w ∙ v ∙ ap (λ i. i - c.args.old + c.args.new) (s ∙ z)

pub overflow_sub-slot : goal.overflow_sub-slot
overflow_sub-slot c =
    let xs = c.args.slots.now in
    let a = c.args.from in
    let i = c.loop-slot.slot-index in
    let d = length-drop a xs in
    let t = length-take (length xs - a) (drop a xs) in
    let s = part_start xs a (length xs - a) i (omega arith) in
    let q = c.requires.behind (a + i) (omega arith) (omega arith) in
    omega (arith, start_in c.loop-slot.slot-items i, c.loop-slot.invariant.left i (omega arith))

pub overflow_add-slot : goal.overflow_add-slot
overflow_add-slot c =
    let xs = c.args.slots.now in
    let a = c.args.from in
    let i = c.loop-slot.slot-index in
    let d = length-drop a xs in
    let t = length-take (length xs - a) (drop a xs) in
    let s = part_start xs a (length xs - a) i (omega arith) in
    let q = c.requires.behind (a + i) (omega arith) (omega arith) in
    omega (arith, start_in c.loop-slot.slot-items i, c.loop-slot.invariant.left i (omega arith))

pub loop-slot-preserved : goal.loop-slot-preserved
loop-slot-preserved c =
    let ys = c.loop-slot.slot-items in
    let i = c.loop-slot.slot-index in
    let y : Slot = record { entry = (get_or ys i blank).entry; start = (get_or ys i blank).start - c.args.old + c.args.new } in
    let n = length-map ys start_of in
    let q : map start_of (set ys i y) ≡ set (starts_of ys) i y.start = map-set start_of ys i y in
    let other = λ (k : ℕ) (d : k ≢ i). ap (λ zs. get_or zs k 0) q ∙ get_or-set_other (starts_of ys) i k y.start 0 d in
    let same = ap (λ zs. get_or zs i 0) q ∙ get_or-set_same (starts_of ys) i y.start 0 (omega arith) in
    let here = ap (λ j. j - c.args.old + c.args.new) (sym (start_in ys i) ∙ c.loop-slot.invariant.left i (omega arith)) in
    record {
      entries = map-set_same entry_of ys i y blank refl ∙ c.loop-slot.invariant.entries;
      moved = λ k h.
          ⊎_elim
          (λ (l : k < i). other k (λ e. omega arith) ∙ c.loop-slot.invariant.moved k l)
          (λ (l : i ≤ k). let e : k ≡ i = omega arith in rw e (same ∙ here))
          (cases_lt k i);
      left = λ k h. other k (λ e. omega arith) ∙ c.loop-slot.invariant.left k (omega arith);
    }
