use Rattle.std.proofs.Common.{◌≡◌, ◌+◌, ◌-◌, take, drop, vec_items, sym, ap, ◌∙◌, arith, length-take}
use Rattle.shelf.specs.Value.{text}
use Rattle.packed.proofs.Means.{list_at, text_short}
use Rattle.packed.proofs.packed.Packed.lend.Goals as goal

pub returns-in-Number : goal.returns-in-Number
returns-in-Number c = record { value = list_at c.args.self.now c.args.i c.requires.inside _ (sym c.requires.entry ∙ c.in-Number.is); short = omega arith }

pub returns-in-Text : goal.returns-in-Text
returns-in-Text c =
    let s = c.args.self.now in
    let i = c.args.i in
    let n = c.in-Text.len in
    let at = c.args.slot.start in
    let m = c.deref.result.now in
    let d : n ≡ at + n - at = omega arith in
    let b = ap (λ j. text (take n (drop j (vec_items s.pool)))) (sym c.requires.start) ∙ ap (λ z. text (take n (drop at z))) (sym c.deref.ensures.value) ∙ ap (λ k. text (take k (drop at m))) d in
    let h = text_short s i n (sym c.requires.entry ∙ c.in-Text.is) in
    record {
      value = list_at s i c.requires.inside _ (sym c.requires.entry ∙ c.in-Text.is) ∙ b;
      short = simp length-take (omega arith);
    }
