use Rattle.std.proofs.Common.{◌≡◌, ◌+◌, ◌-◌, ◌*◌, take, drop, sym, ap, ◌∙◌, arith, length-take}
use Rattle.shelf.specs.Limits.{longest}
use Rattle.shelf.specs.Value.{text}
use Rattle.rows.proofs.Means.{list_at, row_fits, text_short}
use Rattle.rows.proofs.rows.Rows.lend.Goals as goal

pub returns-in-Number : goal.returns-in-Number
returns-in-Number c = record { value = list_at c.args.self.now c.args.i c.requires.inside _ (c.requires.is ∙ c.in-Number.is); short = omega arith }

pub returns-in-Text : goal.returns-in-Text
returns-in-Text c =
    let s = c.args.self.now in
    let i = c.args.i in
    let n = c.in-Text.len in
    let at = longest * i in
    let m = c.deref.result.now in
    let d : n ≡ at + n - at = omega arith in
    let b = ap (λ z. text (take n (drop at z))) (sym c.deref.ensures.value) ∙ ap (λ k. text (take k (drop at m))) d in
    let h = text_short s i n (c.requires.is ∙ c.in-Text.is) in
    record {
      value = list_at s i c.requires.inside _ (c.requires.is ∙ c.in-Text.is) ∙ b;
      short = simp length-take (omega arith);
    }
