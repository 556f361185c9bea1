use Rattle.std.proofs.Common.{length, set, refl, ap, ◌∙◌, arith}
use Rattle.std.proofs.lemmas.List.{take_all}
use Rattle.std.proofs.lemmas.Bool.{le-ltb}
use Rattle.shelf.specs.Limits.{longest}
use Rattle.shelf.specs.Value.{text}
use Rattle.packed.specs.Model.{list_of}
use Rattle.packed.proofs.Means.{total_put}
use Rattle.packed.proofs.packed.Packed.set_text.Goals as goal

pub replace-requires : goal.replace-requires
replace-requires c =
    let b = c.args.bytes.now in
    let t = total_put c.args.self.now c.args.i c.requires.inside b in
    record {
      inside = c.requires.inside;
      size = refl;
      within = le-ltb longest (length b) c.requires.short;
      fits = omega arith;
    }

pub returns : goal.returns
returns c =
    let b = c.args.bytes.now in
    record {
      list = c.replace.ensures.list ∙ ap (λ t. set (list_of c.args.self.now) c.args.i (text t)) (take_all (length b) b (omega arith));
      capacity = c.replace.ensures.capacity;
    }
