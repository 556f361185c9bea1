use Rattle.std.proofs.Common.{ap, arith}
use Rattle.shelf.specs.Entries.{extent}
use Rattle.packed.proofs.Means.{parts, total_put}
use Rattle.packed.proofs.packed.Packed.total_with.Goals as goal

pub overflow_sub-result : goal.overflow_sub-result
overflow_sub-result c = omega (arith, parts c.args.self.now c.args.i c.requires.inside, ap extent c.slot_at.ensures.entry)

pub returns : goal.returns
returns c =
    let p = parts c.args.self.now c.args.i c.requires.inside in
    let t = total_put c.args.self.now c.args.i c.requires.inside c.args.bytes.now in
    let e = ap extent c.slot_at.ensures.entry in
    omega arith
