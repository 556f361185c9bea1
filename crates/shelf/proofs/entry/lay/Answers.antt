use Rattle.std.proofs.Common.{length, refl, ap, ◌∙◌, arith, length-set}
use Rattle.shelf.proofs.Entries.{table_more, table_done}
use Rattle.shelf.proofs.entry.lay.Goals as goal

pub loop-i-init : goal.loop-i-init
loop-i-init c = (ap length c.requires, refl, c.requires)

pub loop-i-preserved : goal.loop-i-preserved
loop-i-preserved c =
    let es = c.loop-i.entries in
    let ks = c.args.kinds.now in
    let i = c.loop-i.i in
    let v = c.fresh.result in
    let t = table_more es ks i v c.loop-i.invariant.0 (omega arith) (omega arith) c.fresh.ensures c.loop-i.invariant.1 c.loop-i.invariant.2 in
    (length-set es i v ∙ c.loop-i.invariant.0, t.0, t.1)

pub returns : goal.returns
returns c = table_done c.loop-i.entries c.args.kinds.now c.loop-i.i (omega arith) c.loop-i.invariant.1 c.loop-i.invariant.2
