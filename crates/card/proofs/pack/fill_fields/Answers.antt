use Rattle.std.proofs.Common.{sym, ap, ◌∙◌, arith, take_all}
use Rattle.std.specs.List.{flat_map}
use Rattle.card.specs.Card.{fields_of}
use Rattle.card.proofs.Cards.{fields_more}
use Rattle.card.proofs.pack.fill_fields.Goals as goal

pub loop-i-preserved : goal.loop-i-preserved
loop-i-preserved c = fields_more c.loop-i.out c.args.nodes.now c.loop-i.i _ _ (omega arith) (omega arith) (c.copy_from_slice.ensures.after ∙ c.triple.ensures) c.loop-i.invariant

pub returns : goal.returns
returns c = sym (take_all _ c.loop-i.out (omega arith)) ∙ c.loop-i.invariant ∙ ap (flat_map fields_of) (take_all c.loop-i.i c.args.nodes.now (omega arith))
