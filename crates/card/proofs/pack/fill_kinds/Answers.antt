use Rattle.std.proofs.Common.{map, arith}
use lib.ListN.{length-map}
use Rattle.card.proofs.Cards.{kinds_more, all_copied}
use Rattle.card.proofs.pack.fill_kinds.Goals as goal

pub loop-i-preserved : goal.loop-i-preserved
loop-i-preserved c = kinds_more c.loop-i.out c.args.nodes.now c.loop-i.i (omega arith) (omega arith) c.loop-i.invariant

pub returns : goal.returns
returns c = let l = length-map c.args.nodes.now (λ x. x.kind) in all_copied c.loop-i.out (map (λ x. x.kind) c.args.nodes.now) c.loop-i.i (omega arith) (omega arith) c.loop-i.invariant
