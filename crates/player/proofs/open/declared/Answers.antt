use Rattle.std.proofs.Common.{refl, arith}
use Rattle.player.proofs.Opening.{kind_small, kinds_more}
use Rattle.player.proofs.open.declared.Goals as goal

pub overflow_cast-node : goal.overflow_cast-node
overflow_cast-node c = let k = kind_small c.args.deck.now c.nodes.result.now c.variables.result c.loop-node.node-index c.nodes.ensures c.variables.ensures c.loop-node-test.true in omega arith

pub loop-node-preserved : goal.loop-node-preserved
loop-node-preserved c = kinds_more c.args.deck.now c.nodes.result.now c.variables.result c.loop-node.node-index c.nodes.ensures c.variables.ensures c.loop-node-test.true c.loop-node.kinds.items c.push.new.self.items _ c.loop-node.invariant refl c.push.ensures.items
