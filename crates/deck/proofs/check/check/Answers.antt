use Rattle.std.proofs.Common.{take, rules}
use Rattle.deck.proofs.Clean.{judged_part}
use Rattle.deck.proofs.check.check.Goals as goal

pub returns : goal.returns
returns c =
    judged_part c.args.letters.now c.args.nodes.now (take c.args.n c.args.nodes.now) c.args.n c.args.v c.judge.result c.if-not-sizes_fit.ensures (search rules) (search rules) c.judge.ensures
