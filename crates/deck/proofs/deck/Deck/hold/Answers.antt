use Rattle.std.proofs.Common.{take, rules}
use Rattle.deck.proofs.Accepted.{copied, front}
use Rattle.deck.proofs.deck.Deck.hold.Goals as goal

pub invariant_of-self : goal.invariant_of-self
invariant_of-self c =
    let q = front c.args.letters.now c.args.nodes.now c.args.n c.args.v c.requires in
    record { loaded = copied c.args.letters.now c.try_extend_from_slice-2.new.self.items (take c.args.n c.args.nodes.now) c.try_extend_from_slice.new.self.items c.args.v q (search rules) (search rules) }
