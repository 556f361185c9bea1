use Rattle.std.proofs.Common.{length, sym, ap, arith}
use Rattle.nodes.specs.Nodes.{blank}
use Rattle.card.specs.Card.{nodes_by}
use Rattle.card.proofs.Cards.{nodes_size}
use Rattle.card.proofs.Writes.{laid}
use Rattle.card.proofs.parts.Parts.lay_out.Goals as goal

pub returns : goal.returns
returns c =
    let p = c.args.self.now in
    let l = nodes_size p.kinds.now p.fields.now in
    record {
      says = ap (λ k. record { n = k; v = p.v; t = length p.letters.now }) (sym l);
      nodes = laid (nodes_by p.kinds.now p.fields.now) c.fill.new.nodes c.args.nodes.now _ blank c.fill.ensures (omega arith) c.requires.wiped.0;
      letters = laid p.letters.now c.copy_from_slice.new.self c.args.letters.now _ 0 c.copy_from_slice.ensures.after (omega arith) c.requires.wiped.1;
    }
