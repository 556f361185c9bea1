use Rattle.std.proofs.Common.{ap, ◌∙◌, rules, arith}
use Rattle.std.specs.Option.{option_map}
use Rattle.nodes.specs.Kinds.{kind_number}
use Rattle.deck.proofs.OfDeck.{kind_found}
use Rattle.deck.proofs.deck.Deck.kind_at.Goals as goal

pub returns : goal.returns
returns c =
    ap (option_map kind_number) c.ok.ensures.value ∙ kind_found c.args.self.now c.args.i c.node_at.result c.try_from.result (omega arith) (search rules) c.try_from.ensures
