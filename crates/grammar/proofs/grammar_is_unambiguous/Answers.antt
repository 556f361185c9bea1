use Rattle.grammar.proofs.Complete.{unambiguous}
use Rattle.grammar.proofs.grammar_is_unambiguous.Goals as goal

pub returns : goal.returns
returns c = unambiguous
