use Rattle.semantics.proofs.laws.evaluation_is_reached.Goals as goal
use Rattle.semantics.proofs.Reaches.{converse}

pub returns : goal.returns
returns c = converse
