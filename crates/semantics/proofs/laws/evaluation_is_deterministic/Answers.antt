use Rattle.semantics.proofs.laws.evaluation_is_deterministic.Goals as goal
use Rattle.semantics.proofs.Natural.{deterministic}

pub returns : goal.returns
returns c = deterministic
