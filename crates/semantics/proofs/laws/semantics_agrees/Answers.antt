use Rattle.semantics.proofs.laws.semantics_agrees.Goals as goal
use Rattle.semantics.proofs.Agree.{agreement}

pub returns : goal.returns
returns c = agreement
