use Rattle.semantics.proofs.laws.law_holds.Goals as goal
use Rattle.semantics.proofs.Lawfulness.{law}

pub returns : goal.returns
returns c = law
