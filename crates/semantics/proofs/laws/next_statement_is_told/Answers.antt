use Rattle.semantics.proofs.laws.next_statement_is_told.Goals as goal
use Rattle.semantics.proofs.Next.{next_is_told}

pub returns : goal.returns
returns c = next_is_told
