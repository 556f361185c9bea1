use Rattle.grammar.proofs.Meaning.{exact}
use Rattle.grammar.proofs.faults_are_exact.Goals as goal

pub returns : goal.returns
returns c = exact
