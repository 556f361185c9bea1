use Rattle.grammar.proofs.Meaning.{faults}
use Rattle.grammar.proofs.faults_mean_what_they_say.Goals as goal

pub returns : goal.returns
returns c = faults
