use Rattle.reader.proofs.Meaning.{exact_read}
use Rattle.reader.proofs.laws.faults_are_exact.Goals as goal

pub returns : goal.returns
returns c = exact_read
