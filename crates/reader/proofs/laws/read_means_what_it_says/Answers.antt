use Rattle.reader.proofs.Meaning.{meant}
use Rattle.reader.proofs.laws.read_means_what_it_says.Goals as goal

pub returns : goal.returns
returns c = meant
