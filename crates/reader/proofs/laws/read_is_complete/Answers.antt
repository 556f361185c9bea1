use Rattle.reader.proofs.Meaning.{complete_read}
use Rattle.reader.proofs.laws.read_is_complete.Goals as goal

pub returns : goal.returns
returns c = complete_read
