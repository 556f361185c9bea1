use Rattle.words.proofs.Reading.{ends}
use Rattle.words.proofs.laws.reading_ends.Goals as goal

pub returns : goal.returns
returns c = ends
