use Rattle.words.proofs.Reading.{no_keyword}
use Rattle.words.proofs.laws.names_are_no_keywords.Goals as goal

pub returns : goal.returns
returns c = no_keyword
