use Rattle.words.proofs.Reading.{makes_up}
use Rattle.words.proofs.laws.words_make_up_the_text.Goals as goal

pub returns : goal.returns
returns c = makes_up
