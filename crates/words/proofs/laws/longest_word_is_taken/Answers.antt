use Rattle.words.proofs.Reading.{longest}
use Rattle.words.proofs.laws.longest_word_is_taken.Goals as goal

pub returns : goal.returns
returns c = longest
