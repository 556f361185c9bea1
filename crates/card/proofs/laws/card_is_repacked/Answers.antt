use Rattle.card.proofs.Lawful.{repacks as law}
use Rattle.card.proofs.laws.card_is_repacked.Goals as goal

pub returns : goal.returns
returns c = law
