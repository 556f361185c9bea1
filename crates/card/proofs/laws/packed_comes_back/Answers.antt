use Rattle.card.proofs.Lawful.{returns as law}
use Rattle.card.proofs.laws.packed_comes_back.Goals as goal

pub returns : goal.returns
returns c = law
